-- Counts of one edge.
use Rattle.std.specs.Prelude.{cond, not, ◌&&◌, ℤ, pos, negsuc, ◌+ℤ◌, neg_ℤ}
use Rattle.exact.specs.Cyclotomic.{Cyclotomic}
use Rattle.exact.specs.Groups.{AbelianGroup}
use Rattle.exact.specs.Residues.{Residue, residue}
use Rattle.chains.specs.Books.{Book, label_at}
use Rattle.chains.specs.Edges.{Edge, edge, same_edge, reversed}

-- whole numbers modulo 2^64
abbrev pub residues : AbelianGroup
residues = record {
  Val = Residue;
  zero = residue (pos 0);
  sum = λ x y. residue (x.at +ℤ y.at);
  opposite = λ x. residue (neg_ℤ x.at);
}

module _ (E : Cyclotomic) where
  -- the edge with its direction taken modulo n
  abbrev pub reduced : Edge E → Edge E
  reduced x = edge E x.label x.direction x.start

  -- 1 on the edge w, -1 on w from its other end where its label is plain, 0 on every other edge
  unfoldable pub watched : Book E → Edge E → Edge E → ℤ
  watched B w x = cond (same_edge E (reduced x) (reduced w))
      (pos 1)
      (cond (not (label_at B x.label).arrowed && same_edge E (reversed E B x) (reduced w)) (negsuc 0) (pos 0))
