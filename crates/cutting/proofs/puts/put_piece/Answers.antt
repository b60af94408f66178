use Rattle.std.proofs.Common.{ℕ, List, ◌%◌, ◌∷◌, ◌++◌, Some, pos, decimal, sym, ap, subst, ◌∙◌}
use Rattle.std.specs.List.{flat_map}
use Rattle.jobs.specs.Spelled.{mark}
use Rattle.lines.specs.Spelling.{word}
use Rattle.cutting.specs.Puts.{Puts}
use Rattle.cutting.proofs.Putting.{puts_both}
use Rattle.cutting.proofs.Pieces.{mark_text, listed_again}
use Rattle.cutting.proofs.puts.put_piece.Goals as goal

-- tile, turn, mark and place, one after the other
pub returns : goal.returns
returns g c =
    let m = g.met.R.Ring in
    let E = g.R.Ring.exact in
    let p = c.args.piece.now in
    let b0 = c.args.buffer.now in
    let b1 = c.put_number.new.buffer in
    let b2 = c.put_word.new.buffer in
    let b3 = c.put_word-2.new.buffer in
    let b4 = c.put_place.new.buffer in
    let r = c.put_place.result in
    let a1 = c.in_ok-at.at in
    let a2 = c.in_ok-at-2.at in
    let a3 = c.in_ok-at-3.at in
    let tile : List ℕ = decimal p.tile in
    let turn : List ℕ = word (pos (p.turn % E.n)) in
    let marked : List ℕ = word (mark p.mirrored) in
    let place : List ℕ = flat_map word (E.list (E.of (g.R.Ring.listed p.place))) in
    let turned : Puts b1 a1 turn b2 (Some a2) = subst (λ n. Puts b1 a1 (word (pos (p.turn % n))) b2 (Some a2)) (c.N.ensures ∙ m.counts_turns) c.in_ok-at-2.ensures in
    let mirrored : Puts b2 a2 marked b3 (Some a3) = subst (λ l. Puts b2 a2 l b3 (Some a3)) (ap (λ n. 32 ∷ decimal n) c.from.ensures ∙ mark_text p.mirrored) c.in_ok-at-3.ensures in
    let placed : Puts b3 a3 place b4 r = subst (λ cs. Puts b3 a3 (flat_map word cs) b4 r) (sym (listed_again E g.R.Ring.listed g.R.Ring.row m.listed_row m.row_listed p.place)) c.put_place.ensures in
    puts_both b0 b3 b4 c.args.at a3 (tile ++ turn ++ marked) place r
    (puts_both b0 b2 b3 c.args.at a2 (tile ++ turn) marked (Some a3)
    (puts_both b0 b1 b2 c.args.at a1 tile turn (Some a2) c.in_ok-at.ensures turned) mirrored) placed
