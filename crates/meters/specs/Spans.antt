-- What is told of an edge between two positions.
use Rattle.std.specs.Prelude.{◌≡◌, ◌+◌, ◌%◌, ◌<◌}
use Rattle.exact.specs.Cyclotomic.{Cyclotomic, half}
use Rattle.exact.specs.JobNumbers.{Step}
use Rattle.chains.specs.Books.{Book, Placement, label_at}
use Rattle.chains.specs.Edges.{along}
use Rattle.chains.specs.Placements.{image}
use Rattle.meters.specs.declared.span.Span.{Span}

-- the edge is as a book has it: its direction is below n, and its end, the direction back and the label's kind are the book's
pub record Shows {S : Type 0} (E : Cyclotomic) (B : Book E) (value : S → E.Elem) (x : Span S) : Type 0 where
  pub reduced : x.edge.direction < E.n
  pub ends : value x.end ≡ along E B x.edge.label x.edge.direction (value x.edge.start)
  pub back : x.back ≡ (x.edge.direction + half E) % E.n
  pub kind : x.arrowed ≡ (label_at B x.edge.label).arrowed

-- a step of a placed outline, from the corner q on, leads from one position to another
pub record Leads {S : Type 0} (E : Cyclotomic) (B : Book E) (value : S → E.Elem) (p : Placement E) (s : Step) (q : E.Elem) (from to : S) : Type 0 where
  pub leaves : value from ≡ image E p q
  pub comes : value to ≡ image E p (along E B s.label s.direction q)
