-- What an edge between positions sweeps over.
use Rattle.std.proofs.Common.{◌≡◌, ap}
use Rattle.exact.specs.Cyclotomic.{Cyclotomic}
use Rattle.exact.specs.Sweeps.{sweep, total_of}
use Rattle.chains.specs.Books.{Book}
use Rattle.chains.specs.Edges.{edge_sweep}
use Rattle.edges.specs.Views.{edge_view}
use Rattle.meters.specs.declared.span.Span.{Span}
use Rattle.meters.specs.Spans.{Shows}

pub swept_is : {S : Type 0} (E : Cyclotomic) (B : Book E) (value : S → E.Elem) (x : Span S) → Shows E B value x →
    total_of E (sweep E (value x.edge.start) (value x.end)) ≡ total_of E (edge_sweep E B (edge_view E value x.edge))
unfolding edge_sweep
swept_is E B value x shows = ap (λ z. total_of E (sweep E (value x.edge.start) z)) shows.ends
