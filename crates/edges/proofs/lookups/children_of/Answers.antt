use Rattle.std.proofs.Common.{sym, ap, ◌∙◌, map}
use Rattle.edges.specs.Views.{placement_view}
use Rattle.edges.proofs.Numbered.{tile_found, tile_missing}
use Rattle.edges.proofs.lookups.children_of.Goals as goal

pub returns-in-Some : goal.returns-in-Some
returns-in-Some g c = ap (map (placement_view g.R.Ring.exact g.R.Ring.value)) c.as_slice.ensures.value ∙ sym (ap (λ x. x.children) (tile_found g.R.Ring.exact g.R.Ring.value c.args.book.now _ c.deref.ensures.value c.args.t c.in-Some.tile c.in-Some.ensures.lookup))

pub returns-in-None : goal.returns-in-None
returns-in-None g c = sym (ap (λ x. x.children) (tile_missing g.R.Ring.exact g.R.Ring.value c.args.book.now _ c.deref.ensures.value c.args.t c.in-None.ensures.lookup))
