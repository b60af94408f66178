use Rattle.std.proofs.Common.{sym, ap, ◌∙◌, map}
use Rattle.job_rows.specs.Shapes.{step_of}
use Rattle.edges.proofs.Numbered.{tile_found, tile_missing}
use Rattle.edges.proofs.lookups.steps_of.Goals as goal

pub returns-in-Some : goal.returns-in-Some
returns-in-Some g c = ap (map step_of) c.as_slice.ensures.value ∙ sym (ap (λ x. x.outline) (tile_found g.R.Ring.exact g.R.Ring.value c.args.book.now _ c.deref.ensures.value c.args.t c.in-Some.tile c.in-Some.ensures.lookup))

pub returns-in-None : goal.returns-in-None
returns-in-None g c = sym (ap (λ x. x.outline) (tile_missing g.R.Ring.exact g.R.Ring.value c.args.book.now _ c.deref.ensures.value c.args.t c.in-None.ensures.lookup))
