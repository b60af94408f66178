use Rattle.std.proofs.Common.{map, vec_items}
use Rattle.jobs.specs.Drafts.{head_of}
use Rattle.jobs.specs.Fronts.{labelled}
use Rattle.jobs.proofs.Labelling.{Joined, parts_of}
use Rattle.jobs.proofs.job.access.labelled.Given as goal

abbrev pub invariant-loop-head : goal.invariant-loop-head
invariant-loop-head l = Joined (vec_items l.labels) l.head-iterator.a.rest.items l.head-iterator.b.rest.items (labelled (map head_of (vec_items l.fn.heads)) (map parts_of (vec_items l.fn.subdivisions)))
