use Rattle.std.proofs.Common.{vec_items, arith}
use Rattle.std.proofs.lemmas.List.{length-map}
use Rattle.jobs.specs.Drafts.{head_of}
use Rattle.jobs.proofs.Labelling.{divided, parts_of}
use Rattle.jobs.proofs.job.Job.of.Goals as goal

pub labelled-requires : goal.labelled-requires
labelled-requires c =
    let d = c.args.draft in
    let n = length-map (vec_items d.heads) head_of in
    let m = length-map (vec_items d.subdivisions) parts_of in
    divided _ _ _ _ c.requires.0.shaped.labels (omega (arith, c.requires.1))
