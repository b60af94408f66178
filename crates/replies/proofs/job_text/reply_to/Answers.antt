use Rattle.std.proofs.Common.{ap}
use Rattle.jobs.specs.Jobs.{numbers}
use Rattle.jobs.specs.Rings.{order_of, rank_of}
use Rattle.jobs.specs.declared.ring.NamedRing.TheVariants as named
use Rattle.conservation.proofs.Ending.{map_result}
use Rattle.replies.specs.Replies.{of_job, of_text}
use Rattle.replies.proofs.Replying.{text_told}
use Rattle.replies.proofs.job_text.reply_to.Goals as goal

pub returns-in-Gaussian : goal.returns-in-Gaussian
returns-in-Gaussian c =
    let j = c.in-Ok.job in let read = c.in-Ok.ensures.answer in
    map_result c.reply_over.result _ _ _ _
    (λ r h. of_job named.Gaussian (numbers j) (record { spelt = read.0; in_range = read.1; order = ap order_of c.in-Gaussian.is; rank = ap rank_of c.in-Gaussian.is }) h)
    (λ e h. tt)
    c.reply_over.ensures

pub returns-in-Ok : goal.returns-in-Ok
returns-in-Ok c =
    let j = c.in-Ok.job in let read = c.in-Ok.ensures.answer in
    map_result c.reply_over-in-Tenfold.result _ _ _ _
    (λ r h. of_job named.Tenfold (numbers j) (record { spelt = read.0; in_range = read.1; order = ap order_of c.in-Tenfold.is; rank = ap rank_of c.in-Tenfold.is }) h)
    (λ e h. tt)
    c.reply_over-in-Tenfold.ensures

pub returns : goal.returns
returns c =
    map_result c.refusal.result _ _ _ _
    (λ r h. of_text h.0 h.1.0 h.1.1 (text_told c.args.text.now c.in-Err.fault h.1.0 h.1.1 c.in-Err.ensures.answer h.1.2) h.1.3)
    (λ e h. tt)
    c.refusal.ensures
