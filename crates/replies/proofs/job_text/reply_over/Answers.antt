use Rattle.std.proofs.Common.{sym, subst}
use Rattle.jobs.specs.Jobs.{numbers}
use Rattle.conservation.proofs.Ending.{map_result}
use Rattle.replies.specs.Replies.{JobReply}
use Rattle.replies.proofs.Replying.{refused_reply}
use Rattle.replies.proofs.job_text.reply_over.Goals as goal

pub returns-in-Err : goal.returns-in-Err
returns-in-Err g c =
    let E = g.R.Ring.exact in let v = g.R.Ring.value in let N = numbers c.args.job.now in
    map_result c.refusal.result _ _ _ _
    (λ r h. subst (λ b. JobReply E N v b r.text.items) (sym h.0)
    (refused_reply E v N g.met.R.Ring.lawful g.met.R.SmallRing.small c.requires.range c.requires.ring c.in-Err.fault c.in-Err.ensures h.1.0 h.1.1 h.1.2 r.text.items h.1.3))
    (λ e h. tt)
    c.refusal.ensures
