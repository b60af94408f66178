use Rattle.std.proofs.Common.{replicate, Some, sym, ap, ◌∙◌}
use Rattle.std.specs.Option.{option_map}
use Rattle.ring_jobs.specs.RingJobs.{job_numbers}
use Rattle.calls.specs.Limits.{most_pieces}
use Rattle.calls.specs.Moves.{descending, replayed}
use Rattle.calls.specs.Views.{cursor_view, cursor_at}
use Rattle.saves.proofs.Taken.{sheet}
use Rattle.saves.proofs.Headers.{descents_from, none_from_nothing, nothing_from_nothing}
use Rattle.saves.proofs.judging.last_cursor.Goals as goal

pub returns-in_err-descended_by-in-Some : goal.returns-in_err-descended_by-in-Some
returns-in_err-descended_by-in-Some g c rs =
    let E = g.R.Ring.exact in
    let N = job_numbers E g.R.Ring.value c.args.job.now in
    ap (λ o. replayed E N most_pieces (replicate c.args.descents descending) (sheet E N (cursor_at o) rs)) c.in-Some.is
    ∙ descents_from E N c.args.descents (cursor_view c.in-Some.from) rs
    ∙ ap (option_map (λ d. sheet E N (Some d) rs)) (sym c.in_err-descended_by-in-Some.ensures)
    ∙ ap (option_map (λ o. sheet E N (cursor_at o) rs)) (sym c.from_residual.ensures)

pub returns-in_ok-descended_by-in-Some : goal.returns-in_ok-descended_by-in-Some
returns-in_ok-descended_by-in-Some g c rs =
    let E = g.R.Ring.exact in
    let N = job_numbers E g.R.Ring.value c.args.job.now in
    ap (λ o. replayed E N most_pieces (replicate c.args.descents descending) (sheet E N (cursor_at o) rs)) c.in-Some.is
    ∙ descents_from E N c.args.descents (cursor_view c.in-Some.from) rs
    ∙ ap (option_map (λ d. sheet E N (Some d) rs)) (sym c.in_ok-descended_by-in-Some.ensures)

pub returns-in-None : goal.returns-in-None
returns-in-None g c rs =
    let E = g.R.Ring.exact in
    let N = job_numbers E g.R.Ring.value c.args.job.now in
    ap (λ o. replayed E N most_pieces (replicate c.args.descents descending) (sheet E N (cursor_at o) rs)) c.in-None.is
    ∙ nothing_from_nothing E N c.args.descents rs c.if-descents-eq0.true

pub returns-in-None-2 : goal.returns-in-None-2
returns-in-None-2 g c rs =
    let E = g.R.Ring.exact in
    let N = job_numbers E g.R.Ring.value c.args.job.now in
    ap (λ o. replayed E N most_pieces (replicate c.args.descents descending) (sheet E N (cursor_at o) rs)) c.in-None-2.is
    ∙ none_from_nothing E N c.args.descents rs c.if-descents-eq0.false
