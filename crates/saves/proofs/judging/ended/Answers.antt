use Rattle.std.proofs.Common.{sym, ltb-true}
use Rattle.std.proofs.lemmas.Bool.{ltb-false}
use Rattle.ring_jobs.specs.RingJobs.{job_numbers}
use Rattle.saves.specs.Records.{sheet_with}
use Rattle.saves.proofs.Headers.{no_end, bad_end, late_end, good_end}
use Rattle.saves.proofs.judging.ended.Goals as goal

pub returns-in_default : goal.returns-in_default
returns-in_default g c rs =
    let E = g.R.Ring.exact in
    no_end E (job_numbers E g.R.Ring.value c.args.job.now) c.args.file.now c.args.reached.at (sheet_with E c.args.reached.cursor rs) (ltb-false _ _ (sym c.in_default.ensures.lookup.0))

pub returns-in_default-last_cursor : goal.returns-in_default-last_cursor
returns-in_default-last_cursor g c rs =
    let E = g.R.Ring.exact in
    bad_end E (job_numbers E g.R.Ring.value c.args.job.now) c.args.file.now c.args.reached.at c.in-Some.last.now (sheet_with E c.args.reached.cursor rs) (ltb-true _ _ (sym c.in-Some.ensures.lookup.0)) c.in-Some.ensures.lookup.1 (c.in_default-last_cursor.ensures rs)

pub returns-then-at-file : goal.returns-then-at-file
returns-then-at-file g c rs =
    let E = g.R.Ring.exact in
    late_end E (job_numbers E g.R.Ring.value c.args.job.now) c.args.file.now c.args.reached.at c.in-Some.last.now (sheet_with E c.args.reached.cursor rs) (ltb-true _ _ (sym c.in-Some.ensures.lookup.0)) c.in-Some.ensures.lookup.1
    (sheet_with E c.in-Some-last_cursor.cursor rs) (c.in-Some-last_cursor.ensures rs) c.if-at-file.true

pub returns : goal.returns
returns g c rs =
    let E = g.R.Ring.exact in
    good_end E (job_numbers E g.R.Ring.value c.args.job.now) c.args.file.now c.args.reached.at c.in-Some.last.now (sheet_with E c.args.reached.cursor rs) (ltb-true _ _ (sym c.in-Some.ensures.lookup.0)) c.in-Some.ensures.lookup.1
    (sheet_with E c.in-Some-last_cursor.cursor rs) (c.in-Some-last_cursor.ensures rs) c.if-at-file.false
