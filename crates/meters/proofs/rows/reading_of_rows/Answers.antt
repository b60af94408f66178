use Rattle.std.proofs.Common.{length}
use Rattle.chains.specs.Books.{book_of}
use Rattle.ring_jobs.specs.RingJobs.{job_numbers}
use Rattle.calls.specs.Records.{row_view, records}
use Rattle.calls.specs.declared.fault.ListFault.TheVariants.{Ring}
use Rattle.calls.proofs.Firsts.{refused_with}
use Rattle.meters.specs.Pieces.{Unreadable}
use Rattle.meters.proofs.Listed.{rows_start, rows_go_on, list_read, row_refused, unfit_unread, read_unrefused}
use Rattle.meters.proofs.rows.reading_of_rows.Given.{Over}
use Rattle.meters.proofs.rows.reading_of_rows.Goals as goal

pub loop-row-init : goal.loop-row-init
loop-row-init g c =
    let E = g.R.Ring.exact in let v = g.R.Ring.value in let N = job_numbers E v c.args.job.now in
    rows_start E N (row_view E g.R.Ring.listed) c.in_ok-rows.rows.now g.M.Meter.group g.met.M.Meter.lawful (g.M.Meter.reads c.args.meter.now E v (book_of E N))
    (g.M.Meter.worth c.zero-sum.result) (g.met.M.Meter.tied.zero c.zero-sum.result c.zero-sum.ensures)

-- where a piece's corners leave the plane
stays_refused : (g : Over) (c : goal.After-from_residual-in_err-value g) → let E = g.R.Ring.exact in
    Unreadable E (job_numbers E g.R.Ring.value c.args.job.now) (length c.args.list.now) c.args.count (records E g.R.Ring.listed c.args.count c.args.list.now) (Ring c.in_err-value.field-0.0)
stays_refused g c =
    let E = g.R.Ring.exact in let v = g.R.Ring.value in let N = job_numbers E v c.args.job.now in
    let h = c.in_ok-rows.ensures in
    row_refused E N (row_view E g.R.Ring.listed) c.in_ok-rows.rows.now c.args.list.now c.args.count h.0 h.1 h.2 g.M.Meter.group g.met.M.Meter.lawful (g.M.Meter.reads c.args.meter.now E v (book_of E N))
    c.loop-row.row-index (g.M.Meter.worth c.loop-row.sum) c.loop-row.invariant c.row-item.result c.in_err-value.field-0.0 c.loop-row-test.true c.row-item.is c.in_err-value.ensures.is.1

pub returns-in_err-rows-clause-reads_all_that_fit : goal.returns-in_err-rows-clause-reads_all_that_fit
returns-in_err-rows-clause-reads_all_that_fit g c h =
    let E = g.R.Ring.exact in let v = g.R.Ring.value in let N = job_numbers E v c.args.job.now in
    let rs = records E g.R.Ring.listed c.args.count c.args.list.now in
    absurd (read_unrefused E N (length c.args.list.now) c.args.count rs c.in_err-rows.field-0.0 h (unfit_unread E N _ _ rs c.in_err-rows.field-0.0 c.in_err-rows.ensures))

pub returns-in_err-value-clause-reads : goal.returns-in_err-value-clause-reads
returns-in_err-value-clause-reads g c = refused_with c.from_residual-in_err-value.result _ _ _ c.from_residual-in_err-value.ensures.1 (stays_refused g c)

pub returns-in_err-value-clause-reads_all_that_fit : goal.returns-in_err-value-clause-reads_all_that_fit
returns-in_err-value-clause-reads_all_that_fit g c h =
    let E = g.R.Ring.exact in let v = g.R.Ring.value in let N = job_numbers E v c.args.job.now in
    absurd (read_unrefused E N (length c.args.list.now) c.args.count (records E g.R.Ring.listed c.args.count c.args.list.now) (Ring c.in_err-value.field-0.0) h (stays_refused g c))

pub loop-row-preserved : goal.loop-row-preserved
loop-row-preserved g c =
    let E = g.R.Ring.exact in let v = g.R.Ring.value in let N = job_numbers E v c.args.job.now in
    let w = g.M.Meter.worth in
    let k = c.in_ok-value.ensures.is in
    rows_go_on E N (row_view E g.R.Ring.listed) c.in_ok-rows.rows.now g.M.Meter.group g.met.M.Meter.lawful (g.M.Meter.reads c.args.meter.now E v (book_of E N))
    c.loop-row.row-index (w c.loop-row.sum) c.loop-row.invariant c.row-item.result c.loop-row-test.true c.row-item.is (w c.in_ok-value.value) (w c.sum-sum.result) k.1.1 k.0
    (g.met.M.Meter.tied.sum c.loop-row.sum c.in_ok-value.value c.sum-sum.result c.sum-sum.ensures)

pub returns-clause-reads : goal.returns-clause-reads
returns-clause-reads g c =
    let E = g.R.Ring.exact in let v = g.R.Ring.value in let N = job_numbers E v c.args.job.now in
    let h = c.in_ok-rows.ensures in
    list_read E N (row_view E g.R.Ring.listed) c.in_ok-rows.rows.now c.args.list.now c.args.count h.0 h.1 h.2 g.M.Meter.group g.met.M.Meter.lawful (g.M.Meter.reads c.args.meter.now E v (book_of E N))
    c.loop-row.row-index (g.M.Meter.worth c.loop-row.sum) c.loop-row.invariant c.loop-row-test.false
