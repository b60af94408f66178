-- The reading of a job laid whole is never refused, and is that of the inflated seed.
use Rattle.std.proofs.Common.{◌≡◌, length, ◌∙◌, subst}
use Rattle.chains.specs.Books.{book_of}
use Rattle.chains.specs.Counts.{reading}
use Rattle.chains.specs.Placements.{outlines}
use Rattle.chains.specs.Theorems.{RealLengths}
use Rattle.calls.specs.Records.{records, laid_pieces}
use Rattle.meters.specs.Pieces.{Readable}
use Rattle.meters.proofs.Metered.{accepted_real}
use Rattle.conservation.proofs.Conserved.{conserves}
use Rattle.whole_jobs.proofs.Wholes.{reads_seed}
use Rattle.whole_jobs.proofs.measured.lay_and_read.Goals as goal

pub returns-in-Ok-clause-law : goal.returns-in-Ok-clause-law
returns-in-Ok-clause-law g c sound calls =
    let E = g.P.R.Ring.exact in let N = g.P.Placer.plan c.args.placer in
    let w = c.in_ok-sheet.ensures.lays sound in
    conserves E g.met.P.R.Ring.lawful N (g.met.P.Placer.branching c.args.placer) w.passes.judged.accepted g.M.Meter.group g.met.M.Meter.lawful
    (g.M.Meter.reads c.args.meter.now E g.P.R.Ring.value (book_of E N)) (g.met.M.Meter.reads_edges c.args.meter.now (book_of E N)) (length c.args.list.now) calls

pub returns-in-Ok-clause-reads : goal.returns-in-Ok-clause-reads
returns-in-Ok-clause-reads g c sound =
    let E = g.P.R.Ring.exact in let v = g.P.R.Ring.value in let f = g.P.R.Ring.listed in let N = g.P.Placer.plan c.args.placer in
    let G = g.M.Meter.group in let n = c.in_ok-sheet.sheet.count in let xs = c.args.list.now in let ys = c.lay_job.new.list in
    let w = c.in_ok-sheet.ensures.lays sound in
    let read = (subst (λ M. Readable E M (length ys) n (records E f n ys) × (RealLengths E (book_of E M) → g.M.Meter.worth c.in-Ok.reading ≡ reading G (g.M.Meter.reads c.args.meter.now E v (book_of E M)) (outlines E (book_of E M) (laid_pieces (records E f n ys))))) c.in_ok-sheet.ensures.kept c.in-Ok.ensures.reads).1 in
    read (accepted_real E (book_of E N) w.passes.judged.accepted)
    ∙ reads_seed E g.met.P.R.Ring.lawful N (g.met.P.Placer.branching c.args.placer) f n xs ys w G g.met.M.Meter.lawful (g.M.Meter.reads c.args.meter.now E v (book_of E N)) (g.met.M.Meter.reads_edges c.args.meter.now (book_of E N))
