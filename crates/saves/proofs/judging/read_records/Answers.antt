use Rattle.std.proofs.Common.{◌≡◌, ◌+◌, ◌-◌, ◌<◌, [], ◌∷◌, ◌++◌, length, drop, Some, sym, refl, ap, ap₂, ◌∙◌, subst, arith, length-append}
use Rattle.std.proofs.lemmas.List.{drop-drop}
use Rattle.chains.specs.Addresses.{seed_on}
use Rattle.calls.specs.Limits.{most_pieces}
use Rattle.calls.specs.Records.{row_view}
use Rattle.calls.specs.Sheets.{come_to, start}
use Rattle.files.specs.Judging.{record_read, scanned}
use Rattle.saves.specs.Records.{sheet_with}
use Rattle.saves.specs.Filled.{Filled}
use Rattle.saves.proofs.Taken.{sheet}
use Rattle.saves.proofs.Scanning.{stops, goes_on, filled_none, filled_more, rest_is, rest_long}
use Rattle.saves.proofs.judging.read_records.Goals as goal

pub loop-k-init : goal.loop-k-init
unfolding start
loop-k-init g c =
    let E = g.P.R.Ring.exact in
    let N = g.P.Placer.plan c.args.placer.now in
    let first = c.first-cursor.ensures ∙ ap (λ M. come_to (seed_on M 0)) c.job.ensures in
    record {
      kept = refl;
      sound = λ s. s;
      within = c.requires.header;
      led = λ s. ([], refl, ap₂ (λ n o. scanned E N n 3 (sheet E N o []) (drop 3 c.args.file.now)) (omega arith) (sym first), filled_none (row_view E g.P.R.Ring.listed) c.args.list.now);
    }

pub returns-in_default-clause-answer : goal.returns-in_default-clause-answer
returns-in_default-clause-answer g c s =
    let E = g.P.R.Ring.exact in
    let N = g.P.Placer.plan c.args.placer.now in
    let file = c.args.file.now in
    let led = c.loop-k.invariant.led s in
    let room : length led.0 < most_pieces = omega (arith, led.1, c.requires.limit) in
    let from = sheet_with E c.loop-k.cursor led.0 in
    led.2
    ∙ stops E N c.args.count c.loop-k.k c.loop-k.at from (drop c.loop-k.at file) c.loop-k-test.true
    (ap₂ (λ M bytes. record_read E M from bytes) (sym c.loop-k.invariant.kept) (rest_is file c.loop-k.at) ∙ c.in_default.ensures.answer (c.loop-k.invariant.sound s) led.0 room)

pub loop-k-preserved : goal.loop-k-preserved
loop-k-preserved g c =
    let E = g.P.R.Ring.exact in
    let N = g.P.Placer.plan c.args.placer.now in
    let file = c.args.file.now in
    let view = row_view E g.P.R.Ring.listed in
    let read = c.in-Some.read in
    record {
      kept = c.in-Some.ensures.kept ∙ c.loop-k.invariant.kept;
      sound = λ s. c.in-Some.ensures.sound (c.loop-k.invariant.sound s);
      within = rest_long file c.loop-k.at read.used c.loop-k.invariant.within c.in-Some.ensures.used.1;
      led = λ s.
          let led = c.loop-k.invariant.led s in
          let room : length led.0 < most_pieces = omega (arith, led.1, c.requires.limit) in
          let from = sheet_with E c.loop-k.cursor led.0 in
          let to = sheet_with E read.cursor (led.0 ++ view read.row ∷ []) in
          let taken : record_read E N from (drop c.loop-k.at file) ≡ Some to = ap₂ (λ M bytes. record_read E M from bytes) (sym c.loop-k.invariant.kept) (rest_is file c.loop-k.at) ∙ c.in-Some.ensures.answer (c.loop-k.invariant.sound s) led.0 room in
          let on = goes_on E N c.args.count c.loop-k.k c.loop-k.at from (drop c.loop-k.at file) c.loop-k-test.true to (view read.row) read.used taken refl c.in-Some.ensures.used.0 in
          let filled = filled_more view c.args.list.now c.loop-k.list led.0 read.row (view read.row) c.loop-k.k c.loop-k.auto.list led.1 refl led.3 in (
            led.0 ++ view read.row ∷ [],
            omega (arith, led.1, length-append led.0 (view read.row ∷ [])),
            led.2 ∙ on ∙ ap (scanned E N (c.args.count - (c.loop-k.k + 1)) (c.loop-k.at + read.used) to) (drop-drop read.used c.loop-k.at file),
            subst (Filled E g.P.R.Ring.listed (led.0 ++ view read.row ∷ []) c.args.list.now) (sym c.put_at.ensures) filled,
          );
    }
