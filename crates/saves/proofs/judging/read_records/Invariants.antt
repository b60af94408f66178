use Rattle.std.proofs.Common.{◌≡◌, ◌-◌, ◌≤◌, List, length, drop}
use Rattle.calls.specs.Records.{Record}
use Rattle.calls.specs.Sheets.{start}
use Rattle.files.specs.Judging.{scanned}
use Rattle.saves.specs.Records.{sheet_with}
use Rattle.saves.specs.Filled.{Filled}
use Rattle.saves.proofs.judging.read_records.Given as goal

-- the records that are read so far lead to a sheet, from which the rest of the file is gone on with
abbrev pub invariant-loop-k : goal.invariant-loop-k
invariant-loop-k g l =
    let E = g.P.R.Ring.exact in
    let N = g.P.Placer.plan l.initial.placer in
    record {
      kept : g.P.Placer.plan l.placer ≡ N;
      sound : g.P.Placer.sound l.initial.placer → g.P.Placer.sound l.placer;
      within : l.at ≤ length l.file;
      led : g.P.Placer.sound l.initial.placer → (rs : List (Record E)) × (length rs ≡ l.k)
          × (scanned E N l.count 3 (start E N) (drop 3 l.file) ≡ scanned E N (l.count - l.k) l.at (sheet_with E l.cursor rs) (drop l.at l.file))
          × Filled E g.P.R.Ring.listed rs l.initial.list l.list;
    }
