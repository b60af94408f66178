-- The end of a run: the list can be read, and reads as the law says.
use Rattle.std.proofs.Common.{◌≡◌, ℕ, List, [], ◌∷◌, length, ℤ, Some, None, Option, Ok, Err, Result, MatchResult, MatchOption, sym, ap, ◌∙◌, subst}
use Rattle.std.specs.List.{AllByRecursion}
use Rattle.std.proofs.ByRecursion.{All-weaker}
use Rattle.exact.specs.Cyclotomic.{Cyclotomic, CyclotomicLaws}
use Rattle.exact.specs.Groups.{AbelianGroup, AbelianLaws}
use Rattle.exact.specs.JobNumbers.{JobNumbers}
use Rattle.chains.specs.Books.{Placement, book_of}
use Rattle.chains.specs.Counts.{reading}
use Rattle.chains.specs.Edges.{Edge, ReadsEdges}
use Rattle.chains.specs.Placements.{outlines}
use Rattle.chains.specs.Theorems.{RealLengths}
use Rattle.job_check.specs.Checks.{Passes}
use Rattle.ring_jobs.specs.Shapes.{Branching}
use Rattle.calls.specs.Limits.{usable}
use Rattle.calls.specs.Records.{Record, records, with_laid, laid_pieces}
use Rattle.calls.specs.Sheets.{Sheet, start}
use Rattle.calls.specs.Fits.{Fits}
use Rattle.calls.specs.Views.{sheet_of, cursor_at}
use Rattle.calls.specs.declared.row.Row.{Row}
use Rattle.calls.specs.declared.cursor.Cursor.{Cursor}
use Rattle.meters.specs.Pieces as meters
use Rattle.meters.proofs.Metered.{accepted_real}
use Rattle.runs.specs.Runs.{Call, begun, run}
use Rattle.runs.proofs.Traced.{traced_begun, traced_run}
use Rattle.runs.proofs.Fitting.{CornersKept, Readable, readable}
use Rattle.runs.proofs.Laws.{reading_conserved}
use Rattle.conservation.specs.declared.answer.Answer.{Answer}
use Rattle.conservation.specs.Answered.{Makes}
use Rattle.conservation.specs.Law.{ReadsSo}
use Rattle.conservation.proofs.Filing.{counted_in}

pub map_result : {X Y : Type 0} (r : Result X Y) (P P' : X → Type 0) (Q Q' : Y → Type 0) → ((x : X) → P x → P' x) → ((y : Y) → Q y → Q' y) → MatchResult r P Q → MatchResult r P' Q'
map_result (Ok x) P P' Q Q' f g h = f x h
map_result (Err y) P P' Q Q' f g h = g y h

map_option : {X : Type 0} (o : Option X) (P P' : X → Type 0) → ((x : X) → P x → P' x) → MatchOption o ⊥ P → MatchOption o ⊥ P'
map_option None P P' f h = h
map_option (Some x) P P' f h = f x h

module _ {C : Type 0} (E : Cyclotomic) (N : JobNumbers) (B : Branching N) (listed : C → List ℤ) (room : ℕ) (calls : List Call) where
  corners_of : (rs : List (Record E)) → AllByRecursion (Readable E N) rs → meters.CornersKept E N (laid_pieces rs)
  unfolding laid_pieces
  corners_of [] h = tt
  corners_of (r ∷ rs) h = go r.laid h.0.1 (corners_of rs h.1)
    where
      go : (l : Option (Placement E)) → CornersKept E N l → meters.CornersKept E N (laid_pieces rs) → meters.CornersKept E N (with_laid l (laid_pieces rs))
      go None k m = m
      go (Some p) k m = (k, m)

  run_readable : AllByRecursion (Readable E N) (run E N room calls (begun E N)).sheet.records
  run_readable = let t = traced_run E N room calls (begun E N) (traced_begun E N (usable room)) in readable E N B (usable room) t.moves (run E N room calls (begun E N)).sheet t.way

  -- a list that holds the records of a run can be read
  pub rows_readable : (count : ℕ) (rows : List (Row C)) → (run E N room calls (begun E N)).sheet.records ≡ records E listed count rows →
      length (records E listed count rows) ≡ count → meters.Readable E N (length rows) count (records E listed count rows)
  rows_readable count rows same counted =
      let all = subst (AllByRecursion (Readable E N)) same run_readable in
      record { long = counted_in E listed count rows counted; fit = All-weaker (Readable E N) (Fits E N) (λ r h. h.0) _ all; kept = corners_of (records E listed count rows) all }

module _ {S C : Type 0} (E : Cyclotomic) (v : S → E.Elem) (N : JobNumbers) (B : Branching N) (listed : C → List ℤ) (room : ℕ) (calls : List Call) where
  module _ (cursor : Option Cursor) (count : ℕ) (rows : List (Row C)) (xs : List (Answer S)) (b b' : List ℕ) (m : Makes E v N room calls (sheet_of E listed cursor count rows) count xs b b') where
    same : (run E N room calls (begun E N)).sheet.records ≡ records E listed count rows
    same = ap (λ (z : Sheet E). z.records) m.leads

    pub list_readable : meters.Readable E N (length rows) count (records E listed count rows)
    list_readable = rows_readable E N B listed room calls count rows same m.counted

    module _ (L : CyclotomicLaws E) (K : Passes E N) (G : AbelianGroup) (M : AbelianLaws G) (r : Edge E → G.Val) (R : ReadsEdges E (book_of E N) G r) where
      pub lengths_real : RealLengths E (book_of E N)
      lengths_real = accepted_real E (book_of E N) K.judged.accepted

      -- and reads as the law says where nothing is left
      pub reads_so : (x : G.Val) → cursor ≡ None → x ≡ reading G r (outlines E (book_of E N) (laid_pieces (records E listed count rows))) → ReadsSo E N G r (run E N room calls (begun E N)) x
      reads_so x none e =
          let whole = e ∙ ap (λ rs. reading G r (outlines E (book_of E N) (laid_pieces rs))) (sym same) in
          let ends = (reading_conserved E L N B K.judged.accepted G M r R room calls).1 in
          (whole, λ bare. whole ∙ ends (ap (λ (z : Sheet E). z.cursor) m.leads ∙ ap cursor_at none) bare)

      pub option_reads : {V : Type 0} (worth : V → G.Val) (o : Option V) → cursor ≡ None → MatchOption o ⊥ (λ x. worth x ≡ reading G r (outlines E (book_of E N) (laid_pieces (records E listed count rows)))) →
          MatchOption o ⊥ (λ x. ReadsSo E N G r (run E N room calls (begun E N)) (worth x))
      option_reads worth o none h = map_option o _ _ (λ x e. reads_so (worth x) none e) h

    -- with nothing left, the run's sheet has no cursor and so many records
    pub finished_so : (n : ℕ) → n ≡ count → cursor ≡ None → Makes E v N room calls (record { cursor = None; records = records E listed n rows }) n xs b b'
    finished_so n e none =
        subst (λ o. Makes E v N room calls (record { cursor = cursor_at o; records = records E listed n rows }) n xs b b') none
        (subst (λ k. Makes E v N room calls (record { cursor = cursor_at cursor; records = records E listed k rows }) k xs b b') (sym e) m)

-- a new sheet has no records
pub starts_so : {C : Type 0} (E : Cyclotomic) (N : JobNumbers) (listed : C → List ℤ) (cursor : Option Cursor) (count : ℕ) (rows : List (Row C)) → cursor_at cursor ≡ (start E N).cursor → count ≡ 0 → sheet_of E listed cursor count rows ≡ start E N
unfolding start
starts_so E N listed cursor count rows e k = λ i. record { cursor = e i; records = ap (λ n. records E listed n rows) k i }
