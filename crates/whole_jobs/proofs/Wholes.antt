-- What is laid from a new sheet on.
use Rattle.std.proofs.Common.{◌≡◌, ℕ, List, ◌++◌, map, length, Some, None, Option, ℤ, refl, sym, ap, ◌∙◌, subst, arith}
use Rattle.std.proofs.lemmas.List.{length-map}
use Rattle.exact.specs.Cyclotomic.{Cyclotomic, CyclotomicLaws}
use Rattle.exact.specs.Groups.{AbelianGroup, AbelianLaws}
use Rattle.exact.specs.JobNumbers.{JobNumbers}
use Rattle.chains.specs.Books.{book_of}
use Rattle.chains.specs.Counts.{reading}
use Rattle.chains.specs.Edges.{Edge, ReadsEdges}
use Rattle.chains.specs.Placements.{outlines}
use Rattle.chains.specs.Frontiers.{seed_outlines}
use Rattle.chains.specs.Addresses.{Address, advance, node_placement}
use Rattle.job_check.specs.Checks.{Passes}
use Rattle.ring_jobs.specs.Shapes.{Branching}
use Rattle.calls.specs.Limits.{usable}
use Rattle.calls.specs.Records.{Record, records, laid_pieces}
use Rattle.calls.specs.Sheets as sheets
use Rattle.calls.specs.Sheets.{start, come_to}
use Rattle.calls.specs.Depths.{pieces}
use Rattle.calls.specs.Views.{cursor_at, sheet_of}
use Rattle.calls.specs.declared.cursor.Cursor.{Cursor}
use Rattle.calls.specs.declared.row.Row.{Row}
use Rattle.sheet.specs.declared.fault.SheetFault.{SheetFault}
use Rattle.runs.specs.Runs.{Call, moving}
use Rattle.runs.proofs.Laws.{reading_conserved}
use Rattle.conservation.proofs.Ending.{rows_readable, starts_so}
use Rattle.whole_jobs.specs.Whole.{Grown, left, Laid, LaidSome, CannotBeLaid, Stuck, LedOn}
use Rattle.whole_jobs.specs.Job.{LedByARun, Lists, LaysWhole, LaysUpTo}
use Rattle.whole_jobs.proofs.Leading.{by_a_run}
use Rattle.whole_jobs.proofs.Listing.{counted}
use Rattle.whole_jobs.proofs.Lefts.{left_on, left_at_start}

-- on a new sheet all pieces are left
all_left : (E : Cyclotomic) (N : JobNumbers) (c : Option sheets.Cursor) → c ≡ (start E N).cursor → left N c ≡ pieces N
unfolding start
all_left E N c e = ap (left N) e ∙ left_at_start N

module _ {C : Type 0} (E : Cyclotomic) (L : CyclotomicLaws E) (N : JobNumbers) (B : Branching N) (passes : Passes E N) (listed : C → List ℤ) (cursor cursor' : Option Cursor) (n : ℕ) (xs ys : List (Row C)) (grown : Grown 0 n xs ys)
    (begun : cursor_at cursor ≡ (start E N).cursor) (led : LedOn E N (usable (length xs)) (sheet_of E listed cursor 0 xs) (sheet_of E listed cursor' n ys)) where
  all_rows : length (records E listed n ys) ≡ n
  all_rows = let room = grown.room (omega arith) in let long = grown.as_long in omega (arith, counted E listed n ys, room, long)

  by_run : LedByARun E N (length xs) (sheet_of E listed cursor' n ys)
  by_run = by_a_run E L N B passes (length xs) (sheet_of E listed cursor' n ys) (subst (λ s. LedOn E N (usable (length xs)) s (sheet_of E listed cursor' n ys)) (starts_so E N listed cursor 0 xs begun refl) led)

  lists : (nodes : List Address) → Laid E N nodes (sheet_of E listed cursor 0 xs) (sheet_of E listed cursor' n ys) → Lists E N listed n nodes xs ys
  lists nodes laid =
      let placed = ap (map (λ (r : Record E). r.laid)) laid.added ∙ laid.placed in record {
        counted = sym all_rows ∙ sym (length-map (records E listed n ys) (λ (r : Record E). r.laid)) ∙ ap length placed ∙ length-map nodes (λ a. Some (node_placement E N a));
        room = grown.room (omega arith);
        grown = grown;
        placed = placed;
        on_plane = laid.on_plane;
        readable = rows_readable E N B listed (length xs) (map moving by_run.moves) n ys (ap (λ (t : sheets.Sheet E). t.records) by_run.leads) all_rows;
      }

  pub lays_whole : cursor_at cursor' ≡ None → Laid E N (left N (cursor_at cursor)) (sheet_of E listed cursor 0 xs) (sheet_of E listed cursor' n ys) → LaysWhole E N listed n xs ys
  lays_whole none laid = record {
    passes = passes;
    lists = lists (pieces N) (subst (λ ns. Laid E N ns (sheet_of E listed cursor 0 xs) (sheet_of E listed cursor' n ys)) (all_left E N (cursor_at cursor) begun) laid);
    by_run = subst (λ k. LedByARun E N (length xs) (record { cursor = k; records = records E listed n ys })) none by_run;
  }

  pub lays_up_to : {S : Type 0} (f : SheetFault S) → LaidSome E N (sheet_of E listed cursor 0 xs) (sheet_of E listed cursor' n ys) → Stuck E N (usable (length xs)) (sheet_of E listed cursor' n ys) f → LaysUpTo E N listed f xs ys
  lays_up_to f (nodes, laid) (c, at, deep, stuck) = record {
    passes = passes;
    count = n;
    before = nodes;
    at = c.node;
    behind = left N (come_to (advance N c.node));
    whole = sym (all_left E N (cursor_at cursor) begun) ∙ laid.in_order ∙ ap (λ ns. nodes ++ ns) (ap (left N) at ∙ left_on N c.node deep);
    lists = lists nodes laid;
    stuck = subst (λ k. CannotBeLaid E N (usable (length xs)) k c.node f) all_rows stuck;
    descents = c.descents;
    by_run = subst (λ k. LedByARun E N (length xs) (record { cursor = k; records = records E listed n ys })) at by_run;
  }

-- what any meter reads off a job laid whole is what it reads off the inflated seed
pub reads_seed : {C : Type 0} (E : Cyclotomic) (L : CyclotomicLaws E) (N : JobNumbers) (B : Branching N) (listed : C → List ℤ) (count : ℕ) (xs ys : List (Row C)) → LaysWhole E N listed count xs ys →
    (G : AbelianGroup) → AbelianLaws G → (r : Edge E → G.Val) → ReadsEdges E (book_of E N) G r →
    reading G r (outlines E (book_of E N) (laid_pieces (records E listed count ys))) ≡ reading G r (seed_outlines E N)
reads_seed E L N B listed count xs ys w G M r R =
    let calls : List Call = map moving w.by_run.moves in
    let ends = (reading_conserved E L N B w.passes.judged.accepted G M r R (length xs) calls).1 in
    ap (λ (t : sheets.Sheet E). reading G r (outlines E (book_of E N) (laid_pieces t.records))) (sym w.by_run.leads)
    ∙ ends (ap (λ (t : sheets.Sheet E). t.cursor) w.by_run.leads) w.by_run.none_aside
