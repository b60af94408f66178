-- Reading line after line: how far it came, and why it stopped.
use Rattle.std.proofs.Common.{◌≡◌, ℕ, ◌+◌, ◌*◌, ◌^◌, ◌<◌, ◌≤◌, ◌⊎◌, List, [], ◌∷◌, ◌++◌, map, length, ℤ, pos, IfSome, Some, None, Ok, Err, vec_items, Option, Result, sym, refl, ap, ◌∙◌, subst, inl, inr, append_assoc, append-nil, arith, MatchResult}
use Rattle.std.specs.Global.{Vec}
use Rattle.std.specs.List.{flat_map}
use Rattle.std.proofs.ByRecursion.{All-push}
use Rattle.std.proofs.lemmas.List.{flat_map_more, length_push, length-append, length-map, nil_from_length}
use Rattle.exact.specs.JobNumbers.{JobNumbers, LabelNumbers}
use Rattle.lines.specs.Letters.{Letter, letter_D}
use Rattle.lines.specs.Lines.{Line, line, text, spelt, WellSpelt, FirstLine}
use Rattle.lines.proofs.Fronted.{first_shorter}
use Rattle.lines.specs.declared.Misread.{Misread}
use Rattle.lines.specs.declared.Misread.TheVariants.{Misspelt as Garbled, Memory as NoneLeft}
use Rattle.jobs.specs.declared.draft.Misfit.{Misfit}
use Rattle.jobs.specs.declared.reading.LineFault.TheVariants.{Unread, Unadded}
use Rattle.jobs.specs.declared.draft.Misfit.TheVariants.{Place as NoPlace, Numbers, Memory as NoRoom}
use Rattle.faults.specs.declared.TextFault.{TextFault}
use Rattle.faults.specs.declared.TextFault.TheVariants.{Misspelt, Misplaced, Unfit, Overlong, Memory}
use Rattle.jobs.specs.declared.job.Job.{Job}
use Rattle.jobs.specs.declared.draft.Draft.{Draft}
use Rattle.job_rows.specs.declared.Tile.{Tile}
use Rattle.jobs.specs.Rows.{tile_of}
use Rattle.jobs.specs.Drafts.{Added, front, head_of}
use Rattle.faults.specs.Told.{told}
use Rattle.jobs.specs.Faults.{Refuses}
use Rattle.jobs.specs.Fronts.{Front, nothing, Steps, Leads, job_of}
use Rattle.jobs.specs.Jobs.{numbers}
use Rattle.jobs.specs.Limits.{most_bytes, most_labels}
use Rattle.jobs.specs.Ranges.{InRange, Shaped}
use Rattle.jobs.specs.Refusals.{At, Why, misspelt, misplaced, early, unfit, late, Refused, stopped, first_beyond}
use Rattle.jobs.specs.Spelled.{label_line, subdivision_line, seed_line, tile_lines, lines_of, spelled}
use Rattle.jobs.specs.Turns.{Taken, Halted, ReadUp, fault_at}
use Rattle.jobs.proofs.Lates.{late_lines, tiles_named, at_line}
use Rattle.jobs.proofs.Shapes.{complete_ends}
use Rattle.jobs.proofs.Verdicts.{refused_one, job_accepted, job_one}
use Rattle.jobs.proofs.Widths.{job_fits}

pub halted_unadded : (e : Misfit) (f g : Front) (t : List ℕ) (a : Letter) (zs zs' : List ℤ) (more : List ℕ) (at : ℕ) → FirstLine t a zs more → Added f a zs' (Err e) g → zs' ≡ zs → Halted t f at (fault_at (Unadded e) at)
halted_unadded e f g t a zs zs' more at x h q = go e (subst (λ y. Added f a y (Err e) g) q h)
  where
    go : (e : Misfit) → Added f a zs (Err e) g → Halted t f at (fault_at (Unadded e) at)
    go NoPlace n = λ before k. misplaced refl k a zs more x n
    go Numbers n = λ before k. unfit refl k a zs more x n.0 n.1
    go NoRoom n = λ before k. tt

pub halted_unread : (e : Misread) (f : Front) (t : List ℕ) (at : ℕ) → 0 < length t → (e ≡ Garbled → (a : Letter) (zs : List ℤ) (rest : List ℕ) → FirstLine t a zs rest → ⊥) → Halted t f at (fault_at (Unread e) at)
halted_unread Garbled f t at some h = λ before k. misspelt refl k some (h refl)
halted_unread NoneLeft f t at some h = λ before k. tt

-- how far the lines of t are read, as the front f; at is the number of the next line
pub record Sofar (t : List ℕ) (f : Front) (rest : List ℕ) (at : ℕ) : Type 0 where
  pub before : List Line
  pub known : At t before f rest
  pub place : at ≡ length before + 1
  pub room : at + length rest ≤ length t + 1

leads_push : (o f g : Front) (ls : List Line) (l : Line) → Leads o ls f → Steps f l g → Leads o (ls ++ l ∷ []) g
leads_push o f g [] l e s = (g, subst (λ x. Steps x l g) (sym e) s, refl)
leads_push o f g (x ∷ ls) l (h, w, k) s = (h, w, leads_push h f g ls l k s)

pub sofar_start : (t : List ℕ) → Sofar t nothing t 1
sofar_start t = record { before = []; known = record { whole = refl; spelt = tt; leads = refl }; place = refl; room = omega arith }

pub sofar_more : (t : List ℕ) (f g : Front) (rest more : List ℕ) (at : ℕ) → Sofar t f rest at → Taken rest f more g → Sofar t g more (at + 1)
sofar_more t f g rest more at s (a, zs, x, p, k) =
    let n = first_shorter rest a zs more x in
    let m = length_push s.before (line a zs) in
    record {
      before = s.before ++ line a zs ∷ [];
      known = record {
        whole = s.known.whole ∙ ap (λ r. text s.before ++ r) x.whole ∙ sym (append_assoc (text s.before) (spelt a zs) more) ∙ ap (λ r. r ++ more) (flat_map_more (λ (l : Line). spelt l.letter l.numbers) [] s.before (line a zs));
        spelt = All-push WellSpelt s.before (line a zs) s.known.spelt x.short;
        leads = leads_push nothing f g s.before (line a zs) s.known.leads (p, k);
      };
      place = omega (arith, s.place);
      room = omega (arith, s.room);
    }

pub sofar_refused : (e : TextFault) (t : List ℕ) (f : Front) (rest : List ℕ) (at : ℕ) → length t ≤ most_bytes → Sofar t f rest at → Halted rest f at e → Refuses t e
sofar_refused e t f rest at l s h = go (told e) (h s.before s.place)
  where
    go : (o : Option (ℕ × ℕ)) → IfSome o (λ (p : ℕ × ℕ). Why s.before f rest p.0 p.1) → IfSome o (λ (p : ℕ × ℕ). Refused t p.0 p.1)
    go None w = tt
    go (Some p) w = stopped l s.before f rest s.known w

pub sofar_early : (t : List ℕ) (f : Front) (rest : List ℕ) (at : ℕ) → length t ≤ most_bytes → Sofar t f rest at → length rest ≡ 0 → length f.seeds ≡ 0 → Refused t 2 at
sofar_early t f rest at l s e z = stopped l s.before f rest s.known (early refl s.place (nil_from_length rest e) (λ c. omega arith))

pub sofar_all : (t : List ℕ) (f : Front) (rest : List ℕ) (at : ℕ) → Sofar t f rest at → length rest ≡ 0 → 0 < length f.seeds → ReadUp t f
sofar_all t f rest at s e c = ((s.before, subst (At t s.before f) (nil_from_length rest e) s.known), c)

-- a text has at least as many bytes as lines
bytes_of : (ls : List Line) → length ls ≤ length (text ls)
bytes_of [] = omega arith
bytes_of (l ∷ ls) = let h = bytes_of ls in let n = length-append (spelt l.letter l.numbers) (text ls) in omega arith

lines_count : (j : JobNumbers) → 3 + length j.labels + length j.labels + length (flat_map tile_lines j.tiles) ≤ length (lines_of j)
lines_count j =
    let seeds = line letter_D (pos j.depth ∷ []) ∷ map seed_line j.seeds in
    let tiles = flat_map tile_lines j.tiles ++ seeds in
    let subs = map (λ (l : LabelNumbers). subdivision_line l.subdivision) j.labels in
    let a : length (map label_line j.labels ++ (subs ++ tiles)) ≡ length (map label_line j.labels) + length (subs ++ tiles) = length-append (map label_line j.labels) (subs ++ tiles) in
    let b : length (map label_line j.labels) ≡ length j.labels = length-map j.labels label_line in
    let c : length (subs ++ tiles) ≡ length subs + length tiles = length-append subs tiles in
    let d : length subs ≡ length j.labels = length-map j.labels (λ (l : LabelNumbers). subdivision_line l.subdivision) in
    let e : length tiles ≡ length (flat_map tile_lines j.tiles) + length seeds = length-append (flat_map tile_lines j.tiles) seeds in
    omega arith

pub late_same : (m m' a b : ℕ) (ls ls' : List Line) → m ≡ m' → a ≡ b → ls ≡ ls' → first_beyond m a ls ≡ first_beyond m' b ls'
late_same m m' a b ls ls' p q r = λ i. first_beyond (p i) (q i) (r i)

-- what is known once all lines are read
pub record Read (t : List ℕ) (f : Front) : Type 0 where
  pub ends : Shaped (job_of f)
  pub same : t ≡ spelled (job_of f)
  pub few : length f.heads ≤ most_labels
  pub paired : length f.subdivisions ≤ length f.heads
  pub room : 3 + length f.heads + length f.heads + length (flat_map tile_lines f.tiles) ≤ most_bytes
  pub late_at : (k : ℕ) → first_beyond (length f.tiles) (3 + length f.heads + length f.heads) (flat_map tile_lines f.tiles) ≡ Some k → Refused t 3 k
  pub all_named : first_beyond (length f.tiles) (3 + length f.heads + length f.heads) (flat_map tile_lines f.tiles) ≡ None → InRange (job_of f)

pub read_up : (t : List ℕ) (f : Front) → length t ≤ most_bytes → ReadUp t f → Read t f
read_up t f l ((before, known), c) =
    let e = complete_ends before f known.leads c in
    let w : t ≡ spelled (job_of f) = known.whole ∙ append-nil _ ∙ ap text e.lines in
    let b = bytes_of (lines_of (job_of f)) in
    let n = lines_count (job_of f) in
    let z = ap length w in
    let h = e.labels in
    let k : 3 + length (job_of f).labels + length (job_of f).labels ≡ 3 + length f.heads + length f.heads = omega arith in
    let q : first_beyond (length f.tiles) 1 before ≡ first_beyond (length f.tiles) (3 + length f.heads + length f.heads) (flat_map tile_lines f.tiles)
    = ap (first_beyond (length f.tiles) 1) e.lines ∙ late_lines (length f.tiles) (job_of f) ∙ at_line _ _ _ (flat_map tile_lines f.tiles) k in
    record {
      ends = e.shaped;
      same = w;
      few = omega (arith, e.shaped.few_labels);
      paired = e.paired;
      room = omega arith;
      late_at = λ m y. stopped l before f [] known (late refl refl c (q ∙ y));
      all_named = λ y. record { shaped = e.shaped; named = tiles_named (length f.tiles) _ f.tiles y };
    }

-- the verdict is the only one
pub accepts_of : (r : Result Job TextFault) (t : List ℕ) → MatchResult r (λ j. (t ≡ spelled (numbers j)) × InRange (numbers j)) (Refuses t) → (j : JobNumbers) → InRange j → t ≡ spelled j → MatchResult r (λ k. numbers k ≡ j) (λ e. e ≡ Memory)
accepts_of (Ok k) t h j i e = job_one t (numbers k) j h.1.shaped i.shaped (job_fits (numbers k) h.1).spelt (job_fits j i).spelt h.0 e
accepts_of (Err (Misspelt n)) t h j i e = absurd (job_accepted t j i (job_fits j i).spelt (subst (λ x. length x ≤ most_bytes) (sym e) (job_fits j i).short) e 1 n h)
accepts_of (Err (Misplaced n)) t h j i e = absurd (job_accepted t j i (job_fits j i).spelt (subst (λ x. length x ≤ most_bytes) (sym e) (job_fits j i).short) e 2 n h)
accepts_of (Err (Unfit n)) t h j i e = absurd (job_accepted t j i (job_fits j i).spelt (subst (λ x. length x ≤ most_bytes) (sym e) (job_fits j i).short) e 3 n h)
accepts_of (Err Overlong) t h j i e = absurd (job_accepted t j i (job_fits j i).spelt (subst (λ x. length x ≤ most_bytes) (sym e) (job_fits j i).short) e 3 0 h)
accepts_of (Err Memory) t h j i e = refl

told_same : (n k n' k' : ℕ) → (n ≡ n') × (k ≡ k') → ◌≡◌ {A = Option (ℕ × ℕ)} (Some (n, k)) (Some (n', k'))
told_same n k n' k' e = λ i. Some (e.0 i, e.1 i)

pub refuses_of : (r : Result Job TextFault) (t : List ℕ) → MatchResult r (λ j. (t ≡ spelled (numbers j)) × InRange (numbers j)) (Refuses t) → (n k : ℕ) → Refused t n k → MatchResult r (λ _. ⊥) (λ e. (e ≡ Memory) ⊎ (told e ≡ Some (n, k)))
refuses_of (Ok j) t h n k x = job_accepted t (numbers j) h.1 (job_fits (numbers j) h.1).spelt (subst (λ y. length y ≤ most_bytes) (sym h.0) (job_fits (numbers j) h.1).short) h.0 n k x
refuses_of (Err (Misspelt m)) t h n k x = inr (told_same 1 m n k (refused_one t 1 m n k h x))
refuses_of (Err (Misplaced m)) t h n k x = inr (told_same 2 m n k (refused_one t 2 m n k h x))
refuses_of (Err (Unfit m)) t h n k x = inr (told_same 3 m n k (refused_one t 3 m n k h x))
refuses_of (Err Overlong) t h n k x = inr (told_same 3 0 n k (refused_one t 3 0 n k h x))
refuses_of (Err Memory) t h n k x = inl refl

-- the same, as a draft holds it
pub late_of : (d : Draft) (n : ℕ) (ts : List (Tile (Vec ℤ))) → n ≡ length (vec_items d.heads) → ts ≡ vec_items d.tiles
    → first_beyond (length ts) (3 + 2 * n) (flat_map tile_lines (map tile_of ts)) ≡ first_beyond (length (front d).tiles) (3 + length (front d).heads + length (front d).heads) (flat_map tile_lines (front d).tiles)
late_of d n ts e q =
    let a = length-map (vec_items d.tiles) tile_of in
    let b = length-map (vec_items d.heads) head_of in
    let m : length ts ≡ length (front d).tiles = ap length q ∙ sym a in
    let k : 3 + 2 * n ≡ 3 + length (front d).heads + length (front d).heads = omega arith in
    late_same _ _ _ _ _ _ m k (ap (λ t. flat_map tile_lines (map tile_of t)) q)

pub room_of : (t : List ℕ) (d : Draft) (n : ℕ) (ts : List (Tile (Vec ℤ))) → Read t (front d) → n ≡ length (vec_items d.heads) → ts ≡ vec_items d.tiles → 3 + 2 * n + length (flat_map tile_lines (map tile_of ts)) < 2 ^ 64
room_of t d n ts u e q =
    let b = length-map (vec_items d.heads) head_of in
    let l = ap (λ t. length (flat_map tile_lines (map tile_of t))) q in
    omega (arith, u.room)

pub spelled_of : (t : List ℕ) (f : Front) (j : JobNumbers) → Read t f → InRange (job_of f) → j ≡ job_of f → (t ≡ spelled j) × InRange j
spelled_of t f j u i e = (u.same ∙ ap spelled (sym e), subst InRange (sym e) i)
