-- A text has one verdict: one job in range, or one refusal.
use Rattle.std.proofs.Common.{◌≡◌, ℕ, ◌≤◌, ◌⊎◌, List, [], ◌∷◌, ◌++◌, length, ℤ, sym, refl, ap, ◌∙◌, subst, inl, inr, ⊎_elim, append-nil, arith}
use Rattle.std.specs.List.{AllByRecursion}
use Rattle.exact.specs.JobNumbers.{JobNumbers}
use Rattle.lines.specs.Letters.{Letter}
use Rattle.lines.specs.Lines.{Line, line, text, WellSpelt, FirstLine}
use Rattle.lines.proofs.Fronted.{line_unique, first_of}
use Rattle.jobs.specs.Limits.{most_bytes}
use Rattle.jobs.specs.Ranges.{Shaped, InRange}
use Rattle.jobs.specs.Spelled.{lines_of, spelled}
use Rattle.jobs.specs.Fronts.{Front, nothing, Place, Takes, Leads, job_of}
use Rattle.jobs.specs.Refusals.{At, Why, misspelt, misplaced, early, unfit, late, Refused, overlong, stopped}
use Rattle.jobs.proofs.Lates.{late_lines, none_tiles}
use Rattle.jobs.proofs.Runs.{takes_one, whole, job_whole, job_leads}

no_first : (t : List ℕ) (a : Letter) (zs : List ℤ) (more : List ℕ) → t ≡ [] → FirstLine t a zs more → ⊥
no_first t a zs more e f = let h = sym e ∙ f.whole in let n = ap length h in omega arith

-- no line follows
abbrev Stuck : Front → List ℕ → Type 0
Stuck f rest = (a : Letter) (zs : List ℤ) (more : List ℕ) (g : Front) → FirstLine rest a zs more → Place f a → Takes f a zs g → ⊥

-- lines of one text: the one list goes on from the other
pub record Further (bs cs : List Line) (f g : Front) (r s : List ℕ) : Type 0 where
  pub more : List Line
  pub lines : cs ≡ bs ++ more
  pub rest : r ≡ text more ++ s
  pub spelt : AllByRecursion WellSpelt more
  pub leads : Leads f more g

further_cons : (b c : Line) (bs cs : List Line) (f g : Front) (r s : List ℕ) → b ≡ c → Further bs cs f g r s → Further (b ∷ bs) (c ∷ cs) f g r s
further_cons b c bs cs f g r s e u = record { more = u.more; lines = (λ i. sym e i ∷ u.lines i); rest = u.rest; spelt = u.spelt; leads = u.leads }

compared : (bs cs : List Line) (o f g : Front) (r s : List ℕ) → AllByRecursion WellSpelt bs → AllByRecursion WellSpelt cs → text bs ++ r ≡ text cs ++ s → Leads o bs f → Leads o cs g → Further bs cs f g r s ⊎ Further cs bs g f s r
compared [] cs o f g r s p q e k l = inl (record { more = cs; lines = refl; rest = e; spelt = q; leads = subst (λ x. Leads x cs g) k l })
compared (b ∷ bs) [] o f g r s p q e k l = inr (record { more = b ∷ bs; lines = refl; rest = sym e; spelt = p; leads = subst (λ x. Leads x (b ∷ bs) f) l k })
compared (b ∷ bs) (c ∷ cs) o f g r s p q e (h, k, m) (h', k', m') =
    let u = line_unique (text (b ∷ bs) ++ r) b.letter c.letter b.numbers c.numbers (text bs ++ r) (text cs ++ s) (first_of b bs r p.0) (subst (λ t. FirstLine t c.letter c.numbers (text cs ++ s)) (sym e) (first_of c cs s q.0)) in
    let v : b ≡ c = λ i. record { letter = u.0 i; numbers = u.1 i } in
    let w : h' ≡ h = takes_one b.letter o b.numbers h' h (subst (λ x. Takes o x.letter x.numbers h') (sym v) k'.1) k.1 in
    ⊎_elim (λ x. inl (further_cons b c bs cs f g r s v x)) (λ x. inr (further_cons c b cs bs g f s r (sym v) x))
    (compared bs cs h f g r s p.1 q.1 u.2 m (subst (λ x. Leads x cs g) w m'))

ends_here : (bs cs : List Line) (f g : Front) (r s : List ℕ) (u : Further bs cs f g r s) → Stuck f r → (bs ≡ cs) × (f ≡ g) × (r ≡ s)
ends_here bs cs f g r s u k = go u.more u.lines u.rest u.spelt u.leads
  where
    go : (more : List Line) → cs ≡ bs ++ more → r ≡ text more ++ s → AllByRecursion WellSpelt more → Leads f more g → (bs ≡ cs) × (f ≡ g) × (r ≡ s)
    go [] e q p l = (sym (e ∙ append-nil bs), l, q)
    go (m ∷ more) e q p (h, w, l) = absurd (k m.letter m.numbers (text more ++ s) h (subst (λ t. FirstLine t m.letter m.numbers (text more ++ s)) (sym q) (first_of m more s p.0)) w.0 w.1)

one_stop : (t : List ℕ) (bs cs : List Line) (f g : Front) (r s : List ℕ) → At t bs f r → Stuck f r → At t cs g s → Stuck g s → (bs ≡ cs) × (f ≡ g) × (r ≡ s)
one_stop t bs cs f g r s x p y q =
    ⊎_elim (λ u. ends_here bs cs f g r s u p) (λ u. let e = ends_here cs bs g f s r u q in (sym e.0, sym e.1, sym e.2))
    (compared bs cs nothing f g r s x.spelt y.spelt (sym x.whole ∙ y.whole) x.leads y.leads)

same_place : (f : Front) (rest : List ℕ) (a b : Letter) (zs ys : List ℤ) (m k : List ℕ) → FirstLine rest a zs m → FirstLine rest b ys k → Place f b → Place f a
same_place f rest a b zs ys m k x y p = subst (Place f) (sym (line_unique rest a b zs ys m k x y).0) p

same_takes : (f g : Front) (rest : List ℕ) (a b : Letter) (zs ys : List ℤ) (m k : List ℕ) → FirstLine rest a zs m → FirstLine rest b ys k → Takes f b ys g → Takes f a zs g
same_takes f g rest a b zs ys m k x y t =
    let u = line_unique rest a b zs ys m k x y in
    let v : line b ys ≡ line a zs = λ i. record { letter = sym u.0 i; numbers = sym u.1 i } in
    subst (λ l. Takes f l.letter l.numbers g) v t

why_stuck : (bs : List Line) (f : Front) (r : List ℕ) (n k : ℕ) → Why bs f r n k → Stuck f r
why_stuck bs f r n k (misspelt _ _ some none) = λ a zs more g x p t. none a zs more x
why_stuck bs f r n k (misplaced _ _ a zs more x none) = λ b ys m g y p t. none (same_place f r a b zs ys more m x y p)
why_stuck bs f r n k (early _ _ e none) = λ b ys m g y p t. no_first r b ys m e y
why_stuck bs f r n k (unfit _ _ a zs more x p none) = λ b ys m g y q t. none g (same_takes f g r a b zs ys more m x y t)
why_stuck bs f r n k (late _ e c h) = λ b ys m g y p t. no_first r b ys m e y

why_one : (bs : List Line) (f : Front) (r : List ℕ) (n k n' k' : ℕ) → Why bs f r n k → Why bs f r n' k' → (n ≡ n') × (k ≡ k')
why_one bs f r n k n' k' (misspelt a b some none) (misspelt a' b' some' none') = (a ∙ sym a', b ∙ sym b')
why_one bs f r n k n' k' (misspelt a b some none) (misplaced a' b' c zs more x _) = absurd (none c zs more x)
why_one bs f r n k n' k' (misspelt a b some none) (early a' b' e _) = let z = ap length e in absurd (omega arith)
why_one bs f r n k n' k' (misspelt a b some none) (unfit a' b' c zs more x _ _) = absurd (none c zs more x)
why_one bs f r n k n' k' (misspelt a b some none) (late a' e _ _) = let z = ap length e in absurd (omega arith)
why_one bs f r n k n' k' (misplaced a b c zs more x none) (misspelt a' b' some' none') = absurd (none' c zs more x)
why_one bs f r n k n' k' (misplaced a b c zs more x none) (misplaced a' b' _ _ _ _ _) = (a ∙ sym a', b ∙ sym b')
why_one bs f r n k n' k' (misplaced a b c zs more x none) (early a' b' e _) = absurd (no_first r c zs more e x)
why_one bs f r n k n' k' (misplaced a b c zs more x none) (unfit a' b' c' zs' more' x' p _) = absurd (none (same_place f r c c' zs zs' more more' x x' p))
why_one bs f r n k n' k' (misplaced a b c zs more x none) (late a' e _ _) = absurd (no_first r c zs more e x)
why_one bs f r n k n' k' (early a b e none) (misspelt a' b' some' none') = let z = ap length e in absurd (omega arith)
why_one bs f r n k n' k' (early a b e none) (misplaced a' b' c zs more x _) = absurd (no_first r c zs more e x)
why_one bs f r n k n' k' (early a b e none) (early a' b' _ _) = (a ∙ sym a', b ∙ sym b')
why_one bs f r n k n' k' (early a b e none) (unfit a' b' c zs more x _ _) = absurd (no_first r c zs more e x)
why_one bs f r n k n' k' (early a b e none) (late a' _ c _) = absurd (none c)
why_one bs f r n k n' k' (unfit a b c zs more x p none) (misspelt a' b' some' none') = absurd (none' c zs more x)
why_one bs f r n k n' k' (unfit a b c zs more x p none) (misplaced a' b' c' zs' more' x' none') = absurd (none' (same_place f r c' c zs' zs more' more x' x p))
why_one bs f r n k n' k' (unfit a b c zs more x p none) (early a' b' e _) = absurd (no_first r c zs more e x)
why_one bs f r n k n' k' (unfit a b c zs more x p none) (unfit a' b' _ _ _ _ _ _) = (a ∙ sym a', b ∙ sym b')
why_one bs f r n k n' k' (unfit a b c zs more x p none) (late a' e _ _) = absurd (no_first r c zs more e x)
why_one bs f r n k n' k' (late a e c h) (misspelt a' b' some' none') = let z = ap length e in absurd (omega arith)
why_one bs f r n k n' k' (late a e c h) (misplaced a' b' d zs more x _) = absurd (no_first r d zs more e x)
why_one bs f r n k n' k' (late a e c h) (early a' b' _ none) = absurd (none c)
why_one bs f r n k n' k' (late a e c h) (unfit a' b' d zs more x _ _) = absurd (no_first r d zs more e x)
why_one bs f r n k n' k' (late a e c h) (late a' _ _ h') = (a ∙ sym a', cc)

why_at : (bs cs : List Line) (f g : Front) (r s : List ℕ) (n k : ℕ) → (bs ≡ cs) × (f ≡ g) × (r ≡ s) → Why cs g s n k → Why bs f r n k
why_at bs cs f g r s n k e w = subst (λ x. Why x f r n k) (sym e.0) (subst (λ x. Why cs x r n k) (sym e.1) (subst (λ x. Why cs g x n k) (sym e.2) w))

-- at most one refusal
pub refused_one : (t : List ℕ) (n k n' k' : ℕ) → Refused t n k → Refused t n' k' → (n ≡ n') × (k ≡ k')
refused_one t n k n' k' (overlong l a b) (overlong l' a' b') = (a ∙ sym a', b ∙ sym b')
refused_one t n k n' k' (overlong l a b) (stopped l' _ _ _ _ _) = absurd (omega arith)
refused_one t n k n' k' (stopped l _ _ _ _ _) (overlong l' a' b') = absurd (omega arith)
refused_one t n k n' k' (stopped l bs f r x w) (stopped l' cs g s y v) =
    why_one bs f r n k n' k' w (why_at bs cs f g r s n' k' (one_stop t bs cs f g r s x (why_stuck bs f r n k w) y (why_stuck cs g s n' k' v)) v)

-- a job's own text, read to its end
pub job_at : (t : List ℕ) (j : JobNumbers) → Shaped j → AllByRecursion WellSpelt (lines_of j) → t ≡ spelled j → At t (lines_of j) (whole j) []
job_at t j s w e = record { whole = e ∙ sym (append-nil _); spelt = w; leads = job_leads j s }

stuck_end : (f : Front) → Stuck f []
stuck_end f a zs more g x p t = no_first [] a zs more refl x

why_not : (j : JobNumbers) → InRange j → (n k : ℕ) → Why (lines_of j) (whole j) [] n k → ⊥
why_not j i n k (misspelt _ _ some _) = omega arith
why_not j i n k (misplaced _ _ a zs more x _) = no_first [] a zs more refl x
why_not j i n k (early _ _ _ none) = none i.shaped.some_seeds
why_not j i n k (unfit _ _ a zs more x _ _) = no_first [] a zs more refl x
why_not j i n k (late _ _ _ h) =
    let e = late_lines (length j.tiles) j ∙ none_tiles (length j.tiles) _ j.tiles i.named in
    let bad : ◌≡◌ {A = ℕ} 0 1 = cc in omega arith

-- the text of a job in range is not refused
pub job_accepted : (t : List ℕ) (j : JobNumbers) → InRange j → AllByRecursion WellSpelt (lines_of j) → length t ≤ most_bytes → t ≡ spelled j → (n k : ℕ) → Refused t n k → ⊥
job_accepted t j i w l e n k (overlong o _ _) = omega arith
job_accepted t j i w l e n k (stopped _ bs f r x v) =
    let u = one_stop t (lines_of j) bs (whole j) f [] r (job_at t j i.shaped w e) (stuck_end (whole j)) x (why_stuck bs f r n k v) in
    why_not j i n k (why_at (lines_of j) bs (whole j) f [] r n k u v)

-- one job to a text
pub job_one : (t : List ℕ) (i j : JobNumbers) → Shaped i → Shaped j → AllByRecursion WellSpelt (lines_of i) → AllByRecursion WellSpelt (lines_of j) → t ≡ spelled i → t ≡ spelled j → i ≡ j
job_one t i j p q v w d e =
    let u = one_stop t (lines_of i) (lines_of j) (whole i) (whole j) [] [] (job_at t i p v d) (stuck_end (whole i)) (job_at t j q w e) (stuck_end (whole j)) in
    sym (job_whole i) ∙ ap job_of u.1 ∙ job_whole j
