-- Edges and net counts: the two ends of an edge, and what appending, scaling and reading make of net counts.
use Rattle.std.proofs.Common.{◌≡◌, ℕ, ◌+◌, ◌%◌, Bool, true, false, cond, ◌||◌, ltb, ◌↔◌, [], ◌∷◌, ◌++◌, map, ℤ, pos, ◌+ℤ◌, ◌*ℤ◌, neg_ℤ, sym, refl, ap, ◌∙◌, ap₂, true≢false}
use mathlib.Core.Bool.{and-eq-true_iff, false≢true}
use mathlib.Core.List.{map-append}
use native.Mathlib.Nat.{mod-mod, mod-add-mod}
use lib.IntN.{neg_ℤ-neg_ℤ}
use Rattle.std.proofs.lemmas.Bool.{eqb-true, eq-eqb, lt-ltb, le-ltb, ltb-true, ltb-false}
use Rattle.exact.specs.Cyclotomic.{Cyclotomic, CyclotomicLaws, half, same_element}
use Rattle.exact.specs.Groups.{AbelianGroup, AbelianLaws, times}
use Rattle.exact.proofs.Equality.{same_element_is, same_element_self}
use Rattle.exact.proofs.Powers.{ring_of, power_rest}
use Rattle.exact.proofs.Solver as solver
use Rattle.chains.specs.Counts.{Counted, scaled, tally, reading}
use Rattle.chains.specs.Books.{Book, label_at}
use Rattle.chains.specs.Edges.{Edge, Chain, same_edge, along, edge, reversed, canonical, net, SameNet, ReadsEdges}
use Rattle.rings.proofs.Multiples as groups
use Rattle.chains.proofs.Tallies as tallies
use Rattle.chains.proofs.Tallies.{negated}
use Rattle.chains.proofs.Turns as turns

pub edge_path : {E : Cyclotomic} {e e' d d' : ℕ} {p p' : E.Elem} → e ≡ e' → d ≡ d' → p ≡ p' → let x : Edge E = record { label = e; direction = d; start = p } in let x' : Edge E = record { label = e'; direction = d'; start = p' } in x ≡ x'
edge_path a b c = λ i. record { label = a i; direction = b i; start = c i }

pub counted_path : {K : Type 0} {x y : K} {c d : ℤ} → x ≡ y → c ≡ d → let u : Counted K = record { what = x; count = c } in let v : Counted K = record { what = y; count = d } in u ≡ v
counted_path p q = λ i. record { what = p i; count = q i }

module _ (E : Cyclotomic) (L : CyclotomicLaws E) where
  pub there_and_back : (x y : E.Elem) → E.add (E.add x y) (E.neg y) ≡ x
  there_and_back x y = solver.solve (ring_of E L) (x ∷ y ∷ []) (solver.plus (solver.plus (solver.v 0) (solver.v 1)) (solver.minus (solver.v 1))) (solver.v 0) tt

  pub same_edge_is : (x y : Edge E) → (same_edge E x y ≡ true) ↔ (x ≡ y)
  unfolding same_edge
  same_edge_is x y = (
    (λ h. let a = (and-eq-true_iff _ _).0 h in let b = (and-eq-true_iff _ _).0 a.0 in
        edge_path (eqb-true _ _ b.0) (eqb-true _ _ b.1) (same_element_is E L _ _ a.1)),
    (λ h. (and-eq-true_iff _ _).1 ((and-eq-true_iff _ _).1 (eq-eqb _ _ (ap (λ z. z.label) h), eq-eqb _ _ (ap (λ z. z.direction) h)), ap (same_element E x.start) (sym (ap (λ z. z.start) h)) ∙ same_element_self E L x.start)),
  )

module _ (E : Cyclotomic) (L : CyclotomicLaws E) (B : Book E) where
  module _ (G : AbelianGroup) (M : AbelianLaws G) (r : Edge E → G.Val) (R : ReadsEdges E B G r) where
    reading_canonical : (xs : Chain E) → reading G r (map (canonical E B) xs) ≡ reading G r xs
    unfolding reading canonical
    reading_canonical [] = refl
    reading_canonical (x ∷ xs) = ap₂ G.sum (go (label_at B x.what.label).arrowed (ltb (x.what.direction % E.n) (half E)) refl) (reading_canonical xs)
      where
        go : (a b : Bool) → (label_at B x.what.label).arrowed ≡ a
            → let w : Counted (Edge E) = cond (a || b) (record { what = edge E x.what.label x.what.direction x.what.start; count = x.count }) (record { what = reversed E B x.what; count = neg_ℤ x.count })
            in times G w.count (r w.what) ≡ times G x.count (r x.what)
        go true b e = ap (times G _) (R.modulo_n x.what)
        go false true e = ap (times G _) (R.modulo_n x.what)
        go false false e = ap (times G _) (R.from_the_other_end x.what e) ∙ groups.times_opposite G M _ _ ∙ ap G.opposite (groups.times_neg G M _ _) ∙ groups.opposite_opposite G M _

    -- edges cancel in every reading
    pub cancels : (xs ys : Chain E) → SameNet E B xs ys → reading G r xs ≡ reading G r ys
    unfolding net
    cancels xs ys h = sym (reading_canonical xs) ∙ tallies.agrees G M r (same_edge E) (same_edge_is E L) (map (canonical E B) xs) (map (canonical E B) ys) h ∙ reading_canonical ys

  -- along an edge and back
  pub along_back : (e j : ℕ) (q : E.Elem) → along E B e (j + half E) (along E B e j q) ≡ q
  unfolding along
  along_back e j q = ap (E.add _) (ap (λ z. E.mul z (label_at B e).length) (turns.power_opposed E L j) ∙ solver.neg_mul (ring_of E L) _ _) ∙ there_and_back E L _ _

  pub along_mod : (e j : ℕ) (q : E.Elem) → along E B e (j % E.n) q ≡ along E B e j q
  unfolding along
  along_mod e j q = ap (λ z. E.add q (E.mul z (label_at B e).length)) (power_rest E L j)

  pub edge_mod : (e j : ℕ) (q : E.Elem) → edge E e (j % E.n) q ≡ edge E e j q
  unfolding edge
  edge_mod e j q = edge_path refl (mod-mod j E.n) refl

  pub edge_twice : (e j : ℕ) (q : E.Elem) → edge E e (j + half E + half E) (along E B e (j + half E) (along E B e j q)) ≡ edge E e j q
  unfolding edge
  edge_twice e j q = edge_path refl (sym (mod-add-mod (j + half E) E.n (half E)) ∙ turns.twice_opposed E L j) (along_back e j q)

  pub edge_opposed : (e j : ℕ) (q : E.Elem) → edge E e (j % E.n + half E) q ≡ edge E e (j + half E) q
  unfolding edge
  edge_opposed e j q = edge_path refl (mod-add-mod j E.n (half E)) refl

  pub reversed_edge : (e j : ℕ) (q : E.Elem) → reversed E B (edge E e j q) ≡ edge E e (j + half E) (along E B e j q)
  unfolding reversed edge
  reversed_edge e j q = edge_path refl (mod-add-mod j E.n (half E)) (along_mod e j q)

  pub reversed_reversed : (x : Edge E) → reversed E B (reversed E B x) ≡ edge E x.label x.direction x.start
  unfolding reversed
  reversed_reversed x = reversed_edge x.label (x.direction + half E) (along E B x.label x.direction x.start) ∙ edge_twice x.label x.direction x.start

  -- a plain edge from its other end is canonical as the edge with the opposite count
  pub canonical_reversed : (x : Edge E) (c : ℤ) → (label_at B x.label).arrowed ≡ false → canonical E B (record { what = reversed E B x; count = c }) ≡ canonical E B (record { what = x; count = neg_ℤ c })
  unfolding canonical reversed edge
  canonical_reversed x c plain = go (label_at B x.label).arrowed (ltb (x.direction % E.n) (half E)) (ltb ((x.direction + half E) % E.n % E.n) (half E)) plain
      (λ h. le-ltb _ _ (rw mod-mod (turns.low_then_high E L x.direction (ltb-true _ _ h))))
      (λ h. lt-ltb _ _ (rw mod-mod (turns.high_then_low E L x.direction (ltb-false _ _ h))))
    where
      go : (a b d : Bool) → a ≡ false → (b ≡ true → d ≡ false) → (b ≡ false → d ≡ true)
          → let v : Counted (Edge E) = cond (a || d) (record { what = edge E x.label ((x.direction + half E) % E.n) (along E B x.label x.direction x.start); count = c }) (record { what = reversed E B (reversed E B x); count = neg_ℤ c }) in
          let w : Counted (Edge E) = cond (a || b) (record { what = edge E x.label x.direction x.start; count = neg_ℤ c }) (record { what = reversed E B x; count = neg_ℤ (neg_ℤ c) })
          in v ≡ w
      go true b d h k l = absurd (true≢false h)
      go false true true h k l = absurd (true≢false (k refl))
      go false true false h k l = counted_path (reversed_reversed x) refl
      go false false true h k l = counted_path (edge_mod x.label (x.direction + half E) _) (sym (neg_ℤ-neg_ℤ c))
      go false false false h k l = absurd (false≢true (l refl))

  canonical_negated : (x : Edge E) (c : ℤ) → canonical E B (record { what = x; count = neg_ℤ c }) ≡ record { what = (canonical E B (record { what = x; count = c })).what; count = neg_ℤ (canonical E B (record { what = x; count = c })).count }
  unfolding canonical
  canonical_negated x c = go ((label_at B x.label).arrowed || ltb (x.direction % E.n) (half E))
    where
      go : (b : Bool) →
          let v : Counted (Edge E) = cond b (record { what = edge E x.label x.direction x.start; count = neg_ℤ c }) (record { what = reversed E B x; count = neg_ℤ (neg_ℤ c) }) in
          let w : Counted (Edge E) = cond b (record { what = edge E x.label x.direction x.start; count = c }) (record { what = reversed E B x; count = neg_ℤ c }) in
          v ≡ record { what = w.what; count = neg_ℤ w.count }
      go true = refl
      go false = refl

  canonical_scaled : (x : Edge E) (c d : ℤ) → canonical E B (record { what = x; count = c *ℤ d }) ≡ record { what = (canonical E B (record { what = x; count = d })).what; count = c *ℤ (canonical E B (record { what = x; count = d })).count }
  unfolding canonical
  canonical_scaled x c d = go ((label_at B x.label).arrowed || ltb (x.direction % E.n) (half E))
    where
      go : (b : Bool) →
          let v : Counted (Edge E) = cond b (record { what = edge E x.label x.direction x.start; count = c *ℤ d }) (record { what = reversed E B x; count = neg_ℤ (c *ℤ d) }) in
          let w : Counted (Edge E) = cond b (record { what = edge E x.label x.direction x.start; count = d }) (record { what = reversed E B x; count = neg_ℤ d }) in
          v ≡ record { what = w.what; count = c *ℤ w.count }
      go true = refl
      go false = counted_path refl (sym (groups.mul_negated c d))

  map_negated : (xs : Chain E) → map (canonical E B) (negated xs) ≡ negated (map (canonical E B) xs)
  unfolding negated
  map_negated [] = refl
  map_negated (x ∷ xs) = ap₂ ◌∷◌ (canonical_negated x.what x.count) (map_negated xs)

  map_scaled : (c : ℤ) (xs : Chain E) → map (canonical E B) (scaled c xs) ≡ scaled c (map (canonical E B) xs)
  unfolding scaled
  map_scaled c [] = refl
  map_scaled c (x ∷ xs) = ap₂ ◌∷◌ (canonical_scaled x.what c x.count) (map_scaled c xs)

  pub net_append : (xs ys : Chain E) (y : Edge E) → net E B (xs ++ ys) y ≡ net E B xs y +ℤ net E B ys y
  unfolding net
  net_append xs ys y = ap (λ z. tally (same_edge E) z y) (map-append (canonical E B) xs ys) ∙ tallies.tally_append (same_edge E) (map (canonical E B) xs) (map (canonical E B) ys) y

  pub net_negated : (xs : Chain E) (y : Edge E) → net E B (negated xs) y ≡ neg_ℤ (net E B xs y)
  unfolding net
  net_negated xs y = ap (λ z. tally (same_edge E) z y) (map_negated xs) ∙ tallies.tally_negated (same_edge E) (map (canonical E B) xs) y

  pub net_scaled : (c : ℤ) (xs : Chain E) (y : Edge E) → net E B (scaled c xs) y ≡ c *ℤ net E B xs y
  unfolding net
  net_scaled c xs y = ap (λ z. tally (same_edge E) z y) (map_scaled c xs) ∙ tallies.tally_scaled (same_edge E) c (map (canonical E B) xs) y

  net_same : (x x' : Counted (Edge E)) (y : Edge E) → canonical E B x ≡ canonical E B (record { what = x'.what; count = neg_ℤ x'.count }) → net E B (x ∷ []) y ≡ net E B (negated (x' ∷ [])) y
  unfolding net negated
  net_same x x' y h = ap (λ z. tally (same_edge E) (z ∷ []) y) h

  pub net_one : (x x' : Counted (Edge E)) (y : Edge E) → canonical E B x ≡ canonical E B (record { what = x'.what; count = neg_ℤ x'.count }) → net E B (x ∷ []) y ≡ neg_ℤ (net E B (x' ∷ []) y)
  net_one x x' y h = net_same x x' y h ∙ net_negated (x' ∷ []) y

  pub net_none : (y : Edge E) → net E B [] y ≡ pos 0
  unfolding net tally
  net_none y = refl

  pub net_empty : (y : Edge E) → net E B [] y ≡ neg_ℤ (net E B [] y)
  unfolding net tally
  net_empty y = refl
