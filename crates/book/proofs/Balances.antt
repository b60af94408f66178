-- From what was gone through to what two chains have in common.
use Rattle.std.proofs.Common.{◌≡◌, List, [], ◌∷◌, ◌++◌, map, ℤ, pos, ◌-ℤ◌, Some, None, Option, sym, ap, ◌∙◌, subst, arith, MatchOption}
use mathlib.Core.List.{map-append}
use Rattle.std.proofs.lemmas.Int.{ints}
use Rattle.std.specs.List.{AllByRecursion}
use Rattle.std.proofs.ByRecursion.{All-map}
use Rattle.exact.specs.Cyclotomic.{Cyclotomic, CyclotomicLaws}
use Rattle.chains.specs.Books.{Book}
use Rattle.chains.specs.Edges.{Edge, Chain, canonical, net, SameNet}
use Rattle.chains.proofs.Lists.{all_append, all_front, all_back}
use Rattle.chains.proofs.Occurring.{suffices}
use Rattle.edges.specs.declared.rows.Counted.{Counted}
use Rattle.edges.specs.Views.{edge_view, counted_view, chain_view, count_of}
use Rattle.book.specs.declared.fault.Difference.{Difference}
use Rattle.book.specs.Differences.{gap, SameAt, Agree, FirstDifference}

module _ {S : Type 0} (E : Cyclotomic) (v : S → E.Elem) (p w : List (Counted S)) where
  abbrev pub Passes : Counted S → Type 0
  Passes x = SameAt E (chain_view E v p) (chain_view E v w) (counted_view E v x)

  pub agree : AllByRecursion Passes (p ++ w) → Agree E (chain_view E v p) (chain_view E v w)
  agree h = subst (AllByRecursion (SameAt E (chain_view E v p) (chain_view E v w))) (map-append (counted_view E v) p w) (All-map (SameAt E (chain_view E v p) (chain_view E v w)) (counted_view E v) (p ++ w) h)

  pub first : (before : List (Counted S)) (x : Counted S) (after : List (Counted S)) → p ++ w ≡ before ++ x ∷ after → AllByRecursion Passes before →
      (d : ℤ) → d ≡ gap E (chain_view E v p) (chain_view E v w) (edge_view E v x.edge) → (d ≡ pos 0 → ⊥) → FirstDifference E (chain_view E v p) (chain_view E v w) (edge_view E v x.edge) d
  first before x after e h d k n = record {
    before = chain_view E v before;
    count = count_of x.back;
    after = chain_view E v after;
    found = sym (map-append (counted_view E v) p w) ∙ ap (chain_view E v) e ∙ map-append (counted_view E v) before (x ∷ after);
    earlier = All-map (SameAt E (chain_view E v p) (chain_view E v w)) (counted_view E v) before h;
    amount = k;
    differs = n;
  }

even : (a b : ℤ) → a -ℤ b ≡ pos 0 → a ≡ b
even a b h = omega (arith, ints)

odd : (a b : ℤ) → a ≡ b → a -ℤ b ≡ pos 0
odd a b h = omega (arith, ints)

module _ (E : Cyclotomic) (B : Book E) (xs ys : Chain E) where
  at : (zs : Chain E) → AllByRecursion (SameAt E (map (canonical E B) xs) (map (canonical E B) ys)) (map (canonical E B) zs) → AllByRecursion (λ x. net E B xs (canonical E B x).what ≡ net E B ys (canonical E B x).what) zs
  unfolding net gap
  at [] h = tt
  at (z ∷ zs) h = (even _ _ h.0, at zs h.1)

  -- chains that agree where they are searched have the same nets
  pub same_nets : CyclotomicLaws E → Agree E (map (canonical E B) xs) (map (canonical E B) ys) → SameNet E B xs ys
  same_nets L h = suffices E L B xs ys (all_append _ xs ys (at xs (all_front _ (map (canonical E B) xs) _ h)) (at ys (all_back _ (map (canonical E B) xs) _ h)))

  -- chains with the same nets differ nowhere
  pub no_difference : SameNet E B xs ys → (e : Edge E) (d : ℤ) → FirstDifference E (map (canonical E B) xs) (map (canonical E B) ys) e d → ⊥
  unfolding net gap
  no_difference h e d f = f.differs (f.amount ∙ odd _ _ (h e))

  -- what a search of two chains answers, of the chains that they stand for
  pub carried : {S : Type 0} (L : CyclotomicLaws E) (v : S → E.Elem) (o : Option (Difference S)) (ps ws : Chain E) → ps ≡ map (canonical E B) xs → ws ≡ map (canonical E B) ys →
      MatchOption o (Agree E ps ws) (λ d. FirstDifference E ps ws (edge_view E v d.edge) d.amount) →
      MatchOption o (SameNet E B xs ys) (λ d. FirstDifference E (map (canonical E B) xs) (map (canonical E B) ys) (edge_view E v d.edge) d.amount)
  carried L v None ps ws h k a = same_nets L (subst (λ l. Agree E l (map (canonical E B) ys)) h (subst (Agree E ps) k a))
  carried L v (Some d) ps ws h k a =
      subst (λ l. FirstDifference E l (map (canonical E B) ys) (edge_view E v d.edge) d.amount) h (subst (λ l. FirstDifference E ps l (edge_view E v d.edge) d.amount) k a)
