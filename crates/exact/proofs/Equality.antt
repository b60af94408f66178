-- The test of equality of elements decides equality.
use Rattle.std.proofs.Common.{◌≡◌, true, sym, refl, ap, ◌∙◌}
use Rattle.std.specs.Cmp.{IsPartialEquivalence, on_per, partial_equiv_from_equiv}
use Rattle.std.specs.Cmp.Lexicographic.{pointwise_decides}
use Rattle.std.proofs.lemmas.Bool.Decides.{Decides-int_eq}
use Rattle.std.proofs.lemmas.Cmp.{int_eq_equiv, lists_equiv}
use Rattle.exact.specs.Cyclotomic.{Cyclotomic, CyclotomicLaws, same_element}

module _ (E : Cyclotomic) (laws : CyclotomicLaws E) where
  pub same_element_is : (x y : E.Elem) → same_element E x y ≡ true → x ≡ y
  same_element_is x y e = sym (laws.of_list x) ∙ ap E.of ((pointwise_decides Decides-int_eq (E.list x) (E.list y)).0 e) ∙ laws.of_list y

  pub same_element_self : (x : E.Elem) → same_element E x x ≡ true
  same_element_self x = (pointwise_decides Decides-int_eq (E.list x) (E.list x)).1 refl

-- The test goes both ways round, and along a chain.
pub same_element_partial_equivalence : (E : Cyclotomic) → IsPartialEquivalence (same_element E)
same_element_partial_equivalence E = on_per E.list (partial_equiv_from_equiv (lists_equiv int_eq_equiv))
