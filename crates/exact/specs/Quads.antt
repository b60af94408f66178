-- Rows of two and of four coefficients, and their arithmetic over any numbers A that add, multiply and negate.
-- The formulas are used at the whole numbers for the rings, and at the solver's expressions for their laws.

-- c0 + c1ζ
pub record Pair (A : Type 0) : Type 0 where
  pub c0 : A
  pub c1 : A

-- c0 + c1ζ + c2ζ² + c3ζ³
pub record Quad (A : Type 0) : Type 0 where
  pub c0 : A
  pub c1 : A
  pub c2 : A
  pub c3 : A

module _ {A : Type 0} (◌⊕◌ ◌⊗◌ : A → A → A) (⊖◌ : A → A) where
  abbrev pub pair_add : Pair A → Pair A → Pair A
  pair_add x y = record { c0 = ◌⊕◌ x.c0 y.c0; c1 = ◌⊕◌ x.c1 y.c1 }

  abbrev pub pair_neg : Pair A → Pair A
  pair_neg x = record { c0 = ⊖◌ x.c0; c1 = ⊖◌ x.c1 }

  -- with ζ² = -1
  abbrev pub pair_mul : Pair A → Pair A → Pair A
  pair_mul x y = record {
    c0 = ◌⊕◌ (◌⊗◌ x.c0 y.c0) (⊖◌ (◌⊗◌ x.c1 y.c1));
    c1 = ◌⊕◌ (◌⊗◌ x.c0 y.c1) (◌⊗◌ x.c1 y.c0);
  }

  abbrev pub pair_conj : Pair A → Pair A
  pair_conj x = record { c0 = x.c0; c1 = ⊖◌ x.c1 }

  abbrev pub quad_add : Quad A → Quad A → Quad A
  quad_add x y = record { c0 = ◌⊕◌ x.c0 y.c0; c1 = ◌⊕◌ x.c1 y.c1; c2 = ◌⊕◌ x.c2 y.c2; c3 = ◌⊕◌ x.c3 y.c3 }

  abbrev pub quad_neg : Quad A → Quad A
  quad_neg x = record { c0 = ⊖◌ x.c0; c1 = ⊖◌ x.c1; c2 = ⊖◌ x.c2; c3 = ⊖◌ x.c3 }

  abbrev pub quad_scale : A → Quad A → Quad A
  quad_scale a x = record { c0 = ◌⊗◌ a x.c0; c1 = ◌⊗◌ a x.c1; c2 = ◌⊗◌ a x.c2; c3 = ◌⊗◌ a x.c3 }

  -- ζ·x, where ζ⁴ = r: the coefficients move up by one, and the last comes back as so many times r
  abbrev pub quad_shift : Quad A → Quad A → Quad A
  quad_shift r x = record {
    c0 = ◌⊗◌ r.c0 x.c3;
    c1 = ◌⊕◌ x.c0 (◌⊗◌ r.c1 x.c3);
    c2 = ◌⊕◌ x.c1 (◌⊗◌ r.c2 x.c3);
    c3 = ◌⊕◌ x.c2 (◌⊗◌ r.c3 x.c3);
  }

  -- x·y, where ζ⁴ = r: x times y's coefficients, from its highest power down
  abbrev pub quad_mul : Quad A → Quad A → Quad A → Quad A
  quad_mul r x y =
      quad_add (quad_scale y.c0 x) (quad_shift r
      (quad_add (quad_scale y.c1 x) (quad_shift r
      (quad_add (quad_scale y.c2 x) (quad_shift r
      (quad_scale y.c3 x))))))

  -- conjugation in the ring of ten, where ζ⁻¹ = 1 - ζ + ζ² - ζ³
  abbrev pub tenfold_conj : Quad A → Quad A
  tenfold_conj x = record {
    c0 = ◌⊕◌ x.c0 x.c1;
    c1 = ⊖◌ x.c1;
    c2 = ◌⊕◌ x.c1 (⊖◌ x.c3);
    c3 = ◌⊕◌ (⊖◌ x.c1) (⊖◌ x.c2);
  }
