-- What a watch makes of an edge between positions.
use Rattle.std.proofs.Common.{◌≡◌, ℕ, ◌%◌, Bool, true, false, cond, not, ◌&&◌, eqb, ℤ, pos, negsuc, sym, refl, ap, ◌∙◌, ap₂, mod-eq_of_lt}
use Rattle.std.proofs.Math.Bool.{and_assoc}
use Rattle.exact.specs.Cyclotomic.{Cyclotomic, same_element}
use Rattle.chains.specs.Books.{Book}
use Rattle.chains.specs.Edges.{Edge, edge, same_edge, reversed}
use Rattle.chains.proofs.Edges.{edge_path}
use Rattle.edges.specs.Views.{edge_view}
use Rattle.meters.specs.declared.span.Span.{Span}
use Rattle.meters.specs.Spans.{Shows}
use Rattle.meters.specs.Counts.{reduced, watched}

-- the test of rows is the test of edges
pub same_named : (E : Cyclotomic) (x w : Edge E) (n : ℕ) (s t : Bool) → n ≡ E.n → s ≡ same_element E x.start w.start →
    t ≡ (eqb x.label w.label && (eqb x.direction (w.direction % n) && s)) → t ≡ same_edge E x (reduced E w)
unfolding same_edge edge
same_named E x w n s t m e h =
    h ∙ ap₂ (λ i b. eqb x.label w.label && (eqb x.direction (w.direction % i) && b)) m e
    ∙ sym (and_assoc (eqb x.label w.label) (eqb x.direction (w.direction % E.n)) (same_element E x.start w.start))

module _ {S : Type 0} (E : Cyclotomic) (B : Book E) (value : S → E.Elem) (x : Span S) (shows : Shows E B value x) where
  -- it is told without whole turns
  whole_edge : reduced E (edge_view E value x.edge) ≡ edge_view E value x.edge
  unfolding edge
  whole_edge = edge_path refl (mod-eq_of_lt shows.reduced) refl

  -- and from its other end as the book has it
  other_end : edge_view E value (record { label = x.edge.label; direction = x.back; start = x.end }) ≡ reversed E B (edge_view E value x.edge)
  unfolding reversed edge
  other_end = edge_path refl shows.back shows.ends

  module _ (w : Edge E) where
    abbrev at : Edge E → Bool
    at y = same_edge E y (reduced E w)

    -- whether it is the watched edge
    abbrev here : Bool
    here = at (edge_view E value x.edge)

    -- the same of the edge from its other end
    abbrev there : Bool
    there = at (edge_view E value (record { label = x.edge.label; direction = x.back; start = x.end }))

    abbrev told : Bool → Bool → Bool → ℤ
    told a k b = cond a (pos 1) (cond (not k && b) (negsuc 0) (pos 0))

    counted : (a k b : Bool) → here ≡ a → x.arrowed ≡ k → there ≡ b → told a k b ≡ watched E B w (edge_view E value x.edge)
    unfolding watched
    counted a k b p q r =
        ap₂ (λ y z. told y k z) (sym p ∙ ap at (sym whole_edge)) (sym r ∙ ap at other_end)
        ∙ ap (λ y. told (at (reduced E (edge_view E value x.edge))) y (at (reversed E B (edge_view E value x.edge)))) (sym q ∙ shows.kind)

    -- what the code's tests say: a of the edge, b of t, which is the edge turned
    module _ (a : Bool) (tested : a ≡ here) where
      pub is_watched : a ≡ true → pos 1 ≡ watched E B w (edge_view E value x.edge)
      is_watched h = counted true x.arrowed there (sym tested ∙ h) refl refl

      pub is_arrowed_another : a ≡ false → x.arrowed ≡ true → pos 0 ≡ watched E B w (edge_view E value x.edge)
      is_arrowed_another h k = counted false true there (sym tested ∙ h) k refl

      module _ (b : Bool) (t : Span S) (tested_back : b ≡ at (edge_view E value t.edge)) (turned : t ≡ record { edge = record { label = x.edge.label; direction = x.back; start = x.end }; end = x.edge.start; back = x.edge.direction; arrowed = x.arrowed }) where
        back : there ≡ b
        back = sym (tested_back ∙ ap (λ (y : Span S). at (edge_view E value y.edge)) turned)

        pub is_watched_back : a ≡ false → x.arrowed ≡ false → b ≡ true → negsuc 0 ≡ watched E B w (edge_view E value x.edge)
        is_watched_back h k l = counted false false true (sym tested ∙ h) k (back ∙ l)

        pub is_another : a ≡ false → x.arrowed ≡ false → b ≡ false → pos 0 ≡ watched E B w (edge_view E value x.edge)
        is_another h k l = counted false false false (sym tested ∙ h) k (back ∙ l)
