-- Chains that are placed, put in canonical form or inflated entry by entry.
use Rattle.std.proofs.Common.{◌≡◌, ℕ, Bool, not, List, [], ◌∷◌, ◌++◌, map, refl, ap, ap₂}
use mathlib.Core.Bool.{beq}
use mathlib.Core.List.{flat_map}
use Rattle.exact.specs.Cyclotomic.{Cyclotomic}
use Rattle.chains.specs.Counts as counts
use Rattle.chains.specs.Counts.{scaled}
use Rattle.chains.specs.Books as books
use Rattle.chains.specs.Edges as chains
use Rattle.chains.specs.Edges.{canonical}
use Rattle.chains.specs.Inflation.{stepped, subdivided, inflate}
use Rattle.chains.specs.Placements.{placed, placed_entry, placed_outline, outlines}
use Rattle.edges.specs.declared.rows.Counted.{Counted}
use Rattle.job_rows.specs.declared.Part.{Part}
use Rattle.job_rows.specs.declared.Step.{Step}
use Rattle.job_rows.specs.declared.Placed.{Placed}
use Rattle.edges.specs.Views.{counted_view, chain_view, edge_view, placement_view, count_of}
use Rattle.job_rows.specs.Shapes.{part_of, step_of}
use Rattle.edges.proofs.Entries.{count_times}

module _ {S : Type 0} (E : Cyclotomic) (v : S → E.Elem) where
  -- entries placed
  abbrev pub placed_one : books.Placement E → Counted S → counts.Counted (chains.Edge E)
  placed_one p x = placed_entry E p (counted_view E v x)

  pub placed_all : (p : books.Placement E) (xs : List (Counted S)) → map (placed_one p) xs ≡ placed E p (chain_view E v xs)
  unfolding placed
  placed_all p [] = refl
  placed_all p (x ∷ xs) = ap (◌∷◌ (placed_one p x)) (placed_all p xs)

  -- entries taken back or not
  abbrev pub turned : Bool → Counted S → Counted S
  turned b x = record { edge = x.edge; back = not (beq x.back b) }

  pub turned_all : (b : Bool) (xs : List (Counted S)) → chain_view E v (map (turned b) xs) ≡ scaled (count_of b) (chain_view E v xs)
  unfolding scaled
  turned_all b [] = refl
  turned_all b (x ∷ xs) = ap₂ (λ c l. record { what = edge_view E v x.edge; count = c } ∷ l) (count_times b x.back) (turned_all b xs)

  module _ (B : books.Book E) where
    -- entries in canonical form
    abbrev pub canonical_one : Counted S → counts.Counted (chains.Edge E)
    canonical_one x = canonical E B (counted_view E v x)

    pub canonical_all : (xs : List (Counted S)) → map canonical_one xs ≡ map (canonical E B) (chain_view E v xs)
    canonical_all [] = refl
    canonical_all (x ∷ xs) = ap (◌∷◌ (canonical_one x)) (canonical_all xs)

    -- placed tiles
    abbrev pub outline_one : Placed S → chains.Chain E
    outline_one p = placed_outline E B (placement_view E v p)

    abbrev pub outline_rest : List (Placed S) → chains.Chain E
    outline_rest ps = outlines E B (map (placement_view E v) ps)

    pub outline_cons : (p : Placed S) (ps : List (Placed S)) → outline_rest (p ∷ ps) ≡ outline_one p ++ outline_rest ps
    unfolding outlines flat_map
    outline_cons p ps = refl

    pub outline_none : outline_rest [] ≡ []
    unfolding outlines flat_map
    outline_none = refl

    -- entries inflated
    abbrev pub inflated_one : Counted S → chains.Chain E
    inflated_one x = scaled (count_of x.back) (subdivided E B (edge_view E v x.edge))

    abbrev pub inflated_rest : List (Counted S) → chains.Chain E
    inflated_rest xs = inflate E B (chain_view E v xs)

    pub inflated_cons : (x : Counted S) (xs : List (Counted S)) → inflated_rest (x ∷ xs) ≡ inflated_one x ++ inflated_rest xs
    unfolding inflate
    inflated_cons x xs = refl

    pub inflated_none : inflated_rest [] ≡ []
    unfolding inflate
    inflated_none = refl

-- parts as steps
abbrev pub part_step : ℕ → Part → Step
part_step j p = record { label = p.label; forward = p.forward; direction = j }

pub steps_of_parts : (j : ℕ) (ps : List Part) → map step_of (map (part_step j) ps) ≡ stepped j (map part_of ps)
unfolding stepped
steps_of_parts j [] = refl
steps_of_parts j (p ∷ ps) = ap (◌∷◌ (step_of (part_step j p))) (steps_of_parts j ps)
