-- Once round a placed tile's outline, step by step.
use Rattle.std.proofs.Common.{◌≡◌, ℕ, ◌+◌, ◌<◌, ◌≤◌, Bool, true, false, cond, ◌&&◌, List, [], ◌∷◌, map, length, get_or, drop, sym, refl, ap, ◌∙◌, ap₂}
use Rattle.std.proofs.lemmas.Bool.{and_parts}
use Rattle.exact.specs.Cyclotomic.{Cyclotomic, CyclotomicLaws, power}
use Rattle.exact.specs.Groups.{AbelianGroup, AbelianLaws, times}
use Rattle.exact.proofs.Powers.{ring_of}
use Rattle.exact.proofs.Solver as solver
use Rattle.chains.specs.Counts.{Counted, reading}
use Rattle.chains.specs.Books.{Book, Placement}
use Rattle.chains.specs.Edges.{Edge, Chain, along, walk, step_count}
use Rattle.chains.specs.Placements.{image, placed, placed_entry}
use Rattle.chains.specs.Theorems.{RealLengths}
use Rattle.chains.proofs.Turns.{conj_zero}
use Rattle.job_rows.specs.declared.Step.{Step}
use Rattle.job_rows.specs.Shapes.{step_of}
use Rattle.edges.proofs.Walking.{walk_more, walk_none}
use Rattle.nodes.specs.OnPlane.{kept_along, kept_image, kept_corners_from}
use Rattle.nodes.proofs.Walking.{corners_more, corners_none}
use Rattle.meters.specs.Spans.{Leads}
use Rattle.meters.proofs.Summing as summing

-- a placement brings 0 to its place
pub image_zero : (E : Cyclotomic) → CyclotomicLaws E → (p : Placement E) → image E p E.zero ≡ p.place
unfolding image
image_zero E L p = ap (λ z. E.add p.place (E.mul (power E p.turn) z)) (faced p.mirrored) ∙ ap (E.add p.place) (solver.mul_zero (ring_of E L) _) ∙ L.ring.add-zero _
  where
    faced : (m : Bool) → cond m (E.conj E.zero) E.zero ≡ E.zero
    faced true = conj_zero E L
    faced false = refl

module _ (E : Cyclotomic) (B : Book E) (p : Placement E) (steps : List Step) where
  -- what the steps from number i on count, placed, from the corner q on
  abbrev pub rest : ℕ → E.Elem → Chain E
  rest i q = placed E p (walk E B (map step_of (drop i steps)) q)

  abbrev pub kept_rest : ℕ → E.Elem → Bool
  kept_rest i q = kept_corners_from E B p (map step_of (drop i steps)) q

  rest_more : (i : ℕ) (d : Step) (q : E.Elem) → i < length steps →
      rest i q ≡ placed_entry E p (step_count E B (step_of (get_or steps i d)) q) ∷ rest (i + 1) (along E B (get_or steps i d).label (get_or steps i d).direction q)
  unfolding placed
  rest_more i d q h = ap (map (placed_entry E p)) (walk_more E B steps i d q h)

  rest_none : (i : ℕ) (q : E.Elem) → length steps ≤ i → rest i q ≡ []
  unfolding placed
  rest_none i q h = ap (map (placed_entry E p)) (walk_none E B steps i q h)

  module _ {S : Type 0} (v : S → E.Elem) (G : AbelianGroup) (r : Edge E → G.Val) where
    -- i steps have been read, up to a corner and where it lies: what is added up, with the rest, is the whole
    pub record SoFar (i : ℕ) (own place : S) (a : G.Val) : Type 0 where
      pub leaves : v place ≡ image E p (v own)
      pub keeps : kept_rest 0 E.zero ≡ kept_rest i (v own)
      pub adds_up : RealLengths E B → G.sum a (reading G r (rest i (v own))) ≡ reading G r (rest 0 E.zero)

    module _ (M : AbelianLaws G) where
      pub starts : CyclotomicLaws E → (own place : S) (a : G.Val) → v own ≡ E.zero → v place ≡ p.place → a ≡ G.zero → SoFar 0 own place a
      starts L own place a e k z = record {
        leaves = k ∙ sym (ap (image E p) e ∙ image_zero E L p);
        keeps = ap (kept_rest 0) (sym e);
        adds_up = λ real. summing.begins G M r a (rest 0 (v own)) z ∙ ap (λ q. reading G r (rest 0 q)) e;
      }

      module _ (i : ℕ) (own place : S) (a : G.Val) (so_far : SoFar i own place a) where
        module _ (d : Step) (more : i < length steps) where
          abbrev s : Step
          s = get_or steps i d

          abbrev next : E.Elem
          next = along E B s.label s.direction (v own)

          abbrev stays : Bool
          stays = kept_along E B s.label s.direction (v own) && kept_image E p next

          unrolled : kept_rest 0 E.zero ≡ (stays && kept_rest (i + 1) next)
          unrolled = so_far.keeps ∙ corners_more E B p steps i d (v own) more

          pub stays_there : kept_rest 0 E.zero ≡ true → stays ≡ true
          stays_there h = (and_parts _ _ (sym unrolled ∙ h)).0

          module _ (own' place' : S) (b a' : G.Val) (e : v own' ≡ next) (k : v place' ≡ image E p next) (kept : stays ≡ true) (plus : a' ≡ G.sum a b) where
            abbrev x : Counted (Edge E)
            x = placed_entry E p (step_count E B (step_of s) (v own))

            leads : Leads E B v p (step_of s) (v own) place place'
            leads = record { leaves = so_far.leaves; comes = k }

            pub goes_on : (RealLengths E B → (q : E.Elem) → Leads E B v p (step_of s) q place place' →
                let w = placed_entry E p (step_count E B (step_of s) q) in b ≡ times G w.count (r w.what)) → SoFar (i + 1) own' place' a'
            goes_on told = record {
              leaves = k ∙ ap (image E p) (sym e);
              keeps = unrolled ∙ ap₂ (λ y q. y && kept_rest (i + 1) q) kept (sym e);
              adds_up = λ real. ap (λ q. G.sum a' (reading G r (rest (i + 1) q))) e
                  ∙ summing.adds G M r a b a' _ plus x (rest (i + 1) next) (rest i (v own)) (rest_more i d (v own) more) (told real (v own) leads) (so_far.adds_up real);
            }

        module _ (past : length steps ≤ i) where
          pub all_kept : kept_rest 0 E.zero ≡ true
          all_kept = so_far.keeps ∙ corners_none E B p steps i (v own) past

          pub all_read : RealLengths E B → a ≡ reading G r (rest 0 E.zero)
          all_read real = summing.ends G M r a _ (rest i (v own)) (rest_none i (v own) past) (so_far.adds_up real)
