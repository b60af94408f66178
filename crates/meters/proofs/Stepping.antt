-- The edge that a step of a placed outline counts, between the places of two corners.
use Rattle.std.proofs.Common.{◌≡◌, ℕ, ◌+◌, ◌/◌, ◌%◌, ◌<◌, Bool, true, false, sym, refl, ap, ◌∙◌, subst, ap₂, mod-lt}
use native.Mathlib.Nat.{mod-add-mod}
use Rattle.exact.specs.Cyclotomic.{Cyclotomic, CyclotomicLaws, power, half}
use Rattle.exact.specs.JobNumbers.{Step}
use Rattle.chains.specs.Books.{Book, Placement, label_at}
use Rattle.chains.specs.Edges.{along, step_count}
use Rattle.chains.specs.Placements.{image, heading, placed_edge, placed_entry}
use Rattle.chains.specs.Theorems.{RealLengths}
use Rattle.chains.proofs.Edges as edges
use Rattle.chains.proofs.Edges.{edge_path}
use Rattle.chains.proofs.Images as images
use Rattle.chains.proofs.Lookups.{real_everywhere}
use Rattle.chains.proofs.Turns as turns
use Rattle.edges.proofs.Entries.{goes_forward, goes_back}
use Rattle.edges.specs.Views.{edge_view}
use Rattle.meters.specs.declared.span.Span.{Span}
use Rattle.meters.specs.Spans.{Shows, Leads}

-- half a turn on from a direction, where n and its half were asked for one by one
pub opposed_is : (E : Cyclotomic) (j n m k : ℕ) → n ≡ E.n → m ≡ E.n → k ≡ E.n → (j % n + m / 2) % k ≡ (j + half E) % E.n
opposed_is E j n m k p q r = (λ i. (j % p i + q i / 2) % r i) ∙ mod-add-mod j E.n (half E)

module _ {S : Type 0} (E : Cyclotomic) (L : CyclotomicLaws E) (B : Book E) (v : S → E.Elem) (p : Placement E) (real : RealLengths E B) where
  -- to step and then be placed is to be placed and then step in the direction that the placement turns to
  image_along : (e j : ℕ) (q : E.Elem) → image E p (along E B e j q) ≡ along E B e (heading E p j) (image E p q)
  unfolding along
  image_along e j q = images.image_turned E L p.tile p.turn p.mirrored p.place q j (label_at B e).length
      ∙ ap (λ z. E.add (image E p q) (E.mul (power E (heading E p j)) z)) (images.real E L p.mirrored (label_at B e).length (real_everywhere E L B real e))

  low : (j : ℕ) → j % E.n < E.n
  low j = mod-lt j (turns.positive E L)

  heading_mod : (j : ℕ) → heading E p j % E.n ≡ heading E p j
  heading_mod j = images.heading_mod E L p.tile p.turn p.mirrored p.place j

  heading_of_mod : (j : ℕ) → heading E p (j % E.n) ≡ heading E p j
  heading_of_mod j = images.heading_of_mod E L p.tile p.turn p.mirrored p.place j ∙ heading_mod j

  module _ (s : Step) (q : E.Elem) (from to : S) (leads : Leads E B v p s q from to) (h b : ℕ) (hh : h ≡ heading E p s.direction) (bb : b ≡ (h + half E) % E.n) (k : Bool) (kind : k ≡ (label_at B s.label).arrowed) where
    abbrev ahead : Span S
    ahead = record { edge = record { label = s.label; direction = h; start = from }; end = to; back = b; arrowed = k }

    abbrev behind : Span S
    behind = record { edge = record { label = s.label; direction = b; start = to }; end = from; back = h; arrowed = k }

    whole : h % E.n ≡ h
    whole = ap (λ i. i % E.n) hh ∙ heading_mod s.direction ∙ sym hh

    arrives : v to ≡ along E B s.label h (v from)
    arrives = leads.comes ∙ image_along s.label s.direction q ∙ ap₂ (along E B s.label) (sym hh) (sym leads.leaves)

    pub ahead_shows : Shows E B v ahead
    ahead_shows = record { reduced = subst (λ i. i < E.n) whole (low h); ends = arrives; back = bb; kind = kind }

    returns_there : v from ≡ along E B s.label b (v to)
    returns_there = sym (ap₂ (along E B s.label) bb arrives ∙ edges.along_mod E L B s.label (h + half E) (along E B s.label h (v from)) ∙ edges.along_back E L B s.label h (v from))

    pub behind_shows : Shows E B v behind
    behind_shows = record {
      reduced = subst (λ i. i < E.n) (sym bb) (low (h + half E));
      ends = returns_there;
      back = sym (ap (λ i. (i + half E) % E.n) bb ∙ turns.twice_opposed E L h ∙ whole);
      kind = kind;
    }

    pub ahead_is : s.forward ≡ true → edge_view E v ahead.edge ≡ (placed_entry E p (step_count E B s q)).what
    unfolding placed_entry placed_edge
    ahead_is f = edge_path refl (hh ∙ sym (heading_of_mod s.direction)) leads.leaves ∙ sym (ap (λ x. placed_edge E p x.what) (goes_forward E B s q f))

    pub behind_is : s.forward ≡ false → edge_view E v behind.edge ≡ (placed_entry E p (step_count E B s q)).what
    unfolding placed_entry placed_edge
    behind_is f =
        edge_path refl (bb ∙ ap (λ i. (i + half E) % E.n) hh ∙ sym (images.heading_opposed E L p.tile p.turn p.mirrored p.place s.direction)) leads.comes
        ∙ sym (ap (λ x. placed_edge E p x.what) (goes_back E B s q f))
