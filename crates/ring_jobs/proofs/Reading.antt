-- Lists that are cut or filled up to d coefficients, and the elements that they are read as.
use Rattle.std.proofs.Common.{◌≡◌, ℕ, zero, suc, ◌+◌, ◌<◌, Bool, List, ◌∷◌, length, get_or, drop, ℤ, pos, sym, refl, ap, ◌∙◌, arith, drop-cons}
use Rattle.std.proofs.lemmas.List.{drop_all}
use Rattle.exact.specs.Cyclotomic.{Cyclotomic, CyclotomicLaws}
use Rattle.exact.specs.JobNumbers.{PlacedNumbers}
use Rattle.rings.specs.Plane.{fitted_from, read_list}
use Rattle.ring_jobs.specs.Fitted.{fitted}

pub fitted_length : (k d : ℕ) (l : List ℤ) → length (fitted_from k d l) ≡ d
fitted_length k zero l = refl
fitted_length k (suc d) l = ap suc (fitted_length (suc k) d l)

fitted_rest : (k d : ℕ) (l : List ℤ) → length l ≡ k + d → fitted_from k d l ≡ drop k l
fitted_rest k zero l h = sym (drop_all k l (omega arith))
fitted_rest k (suc d) l h = let lt : k < length l = omega arith in ap (◌∷◌ (get_or l k (pos 0))) (fitted_rest (suc k) d l (omega arith)) ∙ sym (drop-cons l k (pos 0) lt)

-- a list of d coefficients is left as it is
pub fitted_same : (d : ℕ) (l : List ℤ) → length l ≡ d → fitted d l ≡ l
fitted_same d l h = fitted_rest 0 d l (omega arith)

pub read_back : (E : Cyclotomic) → CyclotomicLaws E → (x : E.Elem) (l : List ℤ) → x ≡ read_list E l → E.list x ≡ fitted E.d l
read_back E L x l h = ap E.list h ∙ L.list_of (fitted E.d l) (fitted_length 0 E.d l)

pub placed_same : (t k : ℕ) (m : Bool) (p q : List ℤ) → p ≡ q → ◌≡◌ {A = PlacedNumbers} (record { tile = t; turn = k; mirrored = m; place = p }) (record { tile = t; turn = k; mirrored = m; place = q })
placed_same t k m p q e = λ i. record { tile = t; turn = k; mirrored = m; place = e i }
