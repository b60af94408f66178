-- Which bytes others begin with.
use Rattle.std.proofs.Common.{◌≡◌, ◌≢◌, ℕ, zero, suc, ◌<◌, List, [], ◌∷◌, ◌++◌, take, length, get_or, Some, None, Option, ℤ, sym, refl, ap, ◌∙◌, arith, append_assoc, flat_map, MatchOption, Bor}
use Rattle.std.proofs.lemmas.List.{append_cancel_left}
use Rattle.files.specs.Files.{coefficient_bytes}

-- bytes whose second part is wrong do not begin with the whole
pub no_front : (bytes done rest part whole later : List ℕ) → bytes ≡ done ++ rest → whole ≡ done ++ (part ++ later) → ((more : List ℕ) → rest ≢ part ++ more) → (more : List ℕ) → bytes ≢ whole ++ more
no_front bytes done rest part whole later e f apart more h =
    apart (later ++ more) (append_cancel_left done rest (part ++ (later ++ more)) (sym e ∙ h ∙ ap (λ z. z ++ more) f ∙ append_assoc done (part ++ later) more ∙ ap (λ z. done ++ z) (append_assoc part later more)))

-- the next part is right
pub longer_front : (bytes done rest part more rest' : List ℕ) → bytes ≡ done ++ rest → more ≡ done ++ part → rest ≡ part ++ rest' → bytes ≡ more ++ rest'
longer_front bytes done rest part more rest' e f h = e ∙ ap (λ z. done ++ z) h ∙ sym (append_assoc done part rest') ∙ ap (λ z. z ++ rest') (sym f)

-- the bytes of a place, about one coefficient
pub coefficients_split : (cs : List ℤ) (k : ℕ) (d : ℤ) → k < length cs → (later : List ℕ) × (flat_map coefficient_bytes cs ≡ flat_map coefficient_bytes (take k cs) ++ (coefficient_bytes (get_or cs k d) ++ later))
coefficients_split [] k d h = absurd (omega arith)
coefficients_split (c ∷ cs) zero d h = (flat_map coefficient_bytes cs, refl)
coefficients_split (c ∷ cs) (suc k) d h =
    let x = coefficients_split cs k d (omega arith) in
    (x.0, ap (λ z. coefficient_bytes c ++ z) x.1 ∙ sym (append_assoc (coefficient_bytes c) (flat_map coefficient_bytes (take k cs)) _))

-- ---- a whole of two parts
-- what follows the whole, or that the bytes do not begin with it
abbrev pub Stripped : List ℕ → List ℕ → Option (Bor (List ℕ)) → Type 0
Stripped bytes part r = MatchOption r ((rest : List ℕ) → bytes ≢ part ++ rest) (λ rest. bytes ≡ part ++ rest.now)

pub head_wrong : (bytes head tail whole : List ℕ) → whole ≡ head ++ tail → ((rest : List ℕ) → bytes ≢ head ++ rest) → (rest : List ℕ) → bytes ≢ whole ++ rest
head_wrong bytes head tail whole f apart rest h = apart (tail ++ rest) (h ∙ ap (λ z. z ++ rest) f ∙ append_assoc head tail rest)

pub after_head : (bytes head tail whole more : List ℕ) → whole ≡ head ++ tail → bytes ≡ head ++ more → (r : Option (Bor (List ℕ))) → Stripped more tail r → Stripped bytes whole r
after_head bytes head tail whole more f e None apart = λ rest h. apart rest (append_cancel_left head more (tail ++ rest) (sym e ∙ h ∙ ap (λ z. z ++ rest) f ∙ append_assoc head tail rest))
after_head bytes head tail whole more f e (Some rest) h = e ∙ ap (λ z. head ++ z) h ∙ sym (append_assoc head tail rest.now) ∙ ap (λ z. z ++ rest.now) (sym f)
