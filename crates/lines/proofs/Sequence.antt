-- The numbers of a line, one after the other. Assumes nothing.
use Rattle.std.proofs.Common.{◌≡◌, ℕ, ◌<◌, List, [], ◌∷◌, ◌++◌, length, ℤ, sym, refl, ap, ◌∙◌, subst, append_assoc, append-nil, arith}
use Rattle.std.specs.List.{flat_map}
use Rattle.std.proofs.lemmas.List.{length-append}
use Rattle.lines.specs.Spelling.{Ends, word, Word, Words}
use Rattle.lines.proofs.Decimal.{word_unique}

ends_words : (zs : List ℤ) → Ends (flat_map word zs)
ends_words [] = tt
ends_words (z ∷ zs) = refl

pub words_first : (s : List ℕ) (z : ℤ) (zs : List ℤ) → Words s (z ∷ zs) → Word s z (flat_map word zs)
words_first s z zs w = record { short = w.short.0; whole = w.whole; ends = ends_words zs }

-- zs are the numbers read so far, and rest is left of s
pub record Upto (s : List ℕ) (zs : List ℤ) (rest : List ℕ) : Type 0 where
  pub onward : (ys : List ℤ) → Words rest ys → Words s (zs ++ ys)
  pub back : (all : List ℤ) → Words s all → (ys : List ℤ) × (all ≡ zs ++ ys) × Words rest ys

pub upto_none : (s : List ℕ) → Upto s [] s
upto_none s = record { onward = λ ys w. w; back = λ all w. (all, refl, w) }

pub upto_more : (s : List ℕ) (zs : List ℤ) (rest : List ℕ) (z : ℤ) (more : List ℕ) → Upto s zs rest → Word rest z more → Upto s (zs ++ z ∷ []) more
upto_more s zs rest z more u w = record {
  onward = λ ys h. subst (Words s) (sym (append_assoc zs (z ∷ []) ys)) (u.onward (z ∷ ys) (record { short = (w.short, h.short); whole = w.whole ∙ ap (λ t. word z ++ t) h.whole }));
  back = λ all h. let b = u.back all h in go b.0 b.1 b.2;
}
  where
    go : {all : List ℤ} (ys : List ℤ) → all ≡ zs ++ ys → Words rest ys → (xs : List ℤ) × (all ≡ (zs ++ z ∷ []) ++ xs) × Words more xs
    go [] e h = let bad : ◌≡◌ {A = ℕ} 0 1 = let p = h.whole in let q = w.whole in cc in absurd (omega arith)
    go (y ∷ ys) e h =
        let q = word_unique rest z y more (flat_map word ys) w (words_first rest y ys h) in
        (ys, e ∙ ap (λ t. zs ++ t ∷ ys) (sym q.0) ∙ sym (append_assoc zs (z ∷ []) ys), record { short = h.short.1; whole = q.1 })

pub upto_all : (s : List ℕ) (zs : List ℤ) (rest : List ℕ) → Upto s zs rest → length rest ≡ 0 → Words s zs
upto_all s zs [] u e = subst (Words s) (append-nil zs) (u.onward [] (record { short = tt; whole = refl }))
upto_all s zs (x ∷ rest) u e = absurd (omega arith)

pub upto_stuck : (s : List ℕ) (zs : List ℤ) (rest : List ℕ) → Upto s zs rest → 0 < length rest → ((z : ℤ) (more : List ℕ) → Word rest z more → ⊥) → (all : List ℤ) → Words s all → ⊥
upto_stuck s zs rest u some none all h = let b = u.back all h in go b.0 b.2
  where
    go : (ys : List ℤ) → Words rest ys → ⊥
    go [] w = let e = ap length w.whole in omega arith
    go (y ∷ ys) w = none y (flat_map word ys) (words_first rest y ys w)

pub word_shorter : (s : List ℕ) (z : ℤ) (rest : List ℕ) → Word s z rest → length rest < length s
word_shorter s z rest w = let e = ap length w.whole ∙ length-append (word z) rest in omega arith
