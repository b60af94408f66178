-- A well spelt line at the front of a text: it is the only one, and how it is told.
use Rattle.std.proofs.Common.{◌≡◌, ℕ, suc, ◌<◌, cond, eqb, List, [], ◌∷◌, ◌++◌, length, ℤ, pos, negsuc, decimal, sym, refl, ap, ◌∙◌, append_assoc, arith}
use Rattle.std.specs.List.{flat_map, AllByRecursion}
use Rattle.std.proofs.lemmas.Fmt.{digits_decimal}
use Rattle.std.proofs.ByRecursion.{All-append, All-from_get_or}
use Rattle.std.proofs.lemmas.List.{length-append}
use Rattle.lines.specs.declared.Kind.{Kind}
use Rattle.lines.specs.Letters.{Letter, letter_R, letter_I, letter_L, letter_S, letter_T, letter_C, letter_D, letter_P, letter, byte, after}
use Rattle.lines.specs.Lines.{Inside, Cut, Line, spelt, text, WellSpelt, FirstLine}
use Rattle.lines.specs.Spelling.{Few, Short, word, Words}
use Rattle.lines.proofs.Decimal.{own, word_unique}
use Rattle.lines.proofs.Sequence.{words_first}

-- no byte ends a line
abbrev pub Clear : List ℕ → Type 0
Clear = AllByRecursion (λ b. b ≡ 10 → ⊥)

clear_inside : (bs : List ℕ) → Inside bs → Clear bs
clear_inside bs h = All-from_get_or (λ b. b ≡ 10 → ⊥) bs 0 h

pub cut_unique : (l l' r r' : List ℕ) → Clear l → Clear l' → l ++ 10 ∷ r ≡ l' ++ 10 ∷ r' → (l ≡ l') × (r ≡ r')
cut_unique [] [] r r' c d e = (refl, cc)
cut_unique [] (y ∷ l') r r' c d e = absurd (d.0 (cc))
cut_unique (x ∷ l) [] r r' c d e = absurd (c.0 (cc))
cut_unique (x ∷ l) (y ∷ l') r r' c d e = let t : l ++ 10 ∷ r ≡ l' ++ 10 ∷ r' = cc in let u = cut_unique l l' r r' c.1 d.1 t in let h : x ≡ y = cc in ((λ i. h i ∷ u.0 i), u.1)

clear_decimal : (n : ℕ) → Few n → Clear (decimal n)
clear_decimal n f = All-from_get_or (λ b. b ≡ 10 → ⊥) (decimal n) 0 (λ i l e. let d = digits_decimal own n (omega arith) i l in omega arith)

clear_word : (z : ℤ) → Short z → Clear (word z)
clear_word (pos n) s = ((λ e. omega arith), clear_decimal n s)
clear_word (negsuc n) s = ((λ e. omega arith), ((λ e. omega arith), clear_decimal (suc n) s))

pub clear_words : (zs : List ℤ) → AllByRecursion Short zs → Clear (flat_map word zs)
clear_words [] s = tt
clear_words (z ∷ zs) s = All-append (λ b. b ≡ 10 → ⊥) (word z) (flat_map word zs) (clear_word z s.0) (clear_words zs s.1)

pub clear_letter : (a : Letter) → byte a ≡ 10 → ⊥
clear_letter letter_R e = omega arith
clear_letter letter_I e = omega arith
clear_letter letter_L e = omega arith
clear_letter letter_S e = omega arith
clear_letter letter_T e = omega arith
clear_letter letter_C e = omega arith
clear_letter letter_D e = omega arith
clear_letter letter_P e = omega arith

-- the letter that a byte spells
abbrev of_byte : ℕ → Letter
of_byte n = cond (eqb n 82) letter_R (cond (eqb n 73) letter_I (cond (eqb n 76) letter_L (cond (eqb n 83) letter_S (cond (eqb n 84) letter_T (cond (eqb n 67) letter_C (cond (eqb n 68) letter_D letter_P))))))

of_byte_byte : (a : Letter) → of_byte (byte a) ≡ a
of_byte_byte letter_R = refl
of_byte_byte letter_I = refl
of_byte_byte letter_L = refl
of_byte_byte letter_S = refl
of_byte_byte letter_T = refl
of_byte_byte letter_C = refl
of_byte_byte letter_D = refl
of_byte_byte letter_P = refl

pub byte_inj : (a b : Letter) → byte a ≡ byte b → a ≡ b
byte_inj a b e = sym (of_byte_byte a) ∙ ap of_byte e ∙ of_byte_byte b

pub spelt_cut : (t : List ℕ) (a : Letter) (zs : List ℤ) (rest : List ℕ) → t ≡ spelt a zs ++ rest → t ≡ (byte a ∷ flat_map word zs) ++ 10 ∷ rest
spelt_cut t a zs rest e = e ∙ ap (λ l. byte a ∷ l) (append_assoc (flat_map word zs) (10 ∷ []) rest)

pub spelt_front : (t line more : List ℕ) (a : Letter) (zs : List ℤ) (rest : List ℕ) → Cut t line more → FirstLine t a zs rest → line ≡ byte a ∷ flat_map word zs
spelt_front t line more a zs rest c s =
    (cut_unique line (byte a ∷ flat_map word zs) more rest (clear_inside line c.inside)
    (clear_letter a, clear_words zs s.short)
    (sym c.whole ∙ spelt_cut t a zs rest s.whole)).0

pub spelt_from : (t line more : List ℕ) (k : Kind) (zs : List ℤ) → Cut t line more → line ≡ byte (letter k) ∷ after k → Words (after k) zs → FirstLine t (letter k) zs more
spelt_from t line more k zs c e w = record {
  short = w.short;
  whole = c.whole ∙ ap (λ l. l ++ 10 ∷ more) (e ∙ ap (λ l. byte (letter k) ∷ l) w.whole) ∙ sym (ap (λ l. byte (letter k) ∷ l) (append_assoc (flat_map word zs) (10 ∷ []) more));
}

pub no_words : (line : List ℕ) (k : Kind) (a : Letter) (zs : List ℤ) → line ≡ byte (letter k) ∷ after k → ((ys : List ℤ) → Words (after k) ys → ⊥) → AllByRecursion Short zs → line ≡ byte a ∷ flat_map word zs → ⊥
no_words line k a zs e none s h = none zs (record { short = s; whole = cc })

-- a text begins with at most one line
words_unique : (zs zs' : List ℤ) → AllByRecursion Short zs → AllByRecursion Short zs' → flat_map word zs ≡ flat_map word zs' → zs ≡ zs'
words_unique [] [] s s' e = refl
words_unique [] (z ∷ zs) s s' e = let bad : ◌≡◌ {A = ℕ} 0 1 = cc in absurd (omega arith)
words_unique (z ∷ zs) [] s s' e = let bad : ◌≡◌ {A = ℕ} 0 1 = cc in absurd (omega arith)
words_unique (z ∷ zs) (y ∷ ys) s s' e =
    let u = word_unique (flat_map word (z ∷ zs)) z y (flat_map word zs) (flat_map word ys) (words_first _ z zs (record { short = s; whole = refl })) (words_first _ y ys (record { short = s'; whole = e })) in
    let t = words_unique zs ys s.1 s'.1 u.1 in
    λ i. u.0 i ∷ t i

pub line_unique : (t : List ℕ) (a b : Letter) (zs ys : List ℤ) (r s : List ℕ) → FirstLine t a zs r → FirstLine t b ys s → (a ≡ b) × (zs ≡ ys) × (r ≡ s)
line_unique t a b zs ys r s p q =
    let u = cut_unique (byte a ∷ flat_map word zs) (byte b ∷ flat_map word ys) r s (clear_letter a, clear_words zs p.short) (clear_letter b, clear_words ys q.short) (sym (spelt_cut t a zs r p.whole) ∙ spelt_cut t b ys s q.whole) in
    let h = u.0 in
    let w : flat_map word zs ≡ flat_map word ys = cc in
    let v : byte a ≡ byte b = cc in
    (byte_inj a b v, words_unique zs ys p.short q.short w, u.1)

-- the first of some lines, as a text has them
pub first_of : (l : Line) (ls : List Line) (rest : List ℕ) → WellSpelt l → FirstLine (text (l ∷ ls) ++ rest) l.letter l.numbers (text ls ++ rest)
first_of l ls rest w = record { short = w; whole = append_assoc (spelt l.letter l.numbers) (text ls) rest }

pub first_shorter : (t : List ℕ) (a : Letter) (zs : List ℤ) (rest : List ℕ) → FirstLine t a zs rest → length rest < length t
first_shorter t a zs rest f = let n = ap length f.whole ∙ length-append (spelt a zs) rest in omega arith
