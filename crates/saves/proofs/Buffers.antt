-- Bytes written into a buffer, one after the other.
use Rattle.std.proofs.Common.{◌≡◌, ℕ, ◌+◌, ◌≤◌, List, [], ◌++◌, length, take, drop, sym, ap, ap₂, ◌∙◌, arith, length-append, length-take, length-drop, append_assoc, zero-add, add-zero, take-append-drop}
use Rattle.std.proofs.Math.Seq.{take-append_seam, drop-append-add}
use Rattle.std.proofs.lemmas.List.{drop-drop}
use Rattle.saves.specs.Written.{with_bytes}

-- ---- a list of three parts, cut between the last two or further on
seam_front : (xs ys zs : List ℕ) (n : ℕ) → n ≡ length xs + length ys → take n (xs ++ (ys ++ zs)) ≡ xs ++ ys
seam_front xs ys zs n e = ap₂ take (e ∙ sym (length-append xs ys)) (sym (append_assoc xs ys zs)) ∙ take-append_seam (xs ++ ys) zs

seam_back : (xs ys zs : List ℕ) (n m : ℕ) → n ≡ length xs + length ys → drop (n + m) (xs ++ (ys ++ zs)) ≡ drop m zs
seam_back xs ys zs n m e = ap₂ (λ k. drop (k + m)) (e ∙ sym (length-append xs ys)) (sym (append_assoc xs ys zs)) ∙ drop-append-add (xs ++ ys) zs m

-- ---- bytes in a buffer
pub length-with_bytes : (buffer : List ℕ) (at : ℕ) (bytes : List ℕ) → at + length bytes ≤ length buffer → length (with_bytes buffer at bytes) ≡ length buffer
length-with_bytes buffer at bytes h =
    omega (arith, length-append (take at buffer) (bytes ++ drop (at + length bytes) buffer), length-append bytes (drop (at + length bytes) buffer), length-take at buffer, length-drop (at + length bytes) buffer)

-- nothing written
pub with_nothing : (buffer : List ℕ) (at : ℕ) → with_bytes buffer at [] ≡ buffer
with_nothing buffer at = ap (λ k. take at buffer ++ drop k buffer) (add-zero at) ∙ take-append-drop at buffer

-- some bytes, and then more
pub with_more : (buffer : List ℕ) (at : ℕ) (xs ys : List ℕ) → at + (length xs + length ys) ≤ length buffer → with_bytes (with_bytes buffer at xs) (at + length xs) ys ≡ with_bytes buffer at (xs ++ ys)
with_more buffer at xs ys h =
    let n : at + length xs ≡ length (take at buffer) + length xs = omega (arith, length-take at buffer) in
    ap₂ (λ front back. front ++ (ys ++ back)) (seam_front (take at buffer) xs (drop (at + length xs) buffer) (at + length xs) n) (seam_back (take at buffer) xs (drop (at + length xs) buffer) (at + length xs) (length ys) n)
    ∙ append_assoc (take at buffer) xs _
    ∙ ap (λ z. take at buffer ++ z) (sym (append_assoc xs ys _))
    ∙ ap (λ z. take at buffer ++ ((xs ++ ys) ++ z)) (drop-drop (length ys) (at + length xs) buffer)
    ∙ ap (λ k. take at buffer ++ ((xs ++ ys) ++ drop k buffer)) (omega (arith, length-append xs ys))

-- bytes written at the front
pub with_front : (buffer : List ℕ) (bytes : List ℕ) → with_bytes buffer 0 bytes ≡ bytes ++ drop (length bytes) buffer
with_front buffer bytes = ap (λ k. bytes ++ drop k buffer) (zero-add (length bytes))

-- ---- a piece more, at a step of a loop
pub length_more : (done piece more : List ℕ) → more ≡ done ++ piece → length more ≡ length done + length piece
length_more done piece more h = ap length h ∙ length-append done piece

pub place_more : (start at : ℕ) (done piece more : List ℕ) → at ≡ start + length done → more ≡ done ++ piece → at + length piece ≡ start + length more
place_more start at done piece more e h = omega (arith, length_more done piece more h)

pub with_one_more : (before buffer : List ℕ) (start at : ℕ) (done piece more : List ℕ) → buffer ≡ with_bytes before start done → at ≡ start + length done → more ≡ done ++ piece → start + length more ≤ length before →
    with_bytes buffer at piece ≡ with_bytes before start more
with_one_more before buffer start at done piece more e f h l =
    ap₂ (λ b n. with_bytes b n piece) e f ∙ with_more before start done piece (omega (arith, length_more done piece more h)) ∙ ap (with_bytes before start) (sym h)
