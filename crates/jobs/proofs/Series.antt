-- Rows and the numbers that they have.
use Rattle.std.proofs.Common.{◌≡◌, ℕ, ◌*◌, ◌<◌, Bool, true, false, List, [], ◌∷◌, ◌++◌, length, ℤ, sym, refl, ap, ◌∙◌, arith}
use Rattle.std.specs.List.{flat_map}
use Rattle.std.proofs.lemmas.List.{length-append}
use Rattle.exact.specs.JobNumbers.{Part, Step, PlacedNumbers}
use Rattle.jobs.specs.Spelled.{mark, part_numbers, step_numbers, placed_numbers}

pub mark_inj : (a b : Bool) → mark a ≡ mark b → a ≡ b
mark_inj true true e = refl
mark_inj false false e = refl
mark_inj true false e = cc
mark_inj false true e = cc

pub part_unique : (rest : List ℤ) (x y : Part) (more r : List ℤ) → rest ≡ part_numbers x ++ more → rest ≡ part_numbers y ++ r → (x ≡ y) × (more ≡ r)
part_unique rest x y more r e f =
    let p : x.label ≡ y.label = cc in
    let q = mark_inj x.forward y.forward (cc) in
    ((λ i. record { label = p i; forward = q i }), cc)

pub step_unique : (rest : List ℤ) (x y : Step) (more r : List ℤ) → rest ≡ step_numbers x ++ more → rest ≡ step_numbers y ++ r → (x ≡ y) × (more ≡ r)
step_unique rest x y more r e f =
    let p : x.label ≡ y.label = cc in
    let d : x.direction ≡ y.direction = cc in
    let q = mark_inj x.forward y.forward (cc) in
    ((λ i. record { label = p i; forward = q i; direction = d i }), cc)

pub placed_unique : (x y : PlacedNumbers) → placed_numbers x ≡ placed_numbers y → x ≡ y
placed_unique x y e =
    let t : x.tile ≡ y.tile = cc in
    let k : x.turn ≡ y.turn = cc in
    let p : x.place ≡ y.place = cc in
    let m = mark_inj x.mirrored y.mirrored (cc) in
    λ i. record { tile = t i; turn = k i; mirrored = m i; place = p i }

-- rows that are told apart by what they begin with
rows_unique : {X A : Type 0} (enc : X → List A) → ((x : X) → 0 < length (enc x)) → ((rest : List A) (x y : X) (more r : List A) → rest ≡ enc x ++ more → rest ≡ enc y ++ r → (x ≡ y) × (more ≡ r)) → (xs ys : List X) → flat_map enc xs ≡ flat_map enc ys → xs ≡ ys
rows_unique enc some unique [] [] e = refl
rows_unique enc some unique [] (y ∷ ys) e = absurd (let h = some y in let n = ap length e ∙ length-append (enc y) (flat_map enc ys) in omega arith)
rows_unique enc some unique (x ∷ xs) [] e = absurd (let h = some x in let n = ap length (sym e) ∙ length-append (enc x) (flat_map enc xs) in omega arith)
rows_unique enc some unique (x ∷ xs) (y ∷ ys) e =
    let u = unique (flat_map enc (x ∷ xs)) x y (flat_map enc xs) (flat_map enc ys) refl e in
    let t = rows_unique enc some unique xs ys u.1 in
    λ i. u.0 i ∷ t i

pub parts_unique : (xs ys : List Part) → flat_map part_numbers xs ≡ flat_map part_numbers ys → xs ≡ ys
parts_unique = rows_unique part_numbers (λ x. omega arith) part_unique

pub steps_unique : (xs ys : List Step) → flat_map step_numbers xs ≡ flat_map step_numbers ys → xs ≡ ys
steps_unique = rows_unique step_numbers (λ x. omega arith) step_unique

-- rows that all have n numbers
pub length_rows : {Y : Type 0} (n : ℕ) (f : Y → List ℤ) → ((y : Y) → length (f y) ≡ n) → (ys : List Y) → length (flat_map f ys) ≡ n * length ys
length_rows n f sized [] = omega arith
length_rows n f sized (y ∷ ys) = length-append (f y) (flat_map f ys) ∙ (let a = sized y in let h = length_rows n f sized ys in omega arith)

pub length_parts : (ps : List Part) → length (flat_map part_numbers ps) ≡ 2 * length ps
length_parts = length_rows 2 part_numbers (λ p. omega arith)

pub length_steps : (ss : List Step) → length (flat_map step_numbers ss) ≡ 3 * length ss
length_steps = length_rows 3 step_numbers (λ s. omega arith)
