use Rattle.std.proofs.Common.{◌≡◌, ℕ, ◌<◌, ◌≤◌, Some, length, pos, get_or, subst, ◌∙◌, arith, w64, to_z, of_z}
use Rattle.std.specs.List.{flat_map}
use Rattle.std.proofs.lemmas.Int.{ints}
use Rattle.std.proofs.lemmas.List.{take_all}
use Rattle.lines.specs.Spelling.{word}
use Rattle.cutting.specs.Puts.{Puts}
use Rattle.cutting.proofs.Putting.{puts_next, puts_stop}
use Rattle.cutting.proofs.Pieces.{length_listed}
use Rattle.cutting.proofs.puts.put_place.Goals as goal
use Rattle.cutting.proofs.puts.put_place.Given.{Over}

-- there are D coefficients
full : (g : Over) (p : g.row.R-Plain.Denot) (D : ℕ) → D ≡ g.R.Ring.D → length (g.R.Ring.listed p) ≡ D
full g p D e = let m = g.met.R.Ring in length_listed g.R.Ring.exact g.R.Ring.listed g.R.Ring.row m.listed_row m.row_listed m.lawful p D (e ∙ m.counts_coefficients)

pub returns-in_err-end : goal.returns-in_err-end
returns-in_err-end g c =
    let k = c.loop-k.k in
    let z = c.plain_coefficient.result in
    let cs = g.R.Ring.listed c.args.place in
    let size = full g c.args.place c.D-k-end.result c.D-k-end.ensures in
    let inside : k < length cs = omega arith in
    let is : to_z w64 (of_z w64 z) ≡ get_or cs k (pos 0) = omega (arith, ints) in
    puts_stop word cs k (to_z w64 (of_z w64 z)) (pos 0) inside is c.args.buffer.now c.loop-k.buffer c.put_word.new.buffer c.args.at c.loop-k.end c.loop-k.invariant c.from_residual.result c.from_residual.ensures c.in_err-end.ensures

pub loop-k-preserved : goal.loop-k-preserved
loop-k-preserved g c =
    let k = c.loop-k.k in
    let z = c.plain_coefficient.result in
    let cs = g.R.Ring.listed c.args.place in
    let size = full g c.args.place c.D-k-end.result c.D-k-end.ensures in
    let inside : k < length cs = omega arith in
    let is : to_z w64 (of_z w64 z) ≡ get_or cs k (pos 0) = omega (arith, ints) in
    puts_next word cs k (to_z w64 (of_z w64 z)) (pos 0) inside is c.args.buffer.now c.loop-k.buffer c.put_word.new.buffer c.args.at c.loop-k.end c.loop-k.invariant c.in_ok-end.end c.in_ok-end.ensures

pub returns : goal.returns
returns g c =
    let cs = g.R.Ring.listed c.args.place in
    let size = full g c.args.place c.D-k-end.result c.D-k-end.ensures in
    let whole : length cs ≤ c.loop-k.k = omega arith in
    subst (λ l. Puts c.args.buffer.now c.args.at (flat_map word l) c.loop-k.buffer (Some c.loop-k.end)) (take_all c.loop-k.k cs whole) c.loop-k.invariant
