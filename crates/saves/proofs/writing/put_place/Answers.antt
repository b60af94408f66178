use Rattle.std.proofs.Common.{◌≡◌, ℕ, ◌+◌, ◌*◌, ◌<◌, ◌≤◌, ◌++◌, List, length, take, ℤ, pos, sym, ap, ◌∙◌, arith, flat_map}
use Rattle.std.proofs.lemmas.List.{take_all}
use Rattle.std.proofs.lemmas.List.Folds.{length-flat_map-take}
use Rattle.files.specs.Files.{coefficient_bytes, place_bytes}
use Rattle.files.proofs.Files.{place_bytes_width}
use Rattle.saves.specs.Written.{with_bytes}
use Rattle.saves.proofs.Buffers.{with_nothing, length_more, place_more, with_one_more}
use Rattle.saves.proofs.Widths.{coefficients_more}
use Rattle.saves.proofs.writing.put_place.Goals as goal

pub loop-k-init : goal.loop-k-init
loop-k-init g c = (omega arith, sym (with_nothing c.args.buffer.now c.args.at))

pub put-at-requires : goal.put-at-requires
put-at-requires g c =
    let E = g.R.Ring.exact in
    let x = E.of (g.R.Ring.listed c.args.place) in
    let long : length (E.list x) ≡ E.d = g.met.R.Ring.lawful.list_length x in
    let n : c.D-k-end.result ≡ E.d = c.D-k-end.ensures ∙ g.met.R.Ring.counts_coefficients in
    let room = length-flat_map-take coefficient_bytes (E.list x) c.loop-k.k (pos 0) (omega arith) in
    let all : length (place_bytes E x) ≡ 4 * E.d = place_bytes_width E g.met.R.Ring.lawful x in
    let four : length c.coefficient_bytes.result ≡ 4 = ap length c.coefficient_bytes.ensures in
    omega (arith, c.loop-k.invariant.0, c.requires.room)

pub loop-k-preserved : goal.loop-k-preserved
loop-k-preserved g c =
    let E = g.R.Ring.exact in
    let x = E.of (g.R.Ring.listed c.args.place) in
    let long : length (E.list x) ≡ E.d = g.met.R.Ring.lawful.list_length x in
    let n : c.D-k-end.result ≡ E.d = c.D-k-end.ensures ∙ g.met.R.Ring.counts_coefficients in
    let inside : c.loop-k.k < length (E.list x) = omega arith in
    let done = flat_map coefficient_bytes (take c.loop-k.k (E.list x)) in
    let piece = c.coefficient_bytes.result in
    let more : flat_map coefficient_bytes (take (c.loop-k.k + 1) (E.list x)) ≡ done ++ piece = coefficients_more (E.list x) c.loop-k.k (pos 0) inside ∙ ap (λ z. done ++ z) (sym c.coefficient_bytes.ensures) in
    let all : length (place_bytes E x) ≡ 4 * E.d = place_bytes_width E g.met.R.Ring.lawful x in
    let room = length-flat_map-take coefficient_bytes (E.list x) c.loop-k.k (pos 0) inside in (
      c.put-at.ensures.end ∙ place_more c.args.at c.loop-k.at done piece _ c.loop-k.invariant.0 more,
      c.put-at.ensures.written
          ∙ with_one_more c.args.buffer.now c.loop-k.buffer c.args.at c.loop-k.at done piece _ c.loop-k.invariant.1 c.loop-k.invariant.0 more (omega (arith, c.requires.room, length_more done piece _ more, ap length c.coefficient_bytes.ensures)),
    )

-- the loop ends behind the last coefficient
whole : (cs : List ℤ) (k n : ℕ) → n ≤ k → length cs ≡ n → flat_map coefficient_bytes (take k cs) ≡ flat_map coefficient_bytes cs
whole cs k n h e = ap (flat_map coefficient_bytes) (take_all k cs (omega arith))

pub returns-clause-end : goal.returns-clause-end
returns-clause-end g c =
    let E = g.R.Ring.exact in
    let x = E.of (g.R.Ring.listed c.args.place) in
    let long : length (E.list x) ≡ c.D-k-end.result = g.met.R.Ring.lawful.list_length x ∙ sym (c.D-k-end.ensures ∙ g.met.R.Ring.counts_coefficients) in
    c.loop-k.invariant.0 ∙ ap (λ bytes. c.args.at + length bytes) (whole (E.list x) c.loop-k.k c.D-k-end.result c.loop-k-test.false long)

pub returns-clause-written : goal.returns-clause-written
returns-clause-written g c =
    let E = g.R.Ring.exact in
    let x = E.of (g.R.Ring.listed c.args.place) in
    let long : length (E.list x) ≡ c.D-k-end.result = g.met.R.Ring.lawful.list_length x ∙ sym (c.D-k-end.ensures ∙ g.met.R.Ring.counts_coefficients) in
    c.loop-k.invariant.1 ∙ ap (with_bytes c.args.buffer.now c.args.at) (whole (E.list x) c.loop-k.k c.D-k-end.result c.loop-k-test.false long)
