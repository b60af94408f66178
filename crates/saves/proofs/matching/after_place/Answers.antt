use Rattle.std.proofs.Common.{◌≡◌, ◌≢◌, ℕ, ◌<◌, ◌++◌, List, length, take, get_or, pos, Some, None, sym, ap, ◌∙◌, subst, arith, flat_map}
use Rattle.std.proofs.lemmas.Bool.Decides.{Decides-eqb}
use Rattle.std.proofs.lemmas.Slice.Eq.{strip_prefix_is}
use Rattle.std.proofs.lemmas.List.{take_all}
use Rattle.files.specs.Files.{coefficient_bytes}
use Rattle.saves.proofs.Widths.{coefficients_more}
use Rattle.saves.proofs.Fronts.{no_front, longer_front, coefficients_split}
use Rattle.saves.proofs.matching.after_place.Goals as goal

pub returns-in_err-rest : goal.returns-in_err-rest
returns-in_err-rest g c =
    let E = g.R.Ring.exact in
    let x = E.of (g.R.Ring.listed c.args.place) in
    let k = c.loop-k.k in
    let long : length (E.list x) ≡ E.d = g.met.R.Ring.lawful.list_length x in
    let n : c.D-k-end.result ≡ E.d = c.D-k-end.ensures ∙ g.met.R.Ring.counts_coefficients in
    let apart = strip_prefix_is Decides-eqb c.loop-k.rest.now c.coefficient_bytes.result None c.in_err-rest.ensures.cases in
    let split = coefficients_split (E.list x) k (pos 0) (omega arith) in
    rw c.from_residual.ensures (no_front c.args.bytes.now (flat_map coefficient_bytes (take k (E.list x))) c.loop-k.rest.now (coefficient_bytes (get_or (E.list x) k (pos 0))) (flat_map coefficient_bytes (E.list x)) split.0 c.loop-k.invariant split.1
    (subst (λ p. (more : List ℕ) → c.loop-k.rest.now ≢ p ++ more) c.coefficient_bytes.ensures apart))

pub loop-k-preserved : goal.loop-k-preserved
loop-k-preserved g c =
    let E = g.R.Ring.exact in
    let x = E.of (g.R.Ring.listed c.args.place) in
    let long : length (E.list x) ≡ E.d = g.met.R.Ring.lawful.list_length x in
    let n : c.D-k-end.result ≡ E.d = c.D-k-end.ensures ∙ g.met.R.Ring.counts_coefficients in
    let inside : c.loop-k.k < length (E.list x) = omega arith in
    let done = flat_map coefficient_bytes (take c.loop-k.k (E.list x)) in
    longer_front c.args.bytes.now done c.loop-k.rest.now c.coefficient_bytes.result _ c.in_ok-rest.rest.now c.loop-k.invariant
    (coefficients_more (E.list x) c.loop-k.k (pos 0) inside ∙ ap (λ z. done ++ z) (sym c.coefficient_bytes.ensures))
    (strip_prefix_is Decides-eqb c.loop-k.rest.now c.coefficient_bytes.result (Some c.in_ok-rest.rest) c.in_ok-rest.ensures.cases)

pub returns : goal.returns
returns g c =
    let E = g.R.Ring.exact in
    let x = E.of (g.R.Ring.listed c.args.place) in
    let long : length (E.list x) ≡ E.d = g.met.R.Ring.lawful.list_length x in
    let n : c.D-k-end.result ≡ E.d = c.D-k-end.ensures ∙ g.met.R.Ring.counts_coefficients in
    c.loop-k.invariant ∙ ap (λ cs. flat_map coefficient_bytes cs ++ c.loop-k.rest.now) (take_all c.loop-k.k (E.list x) (omega (arith, c.loop-k-test.false)))
