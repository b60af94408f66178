use Rattle.std.proofs.Common.{◌≡◌, ◌<◌, [], map, length, None, vec_items, sym, subst, arith, rules}
use Rattle.std.proofs.lemmas.List.{length-map}
use Rattle.std.proofs.lemmas.Result.{err_from_is_err_and}
use Rattle.std.proofs.lemmas.Bool.Decides.{nat_tests}
use Rattle.lines.proofs.Fronted.{first_shorter}
use Rattle.jobs.specs.Drafts.{front}
use Rattle.job_rows.specs.Shapes.{part_of}
use Rattle.jobs.specs.Drafts.{head_of}
use Rattle.jobs.specs.Rows.{placed_of, tile_of}
use Rattle.jobs.specs.Turns.{fault_at}
use Rattle.jobs.proofs.Halts.{Sofar, sofar_start, sofar_more, sofar_refused, sofar_early, sofar_all}
use Rattle.jobs.proofs.Mapped.{at_ok, at_err}
use Rattle.jobs.proofs.Shapes.{whole_front}
use Rattle.jobs.proofs.reading.read_lines.Goals as goal

pub loop-rest-init : goal.loop-rest-init
loop-rest-init c =
    subst (λ f. Sofar c.args.text.now f c.args.text.now 1)
    (λ i. whole_front 0 0 [] (map head_of (sym c.new.ensures.items i)) (map (λ v. map part_of (vec_items v)) (sym c.new-2.ensures.items i)) (map tile_of (sym c.new-3.ensures.items i)) [] [] None (map placed_of (sym c.new-4.ensures.items i)))
    (sofar_start c.args.text.now)

pub returns-in_err-rest : goal.returns-in_err-rest
returns-in_err-rest c =
    let p = err_from_is_err_and c.from_residual.result c.from_residual.ensures.1 in
    let m = at_err _ _ _ c.take_line.result c.in_err-rest.field-0.0 c.take_line.ensures c.in_err-rest.ensures.cases in
    let e : c.in_err-rest.field-0.0 ≡ fault_at m.0 c.loop-rest.line = let h = m.2 in search rules in
    rw (p.1, p.2, e) (sofar_refused (fault_at m.0 c.loop-rest.line) _ _ _ _ c.requires c.loop-rest.invariant (m.1 c.loop-rest.line))

pub loop-rest-smaller : goal.loop-rest-smaller
loop-rest-smaller c = let w = at_ok _ _ _ c.take_line.result c.in_ok-rest.rest c.take_line.ensures c.in_ok-rest.ensures.cases in first_shorter _ w.0 w.1 _ w.2

pub loop-rest-preserved : goal.loop-rest-preserved
loop-rest-preserved c = sofar_more _ _ _ _ _ _ c.loop-rest.invariant (at_ok _ _ _ c.take_line.result c.in_ok-rest.rest c.take_line.ensures c.in_ok-rest.ensures.cases)

pub returns-then-is_empty : goal.returns-then-is_empty
returns-then-is_empty c =
    let z : length (front c.loop-rest.draft).seeds ≡ 0 = search (rules, length-map) in
    sofar_early _ _ _ _ c.requires c.loop-rest.invariant (let e = c.loop-rest-test.ensures in grind (arith, nat_tests)) z

pub returns : goal.returns
returns c =
    let z : 0 < length (front c.loop-rest.draft).seeds = search (rules, length-map) in
    sofar_all _ _ _ _ c.loop-rest.invariant (let e = c.loop-rest-test.ensures in grind (arith, nat_tests)) z
