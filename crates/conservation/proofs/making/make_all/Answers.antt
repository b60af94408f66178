use Rattle.std.proofs.Common.{◌≡◌, ◌+◌, ◌<◌, List, [], ◌∷◌, ◌++◌, length, map, take, drop, get_or, sym, refl, ap, ◌∙◌, subst, arith}
use Rattle.std.proofs.lemmas.List.{take_more, take_more_set, map-append, length-map, length-take-le, drop-set-lt, drop-drop, length-set}
use Rattle.std.proofs.Math.Seq.{take-length}
use Rattle.calls.specs.Sheets.{Sheet}
use Rattle.calls.specs.Views.{sheet_of}
use Rattle.runs.specs.Runs.{Call}
use Rattle.conservation.specs.declared.answer.Answer.{Answer}
use Rattle.conservation.specs.declared.call.Call.TheVariants.{Descend}
use Rattle.conservation.specs.Answered.{call_view, Does, Makes}
use Rattle.conservation.proofs.Running.{makes_none, makes_more}
use Rattle.conservation.proofs.making.make_all.Goals as goal

pub loop-i-init : goal.loop-i-init
loop-i-init g c =
    let E = g.P.R.Ring.exact in let v = g.P.R.Ring.value in let o = c.args.sheet.now in let N = g.P.Placer.plan o.placer in
    (λ sound B k e. makes_none E v N (length c.args.list.now) (sheet_of E g.P.R.Ring.listed o.cursor o.count c.args.list.now) o.count c.args.buffer.now e k, refl, (refl, refl, refl), refl, λ s. s)

pub loop-i-preserved : goal.loop-i-preserved
loop-i-preserved g c =
    let E = g.P.R.Ring.exact in let v = g.P.R.Ring.value in let f = g.P.R.Ring.listed in
    let o = c.args.sheet.now in let N = g.P.Placer.plan o.placer in
    let inv = c.loop-i.invariant in let l = c.loop-i in let i = c.loop-i.i in
    let calls = c.args.calls.now in let bytes = length c.args.buffer.now in let room = length c.args.list.now in
    let k = get_or calls i Descend in
    let a = c.answered-answer.ensures in let m = c.answered-answer.new.sheet in
    let s : Sheet E = sheet_of E f l.sheet.cursor l.sheet.count l.list in
    let t : Sheet E = sheet_of E f m.cursor m.count c.answered-answer.new.list in
    let made : List Call = map (call_view bytes) (take i calls) in
    let does : g.P.Placer.sound o.placer → Does E v N room (call_view bytes k) c.answered-answer.result s t l.sheet.count m.count l.buffer c.answered-answer.new.buffer =
    λ sound. subst (λ M. Does E v M room (call_view bytes k) c.answered-answer.result s t l.sheet.count m.count l.buffer c.answered-answer.new.buffer) inv.3
    (subst (λ n. Does E v (g.P.Placer.plan l.sheet.placer) n (call_view bytes k) c.answered-answer.result s t l.sheet.count m.count l.buffer c.answered-answer.new.buffer) inv.2.0
    (subst (λ n. Does E v (g.P.Placer.plan l.sheet.placer) (length l.list) (call_view n k) c.answered-answer.result s t l.sheet.count m.count l.buffer c.answered-answer.new.buffer) inv.2.1 (a.does (inv.4 sound)))) in
    let here : i < length calls = c.loop-i-test.true in
    let place : i < length l.answers = let n = inv.2.2 in let r = c.requires in omega (arith, n, r, here) in
    let more : map (call_view bytes) (take (i + 1) calls) ≡ made ++ call_view bytes k ∷ [] = ap (map (call_view bytes)) (take_more calls i Descend here) ∙ map-append (call_view bytes) (take i calls) (k ∷ []) in
    let told : take (i + 1) c.note.new.answers ≡ take i l.answers ++ c.answered-answer.result ∷ [] = ap (take (i + 1)) c.note.ensures ∙ take_more_set l.answers i c.answered-answer.result place in
    let next : (xs : List (Answer _)) → drop (i + 1) xs ≡ drop 1 (drop i xs) = λ xs. sym (drop-drop 1 i xs) in
    let as_long : length made ≡ length (take i l.answers) = omega (arith, here, place, length-map (take i calls) (call_view bytes), length-take-le i calls (omega (arith, here)), length-take-le i l.answers (omega (arith, place))) in (
      λ sound B z e.
          subst (λ cs. Makes E v N room cs t m.count (take (i + 1) c.note.new.answers) c.args.buffer.now c.answered-answer.new.buffer) (sym more)
          (subst (λ xs. Makes E v N room (made ++ call_view bytes k ∷ []) t m.count xs c.args.buffer.now c.answered-answer.new.buffer) (sym told)
          (makes_more E v N room B made (call_view bytes k) s t l.sheet.count m.count (take i l.answers) c.answered-answer.result c.args.buffer.now l.buffer c.answered-answer.new.buffer (inv.0 sound B z e) as_long (does sound))),
      ap (drop (i + 1)) c.note.ensures ∙ drop-set-lt (i + 1) l.answers i c.answered-answer.result (omega arith) ∙ next l.answers ∙ ap (drop 1) inv.1 ∙ sym (next c.args.answers.now),
      (a.sized.0 ∙ inv.2.0, a.sized.1 ∙ inv.2.1, ap length c.note.ensures ∙ length-set l.answers i c.answered-answer.result ∙ inv.2.2),
      a.kept ∙ inv.3,
      λ s. a.sound (inv.4 s),
    )

pub returns-clause-makes : goal.returns-clause-makes
returns-clause-makes g c sound B z e =
    let E = g.P.R.Ring.exact in let v = g.P.R.Ring.value in let o = c.args.sheet.now in let N = g.P.Placer.plan o.placer in
    let l = c.loop-i in let calls = c.args.calls.now in
    let s : Sheet E = sheet_of E g.P.R.Ring.listed l.sheet.cursor l.sheet.count l.list in
    let done : l.i ≡ length calls = omega (arith, c.loop-i-test.false, c.loop-i.auto.i-end) in
    let all : take l.i calls ≡ calls = ap (λ n. take n calls) done ∙ take-length calls in
    subst (λ n. Makes E v N (length c.args.list.now) (map (call_view (length c.args.buffer.now)) calls) s l.sheet.count (take n l.answers) c.args.buffer.now l.buffer) done
    (subst (λ cs. Makes E v N (length c.args.list.now) (map (call_view (length c.args.buffer.now)) cs) s l.sheet.count (take l.i l.answers) c.args.buffer.now l.buffer) all (l.invariant.0 sound B z e))

pub returns-clause-rest : goal.returns-clause-rest
returns-clause-rest g c =
    let l = c.loop-i in let calls = c.args.calls.now in
    let done : l.i ≡ length calls = omega (arith, c.loop-i-test.false, c.loop-i.auto.i-end) in
    subst (λ n. drop n l.answers ≡ drop n c.args.answers.now) done l.invariant.1
