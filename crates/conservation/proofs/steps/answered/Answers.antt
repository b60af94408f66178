use Rattle.std.proofs.Common.{◌≡◌, ℕ, length, refl, sym, subst, rules, Ok, Err}
use Rattle.calls.specs.Records.{records}
use Rattle.calls.specs.Sheets.{Sheet}
use Rattle.calls.specs.Moves.{descending, setting_aside}
use Rattle.calls.specs.Views.{sheet_of}
use Rattle.runs.specs.Runs.{moving, resuming}
use Rattle.conservation.specs.declared.answer.Answer.TheVariants.{Laid, Saved, Refused}
use Rattle.conservation.specs.Answered.{call_view, told, Does}
use Rattle.conservation.proofs.Stepping.{descend_does, aside_does, lay_does}
use Rattle.conservation.proofs.Filing.{save_does, resume_does, resumed_answers, counted_in}
use Rattle.conservation.proofs.steps.answered.Goals as goal

pub returns-in-Descend-clause-does : goal.returns-in-Descend-clause-does
returns-in-Descend-clause-does g c sound =
    let E = g.P.R.Ring.exact in let v = g.P.R.Ring.value in let f = g.P.R.Ring.listed in
    let o = c.args.sheet.now in let m = c.descend.new.self in let N = g.P.Placer.plan o.placer in
    let list = c.args.list.now in let buf = c.args.buffer.now in let rs = records E f o.count list in
    let s : Sheet E = sheet_of E f o.cursor o.count list in
    let t : ℕ → Sheet E = λ n. sheet_of E f m.cursor n list in
    let d = descend_does E v N (length list) c.descend.result s (t o.count) o.count o.count buf (c.descend.ensures.does rs) refl in
    let d' = subst (λ n. Does E v N (length list) (moving descending) (told c.descend.result) s (t n) o.count n buf buf) (sym c.descend.ensures.kept.1) d in
    subst (λ k. Does E v N (length list) (call_view (length buf) k) c.went.result s (t m.count) o.count m.count buf buf) (sym c.in-Descend.is)
    (subst (λ a. Does E v N (length list) (moving descending) a s (t m.count) o.count m.count buf buf) (sym c.went.ensures) d')

pub returns-in-Ok-clause-does : goal.returns-in-Ok-clause-does
returns-in-Ok-clause-does g c sound =
    let E = g.P.R.Ring.exact in let v = g.P.R.Ring.value in let f = g.P.R.Ring.listed in
    let o = c.args.sheet.now in let m = c.lay.new.self in let N = g.P.Placer.plan o.placer in
    let list = c.args.list.now in let buf = c.args.buffer.now in
    let s : Sheet E = sheet_of E f o.cursor o.count list in let t : Sheet E = sheet_of E f m.cursor m.count c.lay.new.list in
    subst (λ k. Does E v N (length list) (call_view (length buf) k) (Laid c.in-Ok.placed) s t o.count m.count buf buf) (sym c.in-Lay.is)
    (lay_does E v N (length list) (g.P.Placer.sound o.placer) sound (Ok c.in-Ok.placed) s t o.count m.count list c.lay.new.list buf c.in-Ok.ensures.lays c.in-Ok.ensures.listed)

pub returns-in-Err-clause-does : goal.returns-in-Err-clause-does
returns-in-Err-clause-does g c sound =
    let E = g.P.R.Ring.exact in let v = g.P.R.Ring.value in let f = g.P.R.Ring.listed in
    let o = c.args.sheet.now in let m = c.lay.new.self in let N = g.P.Placer.plan o.placer in
    let list = c.args.list.now in let buf = c.args.buffer.now in
    let s : Sheet E = sheet_of E f o.cursor o.count list in let t : Sheet E = sheet_of E f m.cursor m.count c.lay.new.list in
    subst (λ k. Does E v N (length list) (call_view (length buf) k) (Refused c.in-Err.fault) s t o.count m.count buf buf) (sym c.in-Lay.is)
    (lay_does E v N (length list) (g.P.Placer.sound o.placer) sound (Err c.in-Err.fault) s t o.count m.count list c.lay.new.list buf c.in-Err.ensures.lays c.in-Err.ensures.listed)

pub returns-in-SetAside-clause-does : goal.returns-in-SetAside-clause-does
returns-in-SetAside-clause-does g c sound =
    let E = g.P.R.Ring.exact in let v = g.P.R.Ring.value in let f = g.P.R.Ring.listed in
    let o = c.args.sheet.now in let m = c.set_aside.new.self in let N = g.P.Placer.plan o.placer in
    let list = c.args.list.now in let buf = c.args.buffer.now in
    let s : Sheet E = sheet_of E f o.cursor o.count list in let t : Sheet E = sheet_of E f m.cursor m.count c.set_aside.new.list in
    subst (λ k. Does E v N (length list) (call_view (length buf) k) c.went-in-SetAside.result s t o.count m.count buf buf) (sym c.in-SetAside.is)
    (subst (λ a. Does E v N (length list) (moving setting_aside) a s t o.count m.count buf buf) (sym c.went-in-SetAside.ensures)
    (aside_does E v N (length list) c.set_aside.result s t o.count m.count list c.set_aside.new.list buf c.set_aside.ensures.does c.set_aside.ensures.listed))

pub returns-in-Resume-clause-does : goal.returns-in-Resume-clause-does
returns-in-Resume-clause-does g c sound =
    let E = g.P.R.Ring.exact in let v = g.P.R.Ring.value in let f = g.P.R.Ring.listed in
    let o = c.args.sheet.now in let m = c.resume.new.self in let N = g.P.Placer.plan o.placer in
    let list = c.args.list.now in let buf = c.args.buffer.now in let file = c.in-Resume.file.now in
    let s : Sheet E = sheet_of E f o.cursor o.count list in let t : Sheet E = sheet_of E f m.cursor m.count c.resume.new.list in
    subst (λ k. Does E v N (length list) (call_view (length buf) k) c.went-in-Resume.result s t o.count m.count buf buf) (sym c.in-Resume.is)
    (subst (λ a. Does E v N (length list) (resuming file) a s t o.count m.count buf buf) (sym c.went-in-Resume.ensures)
    (resume_does E v N (length list) file c.resume.result s t o.count m.count buf (resumed_answers E v N f (length list) file c.resume.result o.cursor m.cursor o.count m.count list c.resume.new.list (c.resume.ensures.resumes sound))))

pub returns-in-Ok-save-clause-does : goal.returns-in-Ok-save-clause-does
returns-in-Ok-save-clause-does g c sound =
    let E = g.P.R.Ring.exact in let v = g.P.R.Ring.value in let f = g.P.R.Ring.listed in
    let o = c.args.sheet.now in let N = g.P.Placer.plan o.placer in
    let list = c.args.list.now in let buf = c.args.buffer.now in
    let s : Sheet E = sheet_of E f o.cursor o.count list in
    let same : length c.save.new.buffer ≡ length buf = search rules in
    subst (λ k. Does E v N (length list) (call_view (length buf) k) (Saved c.in-Ok-save.bytes) s s o.count o.count buf c.save.new.buffer) (sym c.in-Save.is)
    (save_does E v N (length list) (length buf) (Ok c.in-Ok-save.bytes) s s o.count o.count buf c.save.new.buffer refl (counted_in E f o.count list) same refl refl c.in-Ok-save.ensures)

pub returns-in-Err-save-clause-does : goal.returns-in-Err-save-clause-does
returns-in-Err-save-clause-does g c sound =
    let E = g.P.R.Ring.exact in let v = g.P.R.Ring.value in let f = g.P.R.Ring.listed in
    let o = c.args.sheet.now in let N = g.P.Placer.plan o.placer in
    let list = c.args.list.now in let buf = c.args.buffer.now in
    let s : Sheet E = sheet_of E f o.cursor o.count list in
    let same : length c.save.new.buffer ≡ length buf = search rules in
    subst (λ k. Does E v N (length list) (call_view (length buf) k) (Refused c.in-Err-save.fault) s s o.count o.count buf c.save.new.buffer) (sym c.in-Save.is)
    (save_does E v N (length list) (length buf) (Err c.in-Err-save.fault) s s o.count o.count buf c.save.new.buffer refl (counted_in E f o.count list) same refl refl c.in-Err-save.ensures)
