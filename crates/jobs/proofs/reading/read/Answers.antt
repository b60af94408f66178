use Rattle.std.proofs.Common.{◌≡◌, length, Ok, Err, vec_items, sym, refl, ◌∙◌, rules, MatchResult}
use Rattle.std.proofs.lemmas.Result.{err_from_is_err_and}
use Rattle.faults.specs.declared.TextFault.TheVariants.{Unfit, Overlong}
use Rattle.jobs.specs.Drafts.{front}
use Rattle.jobs.specs.Faults.{Refuses}
use Rattle.jobs.specs.Jobs.{numbers}
use Rattle.jobs.specs.Ranges.{InRange}
use Rattle.jobs.specs.Refusals.{Refused, overlong}
use Rattle.jobs.specs.Spelled.{spelled}
use Rattle.jobs.proofs.Halts.{read_up, accepts_of, refuses_of, late_of, room_of, spelled_of}
use Rattle.jobs.proofs.reading.read.Goals as goal

pub returns-then-text-gt-MOST_BYTES : goal.returns-then-text-gt-MOST_BYTES
returns-then-text-gt-MOST_BYTES c =
    let a : Refused c.args.text.now 3 0 = overlong c.if-text-gt-MOST_BYTES.true refl refl in
    record { answer = a; accepts = accepts_of (Err Overlong) c.args.text.now a; refuses = refuses_of (Err Overlong) c.args.text.now a }

pub returns-in_err-draft : goal.returns-in_err-draft
returns-in_err-draft c =
    let p = err_from_is_err_and c.from_residual.result c.from_residual.ensures.1 in
    let a : MatchResult c.from_residual.result (λ j. (c.args.text.now ≡ spelled (numbers j)) × InRange (numbers j)) (Refuses c.args.text.now) = rw (p.1, p.2) c.in_err-draft.ensures in
    record { answer = a; accepts = accepts_of c.from_residual.result c.args.text.now a; refuses = refuses_of c.from_residual.result c.args.text.now a }

pub beyond_tile-requires : goal.beyond_tile-requires
beyond_tile-requires c =
    let d = c.in_ok-draft.draft in
    let u = read_up c.args.text.now (front d) c.if-text-gt-MOST_BYTES.false c.in_ok-draft.ensures in
    let n : c.len.result ≡ length (vec_items d.heads) = search rules in
    room_of c.args.text.now d c.len.result c.as_slice.result.now u n c.as_slice.ensures.value

pub of-requires : goal.of-requires
of-requires c =
    let d = c.in_ok-draft.draft in
    let u = read_up c.args.text.now (front d) c.if-text-gt-MOST_BYTES.false c.in_ok-draft.ensures in
    let n : c.len.result ≡ length (vec_items d.heads) = search rules in
    (u.all_named (sym (c.in-None.ensures ∙ late_of d c.len.result c.as_slice.result.now n c.as_slice.ensures.value)), u.paired)

pub returns-in-Some : goal.returns-in-Some
returns-in-Some c =
    let d = c.in_ok-draft.draft in
    let u = read_up c.args.text.now (front d) c.if-text-gt-MOST_BYTES.false c.in_ok-draft.ensures in
    let n : c.len.result ≡ length (vec_items d.heads) = search rules in
    let a : Refused c.args.text.now 3 c.in-Some.line = u.late_at c.in-Some.line (sym (c.in-Some.ensures ∙ late_of d c.len.result c.as_slice.result.now n c.as_slice.ensures.value)) in
    record { answer = a; accepts = accepts_of (Err (Unfit c.in-Some.line)) c.args.text.now a; refuses = refuses_of (Err (Unfit c.in-Some.line)) c.args.text.now a }

pub returns-in_ok-of-in-None : goal.returns-in_ok-of-in-None
returns-in_ok-of-in-None c =
    let d = c.in_ok-draft.draft in
    let u = read_up c.args.text.now (front d) c.if-text-gt-MOST_BYTES.false c.in_ok-draft.ensures in
    let n : c.len.result ≡ length (vec_items d.heads) = search rules in
    let i = u.all_named (sym (c.in-None.ensures ∙ late_of d c.len.result c.as_slice.result.now n c.as_slice.ensures.value)) in
    let a : (c.args.text.now ≡ spelled (numbers c.in_ok-of-in-None.field-0)) × InRange (numbers c.in_ok-of-in-None.field-0) = spelled_of c.args.text.now (front d) (numbers c.in_ok-of-in-None.field-0) u i c.in_ok-of-in-None.ensures in
    record { answer = a; accepts = accepts_of (Ok c.in_ok-of-in-None.field-0) c.args.text.now a; refuses = refuses_of (Ok c.in_ok-of-in-None.field-0) c.args.text.now a }
