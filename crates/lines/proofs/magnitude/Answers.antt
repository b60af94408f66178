use Rattle.std.proofs.Common.{◌<◌, ◌≡◌, get_or, sym, ap, ◌∙◌, subst, arith}
use Rattle.std.specs.Str.Parse.{digits_value}
use Rattle.lines.specs.Spelling.{Ends}
use Rattle.lines.proofs.Decimal.{plain_front, run_some, run_few, run_lead, run_stop, front_first}
use Rattle.lines.proofs.magnitude.Goals as goal
use Rattle.lines.proofs.magnitude.Goals.{then-digits-gt-MOST_DIGITS-via-then-digits-gt-MOST_DIGITS, then-digits-gt-MOST_DIGITS-via-else-digits-gt-MOST_DIGITS+then-not-ends, else-digits-gt1-via-then-digits-gt1+else-digits-eq48, else-digits-gt1-via-else-digits-gt1}

pub returns-then-digits-gt-MOST_DIGITS : goal.returns-then-digits-gt-MOST_DIGITS
returns-then-digits-gt-MOST_DIGITS c m rest p =
    let told = c.digit_run.ensures in
    let few = run_few _ _ told.within told.all told.stops m rest p in
    let stop : Ends c.split_at.result.1.now = subst Ends (sym c.split_at.ensures.back) (run_stop _ _ told.within told.all told.stops m rest p) in
    elim c.then-digits-gt-MOST_DIGITS.branch [ then-digits-gt-MOST_DIGITS-via-then-digits-gt-MOST_DIGITS w ↦ omega arith | then-digits-gt-MOST_DIGITS-via-else-digits-gt-MOST_DIGITS+then-not-ends w ↦ let e = w.ends.ensures.1 stop in cc ]

pub returns-then-digits-eq48 : goal.returns-then-digits-eq48
returns-then-digits-eq48 c m rest p =
    let told = c.digit_run.ensures in
    let some : 0 < c.digit_run.result = omega arith in
    run_lead _ _ told.within told.all told.stops m rest p (omega arith) (sym (front_first _ _ _ c.split_at.ensures.front some) ∙ c.if-digits-eq48.true)

pub returns-in_err-digits_value : goal.returns-in_err-digits_value
returns-in_err-digits_value c =
    let told = c.digit_run.ensures in
    rw c.from_residual.ensures (λ m rest p. let some = run_some _ _ told.within told.all told.stops m rest p in omega (arith, c.in_err-digits_value.ensures))

pub returns : goal.returns
returns c =
    let told = c.digit_run.ensures in
    let read = c.in_ok-digits_value.ensures in
    let some : 0 < c.digit_run.result = omega (arith, read.0) in
    let lead : get_or c.args.s.now 0 0 ≡ 48 → c.digit_run.result ≡ 1 = λ z. elim c.else-digits-gt1.branch [ else-digits-gt1-via-then-digits-gt1+else-digits-eq48 w ↦ absurd (w.if-digits-eq48.false (front_first _ _ _ c.split_at.ensures.front some ∙ z)) | else-digits-gt1-via-else-digits-gt1 w ↦ omega arith ] in
    let stop = subst Ends c.split_at.ensures.back (c.ends.ensures.0 c.if-not-ends.false) in
    let v = read.1 ∙ ap (digits_value 10) c.split_at.ensures.front in
    rw (v, c.split_at.ensures.back) (plain_front _ _ told.within told.all some (omega arith) lead stop)
