use Rattle.std.proofs.Common.{◌≡◌, ◌<◌, length, ◌∙◌, rules}
use Rattle.std.specs.List.{fold}
use Rattle.lines.proofs.Decimal.{digit_more, value_folded}
use Rattle.lines.proofs.digits_value.Goals as goal

pub returns : goal.returns
returns c =
    let e : c.fold.result ≡ fold digit_more 0 c.args.digits.now = search rules in
    let some : 0 < length c.args.digits.now = search rules in
    (some, e ∙ value_folded c.args.digits.now c.requires.1 c.requires.0)
