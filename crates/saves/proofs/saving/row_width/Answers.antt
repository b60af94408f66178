use Rattle.std.proofs.Common.{◌≡◌, ◌+◌, ◌*◌, length, sym, ap, ◌∙◌, rules}
use Rattle.calls.specs.Records.{laid_view, row_view}
use Rattle.files.specs.Files.{record_bytes}
use Rattle.saves.proofs.Widths.{laid_width, aside_width}
use Rattle.saves.proofs.saving.row_width.Goals as goal

pub returns-in_err-checked_mul-in-Some : goal.returns-in_err-checked_mul-in-Some
returns-in_err-checked_mul-in-Some g c =
    let E = g.R.Ring.exact in
    let r = row_view E g.R.Ring.listed c.args.row.now in
    let w : length (record_bytes E r) ≡ 4 * E.d + 2 = laid_width E g.met.R.Ring.lawful r _ (ap (laid_view E g.R.Ring.listed) c.in-Some.is) in
    let n : c.D.result ≡ E.d = c.D.ensures ∙ g.met.R.Ring.counts_coefficients in
    let many = c.in_err-checked_mul-in-Some.ensures in
    search (rules, many, w, n)

pub returns-in-None : goal.returns-in-None
returns-in-None g c = let E = g.R.Ring.exact in sym (aside_width E g.met.R.Ring.lawful (row_view E g.R.Ring.listed c.args.row.now) (ap (laid_view E g.R.Ring.listed) c.in-None.is))

pub returns-in_ok-checked_mul-in-Some : goal.returns-in_ok-checked_mul-in-Some
returns-in_ok-checked_mul-in-Some g c =
    let E = g.R.Ring.exact in
    let r = row_view E g.R.Ring.listed c.args.row.now in
    let w : length (record_bytes E r) ≡ 4 * E.d + 2 = laid_width E g.met.R.Ring.lawful r _ (ap (laid_view E g.R.Ring.listed) c.in-Some.is) in
    let n : c.D.result ≡ E.d = c.D.ensures ∙ g.met.R.Ring.counts_coefficients in
    search (rules, w, n)
