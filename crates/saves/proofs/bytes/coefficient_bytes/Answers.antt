use Rattle.std.proofs.Common.{ap, ◌∙◌}
use Rattle.files.specs.Files.{coefficient_bytes}
use Rattle.saves.proofs.Listed.{as_listed, coefficient_fits, coefficient_cast}
use Rattle.saves.proofs.bytes.coefficient_bytes.Goals as goal

pub overflow_cast-plain_coefficient : goal.overflow_cast-plain_coefficient
overflow_cast-plain_coefficient g c =
    let E = g.R.Ring.exact in
    let same = as_listed E g.R.Ring.listed g.R.Ring.row g.met.R.Ring.listed_row g.met.R.Ring.row_listed c.args.place in
    coefficient_fits E (E.of (g.R.Ring.listed c.args.place)) _ c.args.k _ c.requires same c.plain_coefficient.ensures

pub returns : goal.returns
returns g c =
    let E = g.R.Ring.exact in
    let same = as_listed E g.R.Ring.listed g.R.Ring.row g.met.R.Ring.listed_row g.met.R.Ring.row_listed c.args.place in
    c.to_be_bytes.ensures ∙ ap coefficient_bytes (coefficient_cast E (E.of (g.R.Ring.listed c.args.place)) _ c.args.k _ c.requires same c.plain_coefficient.ensures)
