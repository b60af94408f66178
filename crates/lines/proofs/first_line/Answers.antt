use Rattle.std.proofs.Common.{◌∷◌, vec_items, sym, subst}
use Rattle.std.specs.List.{flat_map}
use Rattle.std.proofs.lemmas.Result.{err_from_is_err_and}
use Rattle.lines.specs.Letters.{byte}
use Rattle.lines.specs.Spelling.{word, Words}
use Rattle.lines.proofs.Fronted.{spelt_cut, spelt_front, spelt_from, no_words}
use Rattle.lines.proofs.Offered.{at_ok, at_err}
use Rattle.lines.proofs.first_line.Goals as goal

pub returns-in_err-line : goal.returns-in_err-line
returns-in_err-line c =
    let p = err_from_is_err_and c.from_residual.result c.from_residual.ensures.1 in
    rw (p.1, p.2) (λ _ a zs rest s. at_err _ _ _ _ _ c.next_line.ensures c.in_err-line.ensures.value (byte a ∷ flat_map word zs) rest (spelt_cut _ a zs rest s.whole))

pub returns-in_err-kind : goal.returns-in_err-kind
returns-in_err-kind c =
    let p = err_from_is_err_and c.from_residual-in_err-kind.result c.from_residual-in_err-kind.ensures.1 in
    let cut = at_ok _ _ _ _ _ c.next_line.ensures c.in_ok-line.ensures.value in
    rw (p.1, p.2) (λ _ a zs rest s. at_err _ _ _ _ _ c.kind_of.ensures c.in_err-kind.ensures.value (a, flat_map word zs, spelt_front _ _ _ a zs rest cut s))

pub returns-in_err-found : goal.returns-in_err-found
returns-in_err-found c =
    let p = err_from_is_err_and c.from_residual-in_err-found.result c.from_residual-in_err-found.ensures.1 in
    let cut = at_ok _ _ _ _ _ c.next_line.ensures c.in_ok-line.ensures.value in
    let kind = at_ok _ _ _ _ _ c.kind_of.ensures c.in_ok-kind.ensures.value in
    rw (p.1, p.2) (λ h a zs rest s.
    no_words _ _ a zs kind
    (λ ys w. c.in_err-found.ensures h ys (subst (λ l. Words l ys) (sym c.rest.ensures) w))
    s.short (spelt_front _ _ _ a zs rest cut s))

pub returns : goal.returns
returns c =
    let cut = at_ok _ _ _ _ _ c.next_line.ensures c.in_ok-line.ensures.value in
    let kind = at_ok _ _ _ _ _ c.kind_of.ensures c.in_ok-kind.ensures.value in
    spelt_from _ _ _ _ _ cut kind (subst (λ l. Words l (vec_items c.in_ok-found.found)) c.rest.ensures c.in_ok-found.ensures)
