use Rattle.std.proofs.Common.{◌≡◌, ◌≢◌, ℕ, [], ◌∷◌, ◌++◌, List, Some, None, sym, ap, subst, MatchOption}
use Rattle.std.proofs.lemmas.Bool.Decides.{Decides-eqb}
use Rattle.std.proofs.lemmas.Slice.Eq.{strip_prefix_is}
use Rattle.calls.specs.Records.{piece_view, laid_view, row_view}
use Rattle.files.specs.Files.{place_bytes}
use Rattle.saves.proofs.Widths.{laid_bytes, aside_bytes}
use Rattle.saves.proofs.Fronts.{after_head, head_wrong}
use Rattle.saves.proofs.matching.after_row.Goals as goal

pub returns-in_err-rest-in-Some : goal.returns-in_err-rest-in-Some
returns-in_err-rest-in-Some g c =
    let E = g.R.Ring.exact in
    let piece = piece_view E g.R.Ring.listed c.in-Some.piece in
    let head = c.laid_byte.result ∷ c.turn_byte.result ∷ [] in
    let whole = laid_bytes E (row_view E g.R.Ring.listed c.args.row.now) piece c.laid_byte.result c.turn_byte.result (ap (laid_view E g.R.Ring.listed) c.in-Some.is) c.laid_byte.ensures c.turn_byte.ensures in
    rw c.from_residual.ensures (head_wrong c.args.bytes.now head (place_bytes E piece.place) _ whole (strip_prefix_is Decides-eqb c.args.bytes.now head None c.in_err-rest-in-Some.ensures.cases))

pub returns-in-None : goal.returns-in-None
returns-in-None g c =
    let E = g.R.Ring.exact in
    let whole = aside_bytes E (row_view E g.R.Ring.listed c.args.row.now) c.aside_byte.result (ap (laid_view E g.R.Ring.listed) c.in-None.is) c.aside_byte.ensures in
    subst (λ p. MatchOption c.strip_prefix.result ((rest : List ℕ) → c.args.bytes.now ≢ p ++ rest) (λ rest. c.args.bytes.now ≡ p ++ rest.now)) (sym whole) (strip_prefix_is Decides-eqb c.args.bytes.now (c.aside_byte.result ∷ []) c.strip_prefix.result c.strip_prefix.ensures.cases)

pub returns-in_ok-rest-in-Some : goal.returns-in_ok-rest-in-Some
returns-in_ok-rest-in-Some g c =
    let E = g.R.Ring.exact in
    let piece = piece_view E g.R.Ring.listed c.in-Some.piece in
    let head = c.laid_byte.result ∷ c.turn_byte.result ∷ [] in
    let whole = laid_bytes E (row_view E g.R.Ring.listed c.args.row.now) piece c.laid_byte.result c.turn_byte.result (ap (laid_view E g.R.Ring.listed) c.in-Some.is) c.laid_byte.ensures c.turn_byte.ensures in
    after_head c.args.bytes.now head (place_bytes E piece.place) _ c.in_ok-rest-in-Some.rest.now whole (strip_prefix_is Decides-eqb c.args.bytes.now head (Some c.in_ok-rest-in-Some.rest) c.in_ok-rest-in-Some.ensures.cases) c.after_place.result c.after_place.ensures
