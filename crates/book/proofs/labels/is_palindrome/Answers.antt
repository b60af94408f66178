use Rattle.std.proofs.Common.{map, sym, ◌∙◌, rules}
use mathlib.Core.List.{reverse}
use Rattle.std.proofs.lemmas.List.{length-map, length-reverse}
use Rattle.std.proofs.lemmas.Iterator.{YieldsList-from_slice, YieldsList-from_zip, same_from_all}
use Rattle.std.proofs.lemmas.Iterator.Adapters.{YieldsList-from_rev_slice}
use Rattle.edges.specs.Views.{book_view}
use Rattle.job_rows.specs.Shapes.{part_of}
use Rattle.book.proofs.Backwards.{seen, turned_row, tells_backwards}
use Rattle.book.proofs.labels.is_palindrome.Goals as goal

pub returns : goal.returns
returns g c =
    let E = g.R.Ring.exact in let B = book_view E g.R.Ring.value c.args.book.now in
    let row = c.args.parts.now in
    tells_backwards E B row _
    (same_from_all c.all.new.self _ c.all.result (map part_of row) (map (turned_row E B) (reverse row)) c.all.ensures.ran
    (YieldsList-from_zip (seen _ _ part_of row (YieldsList-from_slice row cc)) (seen _ _ (turned_row E B) (reverse row) (YieldsList-from_rev_slice row cc)))
    (length-map row part_of ∙ sym (length-reverse row) ∙ sym (length-map (reverse row) (turned_row E B)))
    (λ x q k. search rules) (λ x q k. search rules))
