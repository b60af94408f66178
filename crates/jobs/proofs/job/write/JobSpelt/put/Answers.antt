use Rattle.std.proofs.Common.{ℕ, List, ◌∷◌, ◌++◌, vec_items, decimal, ap, ◌∙◌, subst}
use Rattle.std.specs.List.{flat_map}
use Rattle.lines.specs.Spelling.{word}
use Rattle.jobs.specs.Puts.{Puts}
use Rattle.jobs.specs.Rings.{order_of}
use Rattle.jobs.specs.RowTexts.{line_text, label_text, subdivision_line_text, placed_text, tile_text}
use Rattle.jobs.proofs.Sheets.{then_puts}
use Rattle.jobs.proofs.job.write.JobSpelt.put.Goals as goal

-- the seven parts, one after the other
pub returns : goal.returns
returns c =
    let j = c.args.self.now in
    let s0 = c.args.sheet.now in
    let s1 = c.put_line.new.sheet in
    let s2 = c.put_line-2.new.sheet in
    let s3 = c.put_lines.new.sheet in
    let s4 = c.put_subdivisions.new.sheet in
    let s5 = c.put.new.sheet in
    let s6 = c.put_line-3.new.sheet in
    let end = c.put_lines-2.new.sheet in
    let r = c.put_lines-2.result in
    let t1 : List ℕ = line_text 82 (32 ∷ decimal (order_of j.ring)) in
    let t2 : List ℕ = line_text 73 (flat_map word (vec_items j.book.factor)) in
    let t3 : List ℕ = flat_map (λ l. line_text 76 (label_text l)) (vec_items j.book.labels) in
    let t4 : List ℕ = flat_map subdivision_line_text (vec_items j.book.labels) in
    let t5 : List ℕ = flat_map tile_text (vec_items j.book.tiles) in
    let t6 : List ℕ = line_text 68 (32 ∷ decimal j.depth) in
    let t7 : List ℕ = flat_map (λ p. line_text 80 (placed_text p)) (vec_items j.seeds) in
    let labels = c.in_ok-put_lines.ensures ∙ ap (λ ls. s2.items ++ flat_map (λ l. line_text 76 (label_text l)) ls) c.deref.ensures.value in
    let subdivisions = c.in_ok-put_subdivisions.ensures ∙ ap (λ ls. s3.items ++ flat_map subdivision_line_text ls) c.deref-2.ensures.value in
    let seeds : Puts s6 t7 end r = subst (λ ps. Puts s6 (flat_map (λ p. line_text 80 (placed_text p)) ps) end r) c.deref-3.ensures.value c.put_lines-2.ensures in
    then_puts s0 s1 end t1 (t2 ++ (t3 ++ (t4 ++ (t5 ++ (t6 ++ t7))))) r c.in_ok-put_line.ensures
    (then_puts s1 s2 end t2 (t3 ++ (t4 ++ (t5 ++ (t6 ++ t7)))) r c.in_ok-put_line-2.ensures
    (then_puts s2 s3 end t3 (t4 ++ (t5 ++ (t6 ++ t7))) r labels
    (then_puts s3 s4 end t4 (t5 ++ (t6 ++ t7)) r subdivisions
    (then_puts s4 s5 end t5 (t6 ++ t7) r c.in_ok-put.ensures
    (then_puts s5 s6 end t6 t7 r c.in_ok-put_line-3.ensures seeds)))))
