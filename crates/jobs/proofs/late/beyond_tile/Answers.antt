use Rattle.std.proofs.Common.{◌≡◌, ◌+◌, map, length, drop, vec_items, sym, ap, ◌∙◌, arith}
use Rattle.std.specs.List.{flat_map}
use Rattle.std.proofs.lemmas.List.{drop_all}
use Rattle.jobs.specs.Refusals.{first_beyond}
use Rattle.jobs.specs.Rows.{placed_of, tile_of}
use Rattle.jobs.specs.Spelled.{child_line, tile_lines}
use Rattle.std.specs.Option.{option_map}
use Rattle.jobs.proofs.Lates.{child_first, tile_length, tile_late, tile_fine, at_line}
use Rattle.jobs.proofs.late.beyond_tile.Goals as goal

pub returns-in-Some : goal.returns-in-Some
returns-in-Some c =
    let f = child_first (length c.args.tiles.now) (c.loop-tile.line + 1) c.as_slice-children.result.now in
    sym (c.loop-tile.invariant.0 ∙ tile_late _ _ _ (c.loop-tile.line + 1 + c.in-Some.child) _ c.tile-item.result c.loop-tile-test.true c.tile-item.is
    (ap (option_map (λ i. c.loop-tile.line + 1 + i)) c.in-Some.ensures ∙ sym f ∙ ap (λ t. first_beyond (length c.args.tiles.now) (c.loop-tile.line + 1) (map child_line (map placed_of t))) c.as_slice-children.ensures.value))

pub loop-tile-preserved : goal.loop-tile-preserved
loop-tile-preserved c =
    let x = c.tile-item.result in
    let n = tile_length _ _ x c.loop-tile-test.true c.tile-item.is in
    let e = ap length c.as_slice-children.ensures.value in
    let f = child_first (length c.args.tiles.now) (c.loop-tile.line + 1) c.as_slice-children.result.now in
    let k : c.loop-tile.line + (1 + length (vec_items x.children)) ≡ c.loop-tile.line + (1 + length c.as_slice-children.result.now) = omega arith in (
      c.loop-tile.invariant.0
          ∙ tile_fine _ _ _ _ x c.loop-tile-test.true c.tile-item.is (ap (option_map (λ i. c.loop-tile.line + 1 + i)) c.in_default.ensures ∙ sym f ∙ ap (λ t. first_beyond (length c.args.tiles.now) (c.loop-tile.line + 1) (map child_line (map placed_of t))) c.as_slice-children.ensures.value)
          ∙ at_line _ _ _ (flat_map tile_lines (map tile_of (drop (c.loop-tile.tile-index + 1) c.args.tiles.now))) k,
      omega (arith, c.loop-tile.invariant.1),
    )

pub returns : goal.returns
returns c = sym (c.loop-tile.invariant.0 ∙ ap (λ t. first_beyond (length c.args.tiles.now) c.loop-tile.line (flat_map tile_lines (map tile_of t))) (drop_all c.loop-tile.tile-index c.args.tiles.now c.loop-tile-test.false))
