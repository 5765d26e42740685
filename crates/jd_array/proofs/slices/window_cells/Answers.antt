use Rattle.std.proofs.Common.{◌∙◌}
use Rattle.jd_array.proofs.Picked.{rows_inside}
use Rattle.jd_array.proofs.slices.window_cells.Goals as goal

pub picked_cells-requires-clause-inside : goal.picked_cells-requires-clause-inside
picked_cells-requires-clause-inside c =
    rows_inside c.args.dims.now c.args.picks.now c.args.cells.now _ c.requires.windows c.requires.dims.some c.requires.whole (c.as_slice.ensures.value ∙ c.in_ok-rows.ensures)
