use Rattle.std.proofs.Common.{ℕ, List, ℤ, map, sym, subst, ap, ◌∙◌}
use Rattle.std.proofs.lemmas.Bool.{both_ways}
use Rattle.jd_value.specs.Array.{cell_at}
use Rattle.jd_array.specs.Places.{AreWindows}
use Rattle.jd_array.proofs.Picked.{nothing_picked, windows_inside, cells_found}
use Rattle.jd_array.proofs.slices.cells_at.Goals as goal

pub returns-then-not-are_some : goal.returns-then-not-are_some
returns-then-not-are_some c =
    c.new.ensures.items
    ∙ ap (λ (is : List (List ℤ)). map (cell_at c.args.array.now) is)
    (sym (nothing_picked c.args.picks.now (λ some. both_ways _ c.if-not-are_some.true (c.are_some.ensures.1 some))))

pub window_cells-requires-clause-windows : goal.window_cells-requires-clause-windows
window_cells-requires-clause-windows c =
    subst (λ (ds : List ℕ). AreWindows ds c.args.picks.now) (sym (c.as_slice.ensures.value ∙ c.dims.ensures.value))
    (windows_inside c.args.array.now.dims c.args.picks.now c.requires (c.are_some.ensures.0 c.if-not-are_some.false))

pub returns : goal.returns
returns c =
    let windows = windows_inside c.args.array.now.dims c.args.picks.now c.requires (c.are_some.ensures.0 c.if-not-are_some.false) in
    cells_found c.args.array.now c.args.picks.now _ _ c.window_cells.result windows (c.as_slice.ensures.value ∙ c.dims.ensures.value) c.cells.ensures.value c.window_cells.ensures
