use Rattle.std.proofs.Common.{◌≡◌, [], ◌∷◌, length, sym, ap, ◌∙◌, arith, rules}
use Rattle.std.proofs.lemmas.Grind.{common_steps}
use Rattle.jd_value.specs.Array.{product}
use Rattle.jd_expr.proofs.Gridded.{product_cells}
use Rattle.jd_expr.proofs.grids.grid_array.Goals as goal

pub new-requires-2 : goal.new-requires-2
new-requires-2 c =
    let dims : c.unwrap-dims.result ≡ length c.args.rows.now ∷ c.args.width ∷ [] = first_of (search rules, grind (arith, common_steps)) in
    ap product dims ∙ product_cells c.args.rows.now c.args.width ∙ sym (ap length c.in_ok-cells.ensures) ∙ sym c.in_ok-cells.cells.ok.0
