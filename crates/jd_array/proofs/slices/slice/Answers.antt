use Rattle.std.proofs.Common.{length, sym, ap, ◌∙◌}
use Rattle.std.proofs.lemmas.List.{length-map}
use Rattle.jd_value.specs.Array.{product, cell_at}
use Rattle.jd_array.specs.Slice.{picked_indexes}
use Rattle.jd_array.proofs.Picked.{product_picked}
use Rattle.jd_array.proofs.slices.slice.Goals as goal

pub new-requires : goal.new-requires
new-requires c =
    ap product c.dims_of.ensures ∙ product_picked c.args.picks.now
    ∙ sym (length-map (picked_indexes c.args.picks.now) (cell_at c.args.array.now)) ∙ sym (ap length c.in_ok-cells.ensures) ∙ sym c.in_ok-cells.cells.ok.0
