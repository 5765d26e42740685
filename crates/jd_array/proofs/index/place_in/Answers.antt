use Rattle.std.proofs.Common.{◌≡◌, ◌+◌, ◌-◌, ◌*◌, pos, get_or, arith, rules, SFits, w64, ap, ◌∙◌}
use Rattle.std.proofs.lemmas.Int.{ints, to_z-of_z}
use Rattle.jd_value.specs.Array.{offset}
use Rattle.jd_array.proofs.Inside.{inside_length, inside_before, place_before, place_fits}
use Rattle.jd_array.proofs.index.place_in.Goals as goal

pub bounds-index-axis : goal.bounds-index-axis
bounds-index-axis c = omega (arith, inside_length c.args.dims.now c.args.index.now c.requires.inside)

pub offset_of-requires : goal.offset_of-requires
offset_of-requires c =
    let here = inside_before c.args.dims.now c.args.index.now c.loop-axis.axis c.requires.inside (omega arith) (omega arith) in
    omega (arith, ints, here.0)

pub overflow_mul-place : goal.overflow_mul-place
overflow_mul-place c =
    let e = place_before c.args.dims.now c.args.index.now c.loop-axis.axis c.loop-axis.place c.requires.inside (omega arith) (omega arith) c.loop-axis.invariant in
    omega (arith, place_fits c.args.dims.now c.args.index.now (c.loop-axis.axis - 1) _ c.requires.inside e)

pub overflow_add-place : goal.overflow_add-place
overflow_add-place c =
    let fits : SFits w64 (get_or c.args.index.now (c.loop-axis.axis - 1) (pos 0)) = search rules in
    let step : c.offset_of.result ≡ offset (get_or c.args.index.now (c.loop-axis.axis - 1) (pos 0)) = simp to_z-of_z at c.offset_of.ensures in
    let e = place_before c.args.dims.now c.args.index.now c.loop-axis.axis c.loop-axis.place c.requires.inside (omega arith) (omega arith) c.loop-axis.invariant in
    omega (arith, step, place_fits c.args.dims.now c.args.index.now (c.loop-axis.axis - 1) _ c.requires.inside e)

pub loop-axis-preserved : goal.loop-axis-preserved
loop-axis-preserved c =
    let fits : SFits w64 (get_or c.args.index.now (c.loop-axis.axis - 1) (pos 0)) = search rules in
    let step : c.offset_of.result ≡ offset (get_or c.args.index.now (c.loop-axis.axis - 1) (pos 0)) = simp to_z-of_z at c.offset_of.ensures in
    ap (λ n. c.loop-axis.place * get_or c.args.dims.now (c.loop-axis.axis - 1) 0 + n) step
    ∙ place_before c.args.dims.now c.args.index.now c.loop-axis.axis c.loop-axis.place c.requires.inside (omega arith) (omega arith) c.loop-axis.invariant

pub returns-clause-below : goal.returns-clause-below
returns-clause-below c = place_fits c.args.dims.now c.args.index.now c.loop-axis.axis c.loop-axis.place c.requires.inside c.loop-axis.invariant
