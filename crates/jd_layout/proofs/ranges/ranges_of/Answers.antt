use Rattle.std.proofs.Common.{length, arith}
use Rattle.jd_layout.specs.Blocks.{part_ranges}
use Rattle.jd_layout.proofs.Axes.{ranges_length, lie_in_whole, taken_whole}
use Rattle.jd_layout.proofs.ranges.ranges_of.Goals as goal

pub invariant_of-result : goal.invariant_of-result
invariant_of-result c =
    lie_in_whole (part_ranges c.args.dims.now c.args.dist.now c.args.part) c.loop-axis.spans (length c.args.dims.now) c.loop-axis.axis
    (ranges_length c.args.dims.now c.args.dist.now c.args.part c.requires.lengths) (omega arith) c.requires.dims.some c.requires.dims.few c.loop-axis.invariant.done

pub returns : goal.returns
returns c =
    taken_whole (part_ranges c.args.dims.now c.args.dist.now c.args.part) c.loop-axis.spans (length c.args.dims.now) c.loop-axis.axis
    (ranges_length c.args.dims.now c.args.dist.now c.args.part c.requires.lengths) (omega arith) c.loop-axis.invariant.done
