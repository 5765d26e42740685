use Rattle.std.proofs.Common.{length, ap, ◌∙◌}
use Rattle.jd_layout.proofs.Folding.{folded_parts}
use Rattle.jd_layout.proofs.laws.parts_fold_to_whole.Goals as goal

pub returns : goal.returns
returns c =
    folded_parts c.args._op c.args.whole.now c.args.layout.now.dist (c.dims.ensures.valid.dist.lengths ∙ ap length c.requires) c.dims.ensures.valid.dist.counts
    c.dims-2.ensures.valid.whole
