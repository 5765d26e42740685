use Rattle.std.proofs.Common.{length, ap, ◌∙◌}
use Rattle.jd_layout.proofs.Gathering.{gathered_whole}
use Rattle.jd_layout.proofs.laws.gathered_is_whole.Goals as goal

pub returns : goal.returns
returns c = λ gathered parts.
    gathered_whole c.args.whole.now gathered c.args.layout.now.dist (c.dims.ensures.valid.dist.lengths ∙ ap length c.requires) c.dims.ensures.valid.dist.counts
    c.dims-2.ensures.valid.whole parts
