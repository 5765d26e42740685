use Rattle.std.proofs.Common.{◌∙◌}
use Rattle.jd_tree.proofs.Lists.{count_generators}
use Rattle.jd_tree.proofs.parts.generator_count.Goals as goal

pub returns : goal.returns
returns c = c.len.ensures ∙ count_generators c.args.generators.now.items
