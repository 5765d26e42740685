use Rattle.std.proofs.Common.{arith}
use Rattle.std.proofs.lemmas.Grind.{common_steps}
use Rattle.std.proofs.lemmas.Int.{to_z-of_z}
use Rattle.jd_expr.proofs.Spanned.{number_more}
use Rattle.jd_expr.proofs.ranges.range_items.Goals as goal

pub loop-place-preserved : goal.loop-place-preserved
loop-place-preserved c = rw (number_more c.args.span.now.first c.loop-place.place) (grind (arith, common_steps, to_z-of_z))
