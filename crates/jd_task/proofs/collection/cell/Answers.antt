use Rattle.std.proofs.Common.{arith}
use Rattle.std.proofs.lemmas.Grind.{common_steps}
use Rattle.std.proofs.lemmas.Int.{to_z-of_z}
use Rattle.jd_task.proofs.Collected.{at_numbers}
use Rattle.jd_task.proofs.collection.cell.Goals as goal

pub returns-then-at-cells : goal.returns-then-at-cells
returns-then-at-cells c = (omega arith, grind (arith, common_steps, to_z-of_z, at_numbers))
