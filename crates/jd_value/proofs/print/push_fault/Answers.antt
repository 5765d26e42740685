use Rattle.std.proofs.Common.{arith}
use Rattle.std.proofs.lemmas.Grind.{common_steps}
use Rattle.jd_value.proofs.Parts.{whole}
use Rattle.jd_value.proofs.print.push_fault.Goals as goal

pub returns : goal.returns
returns c = rw (← (whole c.args.fault.now)) (grind (arith, common_steps))
