use Rattle.std.proofs.Common.{w64}
use Rattle.std.proofs.lemmas.Int.{wrapping_add_is}
use Rattle.jd_array.proofs.fold.Reducer.combine.Goals as goal

pub returns-in-Add : goal.returns-in-Add
returns-in-Add c = rw c.in-Add.is (wrapping_add_is w64 c.args.a c.args.b c.ranges.a c.ranges.b)
