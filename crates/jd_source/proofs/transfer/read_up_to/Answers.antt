use Rattle.std.proofs.Common.{◌≤◌, ◌++◌, ◌+◌, length, take, arith, rules, length-append, length-take}
use Rattle.std.proofs.lemmas.Grind.{common_steps}
use Rattle.jd_source.proofs.Told.{consumes_more}
use Rattle.jd_source.proofs.transfer.read_up_to.Goals as goal

-- The bytes that were read and not kept were taken off too.
pub returns-in_err-extend_from_slice-clause-taken : goal.returns-in_err-extend_from_slice-clause-taken
returns-in_err-extend_from_slice-clause-taken g c =
    let last = take c.in-Ok.count c.read.new.buf in
    let short : length c.fill.bytes.items + length last ≤ c.args.limit =
    first_of (search rules, grind (arith, common_steps, length-take c.in-Ok.count c.read.new.buf, c.in-Ok.ensures.bound, c.fill.invariant.0, c.len.ensures, c.len-in-fill.ensures, c.min-room.ensures, c.fill.bytes.ok)) in
    (c.fill.bytes.items ++ last, rw (length-append c.fill.bytes.items last) short, consumes_more _ _ _ c.fill.bytes.items last c.fill.invariant.1 c.in-Ok.ensures.bytes.0)
