use Rattle.std.proofs.Common.{arith, drop, take, length, ◌-◌, ◌≡◌}
use Rattle.std.proofs.lemmas.Grind.{common_steps}
use Rattle.jd_source.proofs.Told.{appends_part}
use Rattle.jd_source.proofs.transfer.write_whole.Goals as goal

pub pieces-preserved : goal.pieces-preserved
pieces-preserved g c =
    let p = c.args.piece.now in
    let rest : take (length p - c.pieces.done) (drop c.pieces.done p) ≡ drop c.pieces.done p = grind (arith, common_steps) in (
      omega (arith, c.in_ok-count.ensures.bound),
      appends_part _ _ _ p c.pieces.done c.in_ok-count.count c.pieces.invariant.1 (rw rest at c.in_ok-count.ensures.bytes),
      omega (arith, c.in_ok-count.ensures.cause.later),
    )
