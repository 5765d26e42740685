use Rattle.std.proofs.Common.{◌≡◌}
use Rattle.test_desk.proofs.turns.take_turns.Given as goal

abbrev pub invariant-loop-i : goal.invariant-loop-i
invariant-loop-i g l = l.seat.shares ≡ l.initial.seat.shares
