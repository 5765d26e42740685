use Rattle.std.proofs.Common.{◌≡◌, ◌≤◌, ℕ, length}
use Rattle.jd_engine.specs.Words.{at_most, number_of, digits_from}
use Rattle.jd_engine.proofs.words.number_up_to.Given as goal

abbrev pub invariant-loop-word : goal.invariant-loop-word
invariant-loop-word l = at_most l.most (number_of l.fn.word) ≡ at_most l.most (digits_from l.number l.word)

abbrev pub decreases-loop-word : goal.decreases-loop-word
decreases-loop-word l = length l.word
