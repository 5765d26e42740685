use Rattle.std.proofs.Common.{length, ◌-◌, ◌≡◌, ◌≤◌, drop}
use Rattle.jd_lexer.specs.Lexical.{number_at}
use Rattle.jd_lexer.proofs.Numbers.{capped}
use Rattle.jd_lexer.proofs.lexeme.number_at.Given as goal

abbrev pub invariant-loop-at : goal.invariant-loop-at
invariant-loop-at l = record {
  behind : l.start ≤ l.at;
  within : l.at ≤ length l.bytes;
  told : capped (number_at l.value (l.at - l.start) (drop l.at l.bytes)) ≡ capped (number_at (l.first - 48) 0 (drop l.start l.bytes));
}

abbrev pub decreases-loop-at : goal.decreases-loop-at
decreases-loop-at l = length l.bytes - l.at
