use Rattle.std.proofs.Common.{length, ◌-◌, ◌≡◌, ◌≤◌, drop, false}
use Rattle.jd_lexer.specs.Lexical.{text_at}
use Rattle.jd_lexer.proofs.lexeme.read_text.Given as goal

abbrev pub invariant-loop-at : goal.invariant-loop-at
invariant-loop-at l = record {
  behind : l.start ≤ l.at;
  within : l.at ≤ length l.bytes;
  told : text_at l.text (l.at - l.start) l.escaping (drop l.at l.bytes) ≡ text_at l.fn.text 0 false (drop l.start l.bytes);
}

abbrev pub decreases-loop-at : goal.decreases-loop-at
decreases-loop-at l = length l.bytes - l.at
