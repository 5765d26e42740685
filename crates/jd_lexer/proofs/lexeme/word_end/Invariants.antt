use Rattle.std.proofs.Common.{length, ◌-◌, ◌≡◌, ◌+◌, ◌≤◌, drop}
use Rattle.std.specs.List.{prefix_len}
use Rattle.jd_lexer.specs.Lexical.{is_word_byte}
use Rattle.jd_lexer.proofs.lexeme.word_end.Given as goal

abbrev pub invariant-loop-at : goal.invariant-loop-at
invariant-loop-at l = record {
  within : l.at ≤ length l.bytes;
  told : l.at + prefix_len is_word_byte (drop l.at l.bytes) ≡ l.start + prefix_len is_word_byte (drop l.start l.bytes);
}

abbrev pub decreases-loop-at : goal.decreases-loop-at
decreases-loop-at l = length l.bytes - l.at
