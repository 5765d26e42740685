use Rattle.std.proofs.Common.{◌≡◌, ◌≤◌, ◌-◌, length, drop}
use Rattle.jd_lexer.specs.Lexical.{IsWithin, scan, lexed}
use Rattle.jd_lexer.specs.Lexing.{lexed_of}
use Rattle.jd_lexer.specs.Names.{AreNoWords}
use Rattle.jd_lexer.proofs.lexer.Lexer.read_all.Given as goal

-- what is left to read gives what all bytes give
abbrev pub invariant-loop-at : goal.invariant-loop-at
invariant-loop-at l = record {
  within : l.at ≤ length l.bytes;
  counts : IsWithin (lexed_of l.self) l.at;
  names : AreNoWords (lexed_of l.self).names;
  told : scan l.at 0 (lexed_of l.self) (drop l.at l.bytes) ≡ lexed l.bytes;
}

abbrev pub decreases-loop-at : goal.decreases-loop-at
decreases-loop-at l = length l.bytes - l.at
