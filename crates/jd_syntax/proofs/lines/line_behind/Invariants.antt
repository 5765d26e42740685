use Rattle.std.proofs.Common.{◌≡◌, ◌+◌, ◌≤◌, take}
use Rattle.jd_syntax.specs.Refusal.{line_behind}
use Rattle.jd_syntax.proofs.lines.line_behind.Given as goal

abbrev pub invariant-loop-byte : goal.invariant-loop-byte
invariant-loop-byte l = record {
  few : l.line ≤ l.byte-index + 1;
  told : l.line ≡ line_behind (take l.byte-index l.before);
}
