use Rattle.std.proofs.Common.{◌+◌, ◌-◌, sym, arith}
use Rattle.jd_lexer.proofs.Numbers.{digit_told, skip_told}
use Rattle.jd_lexer.proofs.lexeme.number_at.Goals as goal
use Rattle.jd_lexer.proofs.lexeme.number_at.Goals.{then-is_digit, else-is_digit+else-byte-ne95+else-not-starts_with_digit}

pub loop-at-preserved : goal.loop-at-preserved
loop-at-preserved c = record {
  behind = omega arith;
  within = omega arith;
  told = elim c.if-is_digit.branch [
    | then-is_digit w ↦ digit_told c.args.bytes.now c.loop-at.at (c.loop-at.at - c.args.start) (c.loop-at.at + 1 - c.args.start) c.loop-at.value c.if-is_digit.value _
        c.loop-at-test.true (sym w.if-is_digit.ensures) (rw w.value-is w.with_digit-value.ensures) (omega arith) c.loop-at.invariant.told
    | else-is_digit+else-byte-ne95+else-not-starts_with_digit w ↦ skip_told c.args.bytes.now c.loop-at.at (c.loop-at.at - c.args.start) (c.loop-at.at + 1 - c.args.start) c.loop-at.value c.if-is_digit.value _
        c.loop-at-test.true (sym w.if-is_digit.ensures) w.if-byte-ne95.false (sym w.if-not-starts_with_digit.ensures) w.value-is (omega arith) c.loop-at.invariant.told
  ];
}
