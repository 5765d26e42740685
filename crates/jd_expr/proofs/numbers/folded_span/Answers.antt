use Rattle.std.proofs.Common.{◌≡◌, ◌+◌, Some, ap, sym, ◌∙◌, arith}
use Rattle.std.proofs.lemmas.Grind.{common_steps}
use Rattle.std.proofs.lemmas.Int.{to_z-of_z}
use Rattle.jd_value.specs.Span.{span_length}
use Rattle.jd_array.proofs.Spans.{some_from_test}
use Rattle.jd_expr.proofs.Folded.{folded_some, folded_more, numbers_after}
use Rattle.jd_expr.proofs.numbers.folded_span.Goals as goal

pub loop-place-init : goal.loop-place-init
unfolding numbers_after
loop-place-init c = grind (arith, to_z-of_z)

pub loop-place-preserved : goal.loop-place-preserved
loop-place-preserved c =
    let step = folded_more c.args.op c.args.span.now.first c.args.span.now.first c.loop-place.place in
    first_of (grind (arith, to_z-of_z, step), grind (arith, common_steps, to_z-of_z, step))

pub returns : goal.returns
returns c =
    let some = some_from_test (span_length c.args.span.now) c.is_empty.result c.is_empty.ensures.1 c.if-is_empty.false in
    let count : span_length c.args.span.now ≡ c.loop-place.place + 1 = omega (arith, some) in
    ap Some c.loop-place.invariant ∙ sym (folded_some c.args.op c.args.span.now c.loop-place.place count)
