use Rattle.std.proofs.Common.{arith}
use Rattle.std.proofs.lemmas.Int.{ints}
use Rattle.jd_value.specs.Span.{span_length}
use Rattle.jd_array.proofs.Spans.{some_from_test, inside_by_ends, ends_inside}
use Rattle.jd_array.proofs.slices.is_span_inside.Goals as goal

pub returns-then-is_within : goal.returns-then-is_within
returns-then-is_within c =
    let some = some_from_test (span_length c.args.span.now) c.is_empty.result c.is_empty.ensures.1 c.if-is_empty.false in
    let front = c.is_within.ensures.0 c.if-is_within.true in (
      λ yes. let back = c.is_within-then-is_within.ensures.0 yes in
          inside_by_ends c.args.span.now c.args.size c.first.ensures.ordered (omega (arith, ints, front.0, c.first.ensures.value)) (omega (arith, ints, back.1, c.last.ensures.value)),
      λ inside. let ends = ends_inside c.args.span.now c.args.size c.first.ensures.ordered some inside in
          c.is_within-then-is_within.ensures.1 (omega (arith, ints, ends.1.0, c.last.ensures.value), omega (arith, ints, ends.1.1, c.last.ensures.value)),
    )

pub returns-else-is_within : goal.returns-else-is_within
returns-else-is_within c =
    let some = some_from_test (span_length c.args.span.now) c.is_empty.result c.is_empty.ensures.1 c.if-is_empty.false in (
      λ yes. Prim.cc,
      λ inside. let ends = ends_inside c.args.span.now c.args.size c.first.ensures.ordered some inside in
          c.is_within.ensures.1 (omega (arith, ints, ends.0.0, c.first.ensures.value), omega (arith, ints, ends.0.1, c.first.ensures.value)),
    )
