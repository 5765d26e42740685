use Rattle.std.proofs.Common.{◌≡◌, pos, ◌+ℤ◌, ◌≤ℤ◌, ap, arith, rules, w64, to_z, of_z}
use Rattle.std.proofs.lemmas.Int.{ints}
use Rattle.jd_value.specs.Array.{offset}
use Rattle.jd_value.specs.Span.{Ends, span_length}
use Rattle.jd_expr.proofs.Sliced.{room_in}
use Rattle.jd_expr.proofs.Spanned.{range_part, empty_part, same_count}
use Rattle.jd_expr.proofs.indexing.span_part.Goals as goal

pub returns-then-is_empty : goal.returns-then-is_empty
returns-then-is_empty c =
    empty_part c.args.part.now c.args.span.now c.new.result (c.is_empty.ensures.0 c.if-is_empty.true) (ap span_length c.new.ensures)

pub overflow_cast-last : goal.overflow_cast-last
overflow_cast-last c =
    let room = room_in c.args.part.now (span_length c.args.span.now) c.is_empty.result c.is_empty.ensures c.if-is_empty.false c.first.ensures.ordered c.requires in
    let from : pos 1 ≤ℤ c.last.result = omega (arith, ints, room.0, room.1, room.2) in
    search (rules, ints)

pub number_at-last-requires : goal.number_at-last-requires
number_at-last-requires c =
    let room = room_in c.args.part.now (span_length c.args.span.now) c.is_empty.result c.is_empty.ensures c.if-is_empty.false c.first.ensures.ordered c.requires in
    omega (arith, ints, room.0, room.1, room.2)

pub new-requires-2 : goal.new-requires-2
new-requires-2 c =
    let room = room_in c.args.part.now (span_length c.args.span.now) c.is_empty.result c.is_empty.ensures c.if-is_empty.false c.first.ensures.ordered c.requires in
    record { ordered = omega (arith, ints, room.0, room.1, room.2) }

pub returns : goal.returns
returns c =
    let room = room_in c.args.part.now (span_length c.args.span.now) c.is_empty.result c.is_empty.ensures c.if-is_empty.false c.first.ensures.ordered c.requires in
    let first : c.new-2.result.first ≡ to_z w64 (of_z w64 c.number_at-first.result) = ap (λ (s : Ends). s.first) c.new-2.ensures in
    let last : c.new-2.result.last ≡ to_z w64 (of_z w64 c.number_at-last.result) = ap (λ (s : Ends). s.last) c.new-2.ensures in
    let from : c.new-2.result.first ≡ c.args.span.now.first +ℤ pos (offset c.args.part.now.first) = omega (arith, ints, room.0, room.1, room.2) in
    let to : c.new-2.result.last ≡ c.args.span.now.first +ℤ pos (offset c.args.part.now.last) = omega (arith, ints, room.0, room.1, room.2) in
    range_part c.args.part.now c.args.span.now c.new-2.result room.2 from
    (same_count c.args.part.now c.new-2.result c.args.span.now.first room.0 room.1 c.first.ensures.ordered from to)
