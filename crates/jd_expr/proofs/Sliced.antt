-- Parts of ranges that are within them.
use Rattle.std.proofs.Common.{◌≡◌, ℕ, ◌+◌, ◌≤◌, pos, ◌≤ℤ◌, Bool, true, false, ap, ◌∙◌, ◌↔◌, arith, rules, if◌then◌else◌}
use Rattle.std.specs.Prelude.{IsTrue}
use Rattle.std.proofs.lemmas.Grind.{common_steps}
use Rattle.std.proofs.lemmas.Int.{ints}
use Rattle.jd_value.specs.Array.{offset}
use Rattle.jd_value.specs.Span.{Ends, IsSpan, span_length}
use Rattle.jd_value.specs.declared.fault.Fault.TheVariants.{Bounds}
use Rattle.jd_array.proofs.Spans.{some_from_test}
use Rattle.jd_expr.specs.Action.{Failed, fail}
use Rattle.jd_expr.specs.Collections.{list_made}
use Rattle.jd_expr.specs.Indexing.{is_within, part, part_made}
use Rattle.jd_expr.specs.Ranges.{range_items}
use Rattle.jd_expr.proofs.Spanned.{length_items}

abbrev pub HasRoom : Ends → ℕ → Type 0
HasRoom span size = (pos 1 ≤ℤ span.first) × (1 ≤ span_length span) × (offset span.first + span_length span ≤ size)

-- a range with numbers, that are all from 1 to the size
pub room : (span : Ends) (size : ℕ) → IsSpan span → 1 ≤ span_length span → is_within span size ≡ true → HasRoom span size
room span size ordered some within =
    let order = ordered.ordered in
    let from : pos 1 ≤ℤ span.first = first_of (grind (arith, common_steps), grind (arith, ints), search rules) in
    let to : span.last ≤ℤ pos size = first_of (grind (arith, common_steps), grind (arith, ints), search rules) in
    (from, some, omega (arith, ints))

pub room_in : (span : Ends) (size : ℕ) (empty : Bool) → (IsTrue empty ↔ (span_length span ≡ 0)) → empty ≡ false → IsSpan span → IsTrue (is_within span size)
    → HasRoom span size
room_in span size empty test not ordered within = room span size ordered (some_from_test (span_length span) empty test.1 not) within

-- a part of a range, where it is within the range or not
pub part_outside : (span ends : Ends) (n : ℕ) → is_within span (span_length ends) ≡ false → part_made span (range_items ends) n ≡ Failed Bounds n
unfolding part_made
part_outside span ends n outside =
    ap (λ (size : ℕ). (if is_within span size then list_made (part span (range_items ends)) else fail Bounds) n) (length_items ends)
    ∙ ap (λ (b : Bool). (if b then list_made (part span (range_items ends)) else fail Bounds) n) outside

pub part_inside : (span ends : Ends) (n : ℕ) → is_within span (span_length ends) ≡ true
    → part_made span (range_items ends) n ≡ list_made (part span (range_items ends)) n
unfolding part_made
part_inside span ends n inside =
    ap (λ (size : ℕ). (if is_within span size then list_made (part span (range_items ends)) else fail Bounds) n) (length_items ends)
    ∙ ap (λ (b : Bool). (if b then list_made (part span (range_items ends)) else fail Bounds) n) inside
