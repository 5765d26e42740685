-- Lists with too many elements.
use Rattle.std.proofs.Common.{◌≡◌, ℕ, ◌+◌, ◌<◌, [], ◌++◌, Bool, true, List, length, Result, Ok, Err, ap, sym, ◌∙◌, arith, if◌then◌else◌}
use Rattle.std.specs.Prelude.{nat_lt, ◌||◌, replicate}
use Rattle.std.proofs.lemmas.Grind.{common_steps}
use Rattle.std.proofs.lemmas.List.{length-replicate, length-append, append-nil}
use Rattle.jd_value.specs.Span.{Ends, span_length}
use Rattle.jd_value.specs.Sizes.{words, depth}
use Rattle.jd_value.specs.declared.fault.Fault.{Fault}
use Rattle.jd_value.specs.declared.fault.Fault.TheVariants.{Argument, Deep}
use Rattle.jd_value.specs.declared.value.Value.{Value, out-Value, out-roll-Value}
use Rattle.jd_value.specs.declared.value.Value.TheOpen as f
use Rattle.jd_value.specs.declared.value.Value.TheOpen.{Value-F}
use Rattle.jd_value.specs.declared.value.Value.TheVariants as v
use Rattle.jd_expr.specs.Action.{Failed, and_then, lift_to}
use Rattle.jd_expr.specs.Ranges.{range_items, listed, listed_at}
use Rattle.jd_expr.proofs.Spanned.{length_items}
use Rattle.jd_expr.specs.Limits.{element_count, element_count_at, within_limits, limits_of, made, answered, max_elements, max_words, max_depth}

pub out_list : (items : List Value) → out-Value (v.List items) ≡ f.List items
out_list items = ap out-Value (sym (v.rolls-List items)) ∙ out-roll-Value (f.List items)

beyond : (elements words depth : ℕ) → max_elements < elements → limits_of elements words depth ≡ Err Argument
beyond elements words depth more =
    let test : nat_lt max_elements elements ≡ true = grind (arith, common_steps, more) in
    ap (λ (b : Bool). if b || nat_lt max_words words then Err Argument else (if nat_lt max_depth depth then Err Deep else Ok tt)) test

pub too_many_in : (x : Value) (count n : ℕ) → element_count_at (out-Value x) ≡ count → max_elements < count → made x n ≡ Failed Argument n
unfolding made within_limits element_count
too_many_in x count n is more =
    ap (λ (r : Result (Unit {0}) Fault). and_then (lift_to n r) (λ _. answered x))
    (beyond (element_count_at (out-Value x)) (words x) (depth x) (omega (arith, is, more)))

pub too_many : (items : List Value) (n : ℕ) → max_elements < length items → made (v.List items) n ≡ Failed Argument n
too_many items n more = too_many_in (v.List items) (length items) n (ap element_count_at (out_list items)) more

pub too_many_numbers : (ends : Ends) (n : ℕ) → max_elements < span_length ends → made (v.List (range_items ends)) n ≡ Failed Argument n
too_many_numbers ends n more = too_many (range_items ends) n (omega (arith, more, length_items ends))

pub too_many_copies : (x : Value) (count n : ℕ) → max_elements < count → made (v.List (replicate count x)) n ≡ Failed Argument n
too_many_copies x count n more = too_many (replicate count x) n (omega (arith, more, length-replicate count x))

pub too_many_both : (xs ys : List Value) (n : ℕ) → max_elements < length xs + length ys → made (v.List (xs ++ ys)) n ≡ Failed Argument n
too_many_both xs ys n more = too_many (xs ++ ys) n (omega (arith, more, length-append xs ys))

pub listed_range : (ends : Ends) → length (listed (v.Range ends)) ≡ span_length ends
unfolding listed
listed_range ends =
    ap (λ (x : Value-F Value). length (listed_at x)) (ap out-Value (sym (v.rolls-Range ends)) ∙ out-roll-Value (f.Range ends)) ∙ length_items ends

pub nothing_added : (xs : List Value) → xs ++ [] ≡ xs
nothing_added xs = append-nil xs
