-- Names that come one after the other.
use Rattle.std.proofs.Common.{◌≡◌, ℕ, suc, ◌+◌, ◌<◌, List, [], ◌∷◌, ◌++◌, length, drop, get_or, flat_map, Result, Ok, Err, refl, ap, sym, ◌∙◌, arith}
use Rattle.std.specs.Prelude.{OnOk}
use Rattle.std.proofs.Math.Seq.{drop-cons}
use Rattle.std.specs.Str.{bytes_eq}
use Rattle.indexmap.specs.IndexSet.{insert_key}
use Rattle.jd_task.specs.Bound.{with_names}
use Rattle.jd_task.specs.Names.{Texts}
use Rattle.jd_task.proofs.Uses.{bound_in_block, bound_in_arm, bound_in_if}

pub with_more : (members names more : Texts) → with_names members (names ++ more) ≡ with_names (with_names members names) more
with_more members [] more = refl
with_more members (name ∷ names) more = with_more (insert_key bytes_eq members name) names more

-- one more of a list
pub one_more : {X : Type 0} (f : X → Texts) (start members new : Texts) (xs : List X) (i : ℕ) (x : X) → i < length xs → x ≡ get_or xs i x
    → with_names start (flat_map f xs) ≡ with_names members (flat_map f (drop i xs)) → new ≡ with_names members (f x)
    → with_names start (flat_map f xs) ≡ with_names new (flat_map f (drop (i + 1) xs))
one_more f start members new xs i x h e so_far n =
    let rest = flat_map f (drop (suc i) xs) in
    let more : suc i ≡ i + 1 = omega arith in
    so_far ∙ ap (λ l. with_names members (flat_map f l)) (drop-cons xs i x h) ∙ ap (λ y. with_names members (f y ++ rest)) (sym e) ∙ with_more members (f x) rest
    ∙ ap (λ m. with_names m rest) (sym n) ∙ ap (λ k. with_names new (flat_map f (drop k xs))) more

-- names in three parts
pub three_parts : {A E : Type 0} (old first second third a b c whole : Texts) (r : Result A E) → whole ≡ a ++ (b ++ c) → first ≡ with_names old a → second ≡ with_names first b
    → OnOk r (third ≡ with_names second c) → OnOk r (third ≡ with_names old whole)
three_parts old first second third a b c whole (Ok u) w f s h =
    h ∙ ap (λ m. with_names m c) (s ∙ ap (λ m. with_names m b) f) ∙ sym (with_more (with_names old a) b c) ∙ sym (with_more old a (b ++ c)) ∙ ap (with_names old) (sym w)
three_parts old first second third a b c whole (Err e) w f s h = h

pub ruleset bound = (with_more, bound_in_block, bound_in_arm, bound_in_if)
