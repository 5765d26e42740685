-- One more piece behind pieces that are joined.
use Rattle.std.proofs.Common.{◌≡◌, ℕ, ◌+◌, List, [], ◌∷◌, ◌++◌, map, length, flat_map, ap, sym, ◌∙◌, append_assoc, append-nil, suc, arith}
use Rattle.std.specs.List.{range_with_len}
use Rattle.std.proofs.lemmas.Grind.{common_steps, flat_map-append}
use Rattle.std.proofs.lemmas.List.FromFn.{map-range_with_len_more, length-map-range_with_len}
use Rattle.jd_value.specs.Joined.{joined, separator}

behind_another : (s : List ℕ) (n : ℕ) → separator s (suc n) ≡ s
behind_another s n = grind (arith, common_steps)

joined_more : (s : List ℕ) (xs : List (List ℕ)) (x : List ℕ) → joined s (xs ++ x ∷ []) ≡ joined s xs ++ (separator s (length xs) ++ x)
joined_more s [] x = append-nil x
joined_more s (y ∷ ys) x =
    let g : List ℕ → List ℕ = λ piece. s ++ piece in
    ap (λ (rest : List ℕ). y ++ rest) (flat_map-append g ys (x ∷ []) ∙ ap (λ (last : List ℕ). flat_map g ys ++ last) (append-nil (s ++ x)))
    ∙ sym (append_assoc y (flat_map g ys) (s ++ x))
    ∙ ap (λ (between : List ℕ). (y ++ flat_map g ys) ++ (between ++ x)) (sym (behind_another s (length ys)))

one_more : (s : List ℕ) (f : ℕ → List ℕ) (n : ℕ)
    → joined s (map f (range_with_len 0 (n + 1))) ≡ joined s (map f (range_with_len 0 n)) ++ (separator s n ++ f n)
one_more s f n =
    ap (joined s) (map-range_with_len_more f 0 n n (omega arith)) ∙ joined_more s (map f (range_with_len 0 n)) (f n)
    ∙ ap (λ (k : ℕ). joined s (map f (range_with_len 0 n)) ++ (separator s k ++ f n)) (length-map-range_with_len f 0 n)

-- a turn of a loop that adds a separator and a piece
pub add_one : {before middle after : List ℕ} (start s : List ℕ) (f : ℕ → List ℕ) (n : ℕ) → before ≡ start ++ joined s (map f (range_with_len 0 n))
    → middle ≡ before ++ separator s n → after ≡ middle ++ f n → after ≡ start ++ joined s (map f (range_with_len 0 (n + 1)))
add_one start s f n first second third =
    let pieces : List ℕ = joined s (map f (range_with_len 0 n)) in
    third ∙ ap (λ (x : List ℕ). x ++ f n) (second ∙ ap (λ (x : List ℕ). x ++ separator s n) first)
    ∙ append_assoc (start ++ pieces) (separator s n) (f n) ∙ append_assoc start pieces (separator s n ++ f n)
    ∙ ap (λ (x : List ℕ). start ++ x) (sym (one_more s f n))
