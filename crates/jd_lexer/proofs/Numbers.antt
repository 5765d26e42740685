-- A number whose value is kept up to a bound.
use Rattle.std.proofs.Common.{ℕ, ◌≡◌, ◌<◌, ◌+◌, ◌-◌, ◌*◌, min, true, false, List, [], ◌∷◌, length, get_or, drop, if◌then◌else◌, sym, ap, ◌∙◌, arith, add-one, drop-cons}
use Rattle.std.specs.Prelude.{◌==◌, ◌&&◌}
use Rattle.std.proofs.lemmas.Bool.Decides.{nat_tests}
use Rattle.std.proofs.lemmas.List.{drop-drop}
use Rattle.jd_lexer.specs.Lexical.{is_digit, starts_with_digit, number_at, number_kind, wide}

pub cut : (bytes : List ℕ) (at : ℕ) → at < length bytes → drop at bytes ≡ get_or bytes at 0 ∷ drop (at + 1) bytes
cut bytes at h = drop-cons bytes at 0 h ∙ ap (λ x. get_or bytes at 0 ∷ drop x bytes) (sym (add-one at))

pub drop_one : (bytes : List ℕ) (at : ℕ) → drop 1 (drop at bytes) ≡ drop (at + 1) bytes
drop_one bytes at = drop-drop 1 at bytes

abbrev pub capped : ℕ × ℕ → ℕ × ℕ
capped x = (min x.0 wide, x.1)

cap_at : (v w n : ℕ) (bs : List ℕ) → min v wide ≡ min w wide → capped (number_at v n bs) ≡ capped (number_at w n bs)
cap_at v w n [] h = ap (λ x. (x, n)) h
cap_at v w n (b ∷ bs) h =
    elim (is_digit b) as (λ d. capped (if d then number_at (10 * v + (b - 48)) (n + 1) bs else (if b == 95 && starts_with_digit bs then number_at v (n + 1) bs else (v, n)))
    ≡ capped (if d then number_at (10 * w + (b - 48)) (n + 1) bs else (if b == 95 && starts_with_digit bs then number_at w (n + 1) bs else (w, n)))) [
      | true ↦ cap_at (10 * v + (b - 48)) (10 * w + (b - 48)) (n + 1) bs (omega arith)
      | false ↦ elim (b == 95 && starts_with_digit bs) as (λ d. capped (if d then number_at v (n + 1) bs else (v, n)) ≡ capped (if d then number_at w (n + 1) bs else (w, n))) [
        | true ↦ cap_at v w (n + 1) bs h
        | false ↦ ap (λ x. (x, n)) h
      ]
    ]

pub kind_same : (v w : ℕ) → min v wide ≡ min w wide → number_kind v ≡ number_kind w
kind_same v w h = grind (arith, nat_tests)

-- a digit more
number_step : (bytes : List ℕ) (at n v w : ℕ) → at < length bytes → is_digit (get_or bytes at 0) ≡ true → w ≡ min (10 * v + (get_or bytes at 0 - 48)) wide
    → capped (number_at v n (drop at bytes)) ≡ capped (number_at w (n + 1) (drop (at + 1) bytes))
number_step bytes at n v w h d e =
    ap (λ bs. capped (number_at v n bs)) (cut bytes at h)
    ∙ ap (λ b. capped (if b then number_at (10 * v + (get_or bytes at 0 - 48)) (n + 1) (drop (at + 1) bytes) else (if get_or bytes at 0 == 95 && starts_with_digit (drop (at + 1) bytes) then number_at v (n + 1) (drop (at + 1) bytes) else (v, n)))) d
    ∙ cap_at (10 * v + (get_or bytes at 0 - 48)) w (n + 1) (drop (at + 1) bytes) (omega arith)

-- a `_` between two digits
number_skip : (bytes : List ℕ) (at n v : ℕ) → at < length bytes → is_digit (get_or bytes at 0) ≡ false → get_or bytes at 0 ≡ 95 → starts_with_digit (drop (at + 1) bytes) ≡ true
    → number_at v n (drop at bytes) ≡ number_at v (n + 1) (drop (at + 1) bytes)
number_skip bytes at n v h d e s =
    let f : (get_or bytes at 0 == 95) ≡ true = ap (λ b. b == 95) e in
    ap (number_at v n) (cut bytes at h)
    ∙ ap (λ b. if b then number_at (10 * v + (get_or bytes at 0 - 48)) (n + 1) (drop (at + 1) bytes) else (if get_or bytes at 0 == 95 && starts_with_digit (drop (at + 1) bytes) then number_at v (n + 1) (drop (at + 1) bytes) else (v, n))) d
    ∙ ap (λ b. if b && starts_with_digit (drop (at + 1) bytes) then number_at v (n + 1) (drop (at + 1) bytes) else (v, n)) f
    ∙ ap (λ b. if b then number_at v (n + 1) (drop (at + 1) bytes) else (v, n)) s

-- one turn of the loop over a number
pub digit_told : (bytes : List ℕ) (at n k v w : ℕ) (all : ℕ × ℕ) → at < length bytes → is_digit (get_or bytes at 0) ≡ true → w ≡ min (10 * v + (get_or bytes at 0 - 48)) wide → k ≡ n + 1
    → capped (number_at v n (drop at bytes)) ≡ all → capped (number_at w k (drop (at + 1) bytes)) ≡ all
digit_told bytes at n k v w all h d e q told = ap (λ x. capped (number_at w x (drop (at + 1) bytes))) q ∙ sym (number_step bytes at n v w h d e) ∙ told

pub skip_told : (bytes : List ℕ) (at n k v w : ℕ) (all : ℕ × ℕ) → at < length bytes → is_digit (get_or bytes at 0) ≡ false → get_or bytes at 0 ≡ 95 → starts_with_digit (drop (at + 1) bytes) ≡ true → w ≡ v → k ≡ n + 1
    → capped (number_at v n (drop at bytes)) ≡ all → capped (number_at w k (drop (at + 1) bytes)) ≡ all
skip_told bytes at n k v w all h d e s p q told = rw (p, q) (ap capped (sym (number_skip bytes at n v h d e s)) ∙ told)
