-- Bytes are UTF-8, or stop being so at a place.
use Rattle.std.proofs.Common.{ℕ, zero, suc, ◌≡◌, ◌≤◌, ◌<◌, ◌⊎◌, List, [], length, take, refl, sym, subst, ◌∙◌, inl, inr, ⊎_elim, true≢false, arith, take_all}
use Rattle.std.proofs.lemmas.Bool.{cases_Bool, cases_lt}
use Rattle.std.proofs.lemmas.Str.{IsUtf8-from_is_utf8, is_utf8-from_IsUtf8}
use Rattle.std.specs.Str.{IsUtf8, IsValidUpTo, is_utf8}

-- no more of the first m bytes are UTF-8
abbrev IsLongest : List ℕ → ℕ → ℕ → Type 0
IsLongest bytes m n = IsUtf8 (take n bytes) × ((k : ℕ) → n < k → k ≤ m → IsUtf8 (take k bytes) → ⊥)

longest_front : (bytes : List ℕ) (m : ℕ) → (n : ℕ) × IsLongest bytes m n
longest_front bytes zero = (0, (([], (refl, refl)), λ k above within. absurd (omega arith)))
longest_front bytes (suc m) = ⊎_elim
    (λ yes. (suc m, (IsUtf8-from_is_utf8 (take (suc m) bytes) yes, λ k above within. absurd (omega arith))))
    (λ no.
    let rest = longest_front bytes m in (
      rest.0,
      (
        rest.1.0,
        λ k above within u. ⊎_elim
            (λ (top : m < k).
            let same : k ≡ suc m = omega arith in
            true≢false (sym (is_utf8-from_IsUtf8 (take (suc m) bytes) (subst (λ i. IsUtf8 (take i bytes)) same u)) ∙ no))
            (λ (low : k ≤ m). rest.1.1 k above low u)
            (cases_lt m k),
      ),
    ))
    (cases_Bool (is_utf8 (take (suc m) bytes)))

pub utf8_or_not : (bytes : List ℕ) → IsUtf8 bytes ⊎ ((n : ℕ) × IsValidUpTo bytes n)
utf8_or_not bytes =
    let front = longest_front bytes (length bytes) in
    ⊎_elim
    (λ (short : front.0 < length bytes). inr (
      front.0,
      record {
        short = short;
        front = front.1.0;
        longest = λ m above u. ⊎_elim
            (λ (past : length bytes < m). front.1.1 (length bytes) short (omega arith) (subst IsUtf8 (take_all m bytes (omega arith) ∙ sym (take_all (length bytes) bytes (omega arith))) u))
            (λ (within : m ≤ length bytes). front.1.1 m above within u)
            (cases_lt (length bytes) m);
      },
    ))
    (λ (whole : length bytes ≤ front.0). inl (subst IsUtf8 (take_all front.0 bytes whole) front.1.0))
    (cases_lt front.0 (length bytes))
