-- How long the pieces are into which a script is cut.
use Rattle.std.proofs.Common.{ℕ, zero, suc, ◌≡◌, ◌≤◌, ◌+◌, ◌-◌, ◌*◌, Bool, true, false, IsTrue, List, [], ◌∷◌, ◌++◌, length, take, drop, Option, Some, None, option_map, if◌then◌else◌, refl, sym, ap, subst, ◌∙◌, arith}
use Rattle.std.specs.Prelude.{not, ◌&&◌, ◌||◌, ◌==◌}
use Rattle.std.specs.List.{prefix_len, list_all}
use Rattle.std.proofs.lemmas.List.Sums.{prefix_len-le-length}
use Rattle.std.proofs.lemmas.Bool.Decides.{nat_tests}
use Rattle.jd_grammar.specs.declared.token.Kind.{Kind}
use Rattle.jd_grammar.specs.declared.token.Kind.TheVariants as kind
use Rattle.jd_lexer.specs.declared.lexeme.Lexeme.{Lexeme}
use Rattle.jd_lexer.specs.declared.lexeme.Lexeme.TheVariants as lexeme
use Rattle.jd_lexer.specs.Words.{word_kind}
use Rattle.jd_lexer.specs.Lexical.{is_digit, is_letter, is_word_byte, starts_with, starts_with_digit, number_at, number_lexeme, plain, name_len, word_len, comment_len, named, escaped, text_at, text_lexeme, pair_at, sign, sign_at, macro_at, lexeme_at, gap_at}
use Rattle.jd_lexer.specs.Cutting.{is_skipped}

-- no more than what is there, where it is something
abbrev pub Fits : ℕ → Option (Lexeme × ℕ) → Type 0
Fits m None = Unit {0}
Fits m (Some x) = x.1 ≤ m

number_fits : (v n m : ℕ) (bs : List ℕ) → n + length bs ≤ m → (number_at v n bs).1 ≤ m
number_fits v n m [] h = omega arith
number_fits v n m (b ∷ bs) h =
    elim (is_digit b) as (λ d. (if d then number_at (10 * v + (b - 48)) (n + 1) bs else (if b == 95 && starts_with_digit bs then number_at v (n + 1) bs else (v, n))).1 ≤ m) [
      | true ↦ number_fits (10 * v + (b - 48)) (n + 1) m bs (omega arith)
      | false ↦ elim (b == 95 && starts_with_digit bs) as (λ d. (if d then number_at v (n + 1) bs else (v, n)).1 ≤ m) [
        | true ↦ number_fits v (n + 1) m bs (omega arith)
        | false ↦ omega arith
      ]
    ]

starts_some : (b n : ℕ) (bs : List ℕ) → starts_with b (drop n bs) ≡ true → n + 1 ≤ length bs
starts_some b zero [] h = cc
starts_some b zero (x ∷ xs) h = omega arith
starts_some b (suc n) [] h = cc
starts_some b (suc n) (x ∷ xs) h = omega (arith, starts_some b n xs h)

name_fits : (bs : List ℕ) → name_len bs ≤ length bs
name_fits bs =
    let n = prefix_len is_word_byte bs in
    let p = prefix_len-le-length is_word_byte bs in
    elim (starts_with 33 (drop n bs)) as (λ d. starts_with 33 (drop n bs) ≡ d → (if d && not (starts_with 61 (drop (n + 1) bs)) then n + 1 else n) ≤ length bs) [
      | true ↦ λ e. let q = starts_some 33 n bs e in elim (not (starts_with 61 (drop (n + 1) bs))) as (λ d. (if d then n + 1 else n) ≤ length bs) [ true ↦ omega arith | false ↦ omega arith ]
      | false ↦ λ e. omega arith
    ] refl

abbrev TextFits : ℕ → Option (List ℕ × ℕ) → Type 0
TextFits m None = Unit {0}
TextFits m (Some x) = x.1 ≤ m

text_fits : (t : List ℕ) (n m : ℕ) (esc : Bool) (bs : List ℕ) → n + length bs ≤ m → TextFits m (text_at t n esc bs)
text_fits t n m esc [] h = tt
text_fits t n m true (b ∷ bs) h =
    elim (escaped b) as (λ e. TextFits m ((elim e as (λ x. List ℕ → (List ℕ → Option (List ℕ × ℕ)) → Option (List ℕ × ℕ)) [ None ↦ λ t' go. None | Some c ↦ λ t' go. go (t' ++ c ∷ []) ]) t (λ u. text_at u (n + 1) false bs))) [
      | None ↦ tt
      | Some c ↦ text_fits (t ++ c ∷ []) (n + 1) m false bs (omega arith)
    ]
text_fits t n m false (b ∷ bs) h =
    elim (b == 34) as (λ d. TextFits m (if d then Some (t, n + 1) else (if b == 92 then text_at t (n + 1) true bs else (if b == 10 || b == 36 then None else text_at (t ++ b ∷ []) (n + 1) false bs)))) [
      | true ↦ omega arith
      | false ↦ elim (b == 92) as (λ d. TextFits m (if d then text_at t (n + 1) true bs else (if b == 10 || b == 36 then None else text_at (t ++ b ∷ []) (n + 1) false bs))) [
        | true ↦ text_fits t (n + 1) m true bs (omega arith)
        | false ↦ elim (b == 10 || b == 36) as (λ d. TextFits m (if d then None else text_at (t ++ b ∷ []) (n + 1) false bs)) [
          | true ↦ tt
          | false ↦ text_fits (t ++ b ∷ []) (n + 1) m false bs (omega arith)
        ]
      ]
    ]

text_lexeme_fits : (m : ℕ) (x : Option (List ℕ × ℕ)) → TextFits m x → Fits m (option_map text_lexeme x)
text_lexeme_fits m None h = tt
text_lexeme_fits m (Some x) h = h

abbrev SignFits : ℕ → Option (Kind × ℕ) → Type 0
SignFits m None = Unit {0}
SignFits m (Some x) = x.1 ≤ m

plain_fits : (m : ℕ) (x : Option (Kind × ℕ)) → SignFits m x → Fits m (option_map plain x)
plain_fits m None h = tt
plain_fits m (Some x) h = h

single_fits : (m : ℕ) (x : Option Kind) → SignFits m (option_map (λ k. (k, 0)) x)
single_fits m None = tt
single_fits m (Some k) = omega arith

and_right : (x y : Bool) → x && y ≡ true → y ≡ true
and_right true y h = h
and_right false y h = cc

and_left : (x y : Bool) → x && y ≡ true → x ≡ true
and_left true y h = refl
and_left false y h = cc

pair_some : (a : ℕ) (bs : List ℕ) (k : Kind) → pair_at a bs ≡ Some k → 1 ≤ length bs
pair_some a [] k h = cc
pair_some a (b ∷ bs) k h = omega arith

sign_fits : (a : ℕ) (bs : List ℕ) → SignFits (length bs) (sign_at a bs)
sign_fits a bs =
    elim (a == 226) as (λ d. SignFits (length bs) (if d then (if starts_with 138 bs && starts_with 187 (drop 1 bs) then Some (kind.Xor, 2) else None)
    else ((elim (pair_at a bs) as (λ x. Option Kind → Option (Kind × ℕ)) [ None ↦ λ s. option_map (λ k. (k, 0)) s | Some k ↦ λ s. Some (k, 1) ]) (sign a)))) [
      | true ↦ elim (starts_with 138 bs && starts_with 187 (drop 1 bs)) as (λ d. starts_with 138 bs && starts_with 187 (drop 1 bs) ≡ d → SignFits (length bs) (if d then Some (kind.Xor, 2) else None)) [
        | true ↦ λ e. starts_some 187 1 bs (and_right (starts_with 138 bs) (starts_with 187 (drop 1 bs)) e)
        | false ↦ λ e. tt
      ] refl
      | false ↦ elim (pair_at a bs) as (λ y. pair_at a bs ≡ y → SignFits (length bs) ((elim y as (λ x. Option Kind → Option (Kind × ℕ)) [ None ↦ λ s. option_map (λ k. (k, 0)) s | Some k ↦ λ s. Some (k, 1) ]) (sign a))) [
        | None ↦ λ e. single_fits (length bs) (sign a)
        | Some k ↦ λ e. pair_some a bs k e
      ] refl
    ]

macro_fits : (m n : ℕ) (x : Option Kind) → n ≤ m → Fits m (option_map (λ k. (lexeme.Plain k, n)) x)
macro_fits m n None h = tt
macro_fits m n (Some k) h = h

pub lexeme_fits : (a : ℕ) (bs : List ℕ) → Fits (length bs) (lexeme_at a bs)
unfolding lexeme_at
lexeme_fits a bs =
    elim (is_digit a) as (λ d. Fits (length bs) (if d then Some (plain (number_lexeme (number_at (a - 48) 0 bs)))
    else (if is_letter a then (let n = name_len bs in Some (named (word_kind (take (n + 1) (a ∷ bs))), n)) else (if a == 64 then macro_at a bs else (if a == 34 then option_map text_lexeme (text_at [] 0 false bs) else option_map plain (sign_at a bs)))))) [
      | true ↦ number_fits (a - 48) 0 (length bs) bs (omega arith)
      | false ↦ elim (is_letter a) as (λ d. Fits (length bs) (if d then (let n = name_len bs in Some (named (word_kind (take (n + 1) (a ∷ bs))), n)) else (if a == 64 then macro_at a bs else (if a == 34 then option_map text_lexeme (text_at [] 0 false bs) else option_map plain (sign_at a bs))))) [
        | true ↦ name_fits bs
        | false ↦ elim (a == 64) as (λ d. Fits (length bs) (if d then macro_at a bs else (if a == 34 then option_map text_lexeme (text_at [] 0 false bs) else option_map plain (sign_at a bs)))) [
          | true ↦ macro_fits (length bs) (word_len bs) (word_kind (take (word_len bs + 1) (a ∷ bs))) (prefix_len-le-length is_word_byte bs)
          | false ↦ elim (a == 34) as (λ d. Fits (length bs) (if d then option_map text_lexeme (text_at [] 0 false bs) else option_map plain (sign_at a bs))) [
            | true ↦ text_lexeme_fits (length bs) (text_at [] 0 false bs) (text_fits [] 0 (length bs) false bs (omega arith))
            | false ↦ plain_fits (length bs) (sign_at a bs) (sign_fits a bs)
          ]
        ]
      ]
    ]

-- ---- blanks and comments

prefix_all : (p : ℕ → Bool) (bs : List ℕ) → list_all p (take (prefix_len p bs) bs) ≡ true
prefix_all p [] = refl
prefix_all p (b ∷ bs) = elim (p b) as (λ d. p b ≡ d → list_all p (take (if d then 1 + prefix_len p bs else 0) (b ∷ bs)) ≡ true) [
  | true ↦ λ e. let n : 1 + prefix_len p bs ≡ suc (prefix_len p bs) = omega arith in
      rw n (ap (λ d. d && list_all p (take (prefix_len p bs) bs)) e ∙ prefix_all p bs)
  | false ↦ λ e. refl
] refl

-- a blank or a comment, of which n bytes stand behind its first
abbrev pub IsGap : ℕ → List ℕ → Option ℕ → Type 0
IsGap a bs None = Unit {0}
IsGap a bs (Some n) = (n ≤ length bs) × IsTrue (is_skipped a (take n bs))

same : (a b : ℕ) → (a == b) ≡ true → a ≡ b
same a b h = grind (arith, nat_tests)

single : (b a : ℕ) (bs : List ℕ) → (a == b) ≡ true → IsTrue (is_skipped b []) → IsTrue (is_skipped a (take 0 bs))
single b a bs e h = subst (λ x. IsTrue (is_skipped x [])) (sym (same a b e)) h

blank : (a : ℕ) (bs : List ℕ) → (a == 32 || a == 9) ≡ true → IsTrue (is_skipped a (take 0 bs))
blank a bs h = elim (a == 32) as (λ d. (a == 32) ≡ d → (d || a == 9) ≡ true → IsTrue (is_skipped a (take 0 bs))) [
  | true ↦ λ e f. single 32 a bs e refl
  | false ↦ λ e f. single 9 a bs f refl
] refl h

comment : (a : ℕ) (bs : List ℕ) → (a == 35) ≡ true → IsTrue (is_skipped a (take (comment_len bs) bs))
comment a bs e = subst (λ x. IsTrue (is_skipped x (take (comment_len bs) bs))) (sym (same a 35 e)) (prefix_all (λ b. not (b == 10)) bs)

pub gap_ok : (q : Bool) (a : ℕ) (bs : List ℕ) → IsGap a bs (gap_at q a bs)
gap_ok q a bs =
    elim (a == 32 || a == 9) as (λ d. (a == 32 || a == 9) ≡ d → IsGap a bs (if d then Some 0 else (if a == 35 then Some (comment_len bs) else (if a == 13 && starts_with 10 bs then Some 0 else (if a == 10 && q then Some 0 else None))))) [
      | true ↦ λ e. (omega arith, blank a bs e)
      | false ↦ λ e. elim (a == 35) as (λ d. (a == 35) ≡ d → IsGap a bs (if d then Some (comment_len bs) else (if a == 13 && starts_with 10 bs then Some 0 else (if a == 10 && q then Some 0 else None)))) [
        | true ↦ λ f. (prefix_len-le-length (λ b. not (b == 10)) bs, comment a bs f)
        | false ↦ λ f. elim (a == 13 && starts_with 10 bs) as (λ d. a == 13 && starts_with 10 bs ≡ d → IsGap a bs (if d then Some 0 else (if a == 10 && q then Some 0 else None))) [
          | true ↦ λ g. (omega arith, single 13 a bs (and_left (a == 13) (starts_with 10 bs) g) refl)
          | false ↦ λ g. elim (a == 10 && q) as (λ d. a == 10 && q ≡ d → IsGap a bs (if d then Some 0 else None)) [
            | true ↦ λ h. (omega arith, single 10 a bs (and_left (a == 10) q h) refl)
            | false ↦ λ h. tt
          ] refl
        ] refl
      ] refl
    ] refl
