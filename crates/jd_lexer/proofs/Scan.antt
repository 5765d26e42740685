-- The loop over a script's bytes.
use Rattle.std.proofs.Common.{ℕ, zero, suc, ◌≡◌, ◌≤◌, ◌<◌, ◌+◌, true, false, List, [], ◌∷◌, ◌++◌, length, get_or, take, drop, Option, Some, None, if◌then◌else◌, sym, ap, ◌∙◌, arith, length-drop, length-append}
use Rattle.std.specs.Prelude.{◌||◌, nat_lt}
use Rattle.std.specs.List.{list_any}
use Rattle.std.specs.Str.{bytes_eq}
use Rattle.std.proofs.lemmas.List.{drop-drop, drop_all}
use Rattle.jd_grammar.specs.declared.token.Kind.{Kind}
use Rattle.jd_grammar.specs.declared.token.Kind.TheVariants as kind
use Rattle.jd_lexer.specs.declared.lexeme.Lexeme.{Lexeme}
use Rattle.jd_lexer.specs.declared.lexeme.Lexeme.TheVariants as lexeme
use Rattle.jd_lexer.specs.Words.{with_name}
use Rattle.jd_lexer.specs.Lexical.{opened, gap_at, lexeme_at, Lexed, IsWithin, with_gap, with_lexeme, next, scan}
use Rattle.jd_lexer.proofs.Numbers.{cut}

skip : (at n : ℕ) (s : Lexed) (bs : List ℕ) → n ≤ length bs → scan at n s bs ≡ scan (at + n) 0 s (drop n bs)
skip at zero s bs h = ap (λ x. scan x 0 s bs) (omega arith)
skip at (suc n) s [] h = absurd (omega arith)
skip at (suc n) s (b ∷ bs) h = skip (at + 1) n s bs (omega arith) ∙ ap (λ x. scan x 0 s (drop n bs)) (omega arith)

-- behind what stands at a place
skip_behind : (bytes : List ℕ) (at n : ℕ) (s : Lexed) → at + 1 + n ≤ length bytes → scan (at + 1) n s (drop (at + 1) bytes) ≡ scan (at + 1 + n) 0 s (drop (at + 1 + n) bytes)
skip_behind bytes at n s h =
    skip (at + 1) n s (drop (at + 1) bytes) (omega (arith, length-drop (at + 1) bytes)) ∙ ap (scan (at + 1 + n) 0 s) (drop-drop n (at + 1) bytes)

scan_next : (bytes : List ℕ) (at : ℕ) (s : Lexed) → at < length bytes
    → scan at 0 s (drop at bytes) ≡ next at s (get_or bytes at 0 ∷ drop (at + 1) bytes) (gap_at (nat_lt 0 s.nest || s.joined) (get_or bytes at 0) (drop (at + 1) bytes)) (lexeme_at (get_or bytes at 0) (drop (at + 1) bytes)) (λ n t. scan (at + 1) n t (drop (at + 1) bytes))
scan_next bytes at s h = ap (scan at 0 s) (cut bytes at h)

-- a blank or a comment
pub scan_gap : (bytes : List ℕ) (at n : ℕ) (s : Lexed) (all : Lexed × Option ℕ) → at < length bytes → at + 1 + n ≤ length bytes → Some n ≡ gap_at (nat_lt 0 s.nest || s.joined) (get_or bytes at 0) (drop (at + 1) bytes)
    → scan at 0 s (drop at bytes) ≡ all → scan (at + 1 + n) 0 (with_gap s) (drop (at + 1 + n) bytes) ≡ all
scan_gap bytes at n s all h w g told =
    sym (skip_behind bytes at n (with_gap s) w)
    ∙ ap (λ x. next at s (get_or bytes at 0 ∷ drop (at + 1) bytes) x (lexeme_at (get_or bytes at 0) (drop (at + 1) bytes)) (λ n t. scan (at + 1) n t (drop (at + 1) bytes))) g
    ∙ sym (scan_next bytes at s h) ∙ told

-- a token
pub scan_token : (bytes : List ℕ) (at n : ℕ) (s t : Lexed) (x : Lexeme) (text : List ℕ) (all : Lexed × Option ℕ) → at < length bytes → at + 1 + n ≤ length bytes
    → None ≡ gap_at (nat_lt 0 s.nest || s.joined) (get_or bytes at 0) (drop (at + 1) bytes)
    → Some (x, n) ≡ lexeme_at (get_or bytes at 0) (drop (at + 1) bytes)
    → text ≡ take (n + 1) (get_or bytes at 0 ∷ drop (at + 1) bytes)
    → t ≡ with_lexeme s x at text
    → scan at 0 s (drop at bytes) ≡ all → scan (at + 1 + n) 0 t (drop (at + 1 + n) bytes) ≡ all
scan_token bytes at n s t x text all h w g l e q told =
    ap (λ u. scan (at + 1 + n) 0 u (drop (at + 1 + n) bytes)) (q ∙ ap (with_lexeme s x at) e)
    ∙ sym (skip_behind bytes at n (with_lexeme s x at (take (n + 1) (get_or bytes at 0 ∷ drop (at + 1) bytes))) w)
    ∙ ap (λ y. next at s (get_or bytes at 0 ∷ drop (at + 1) bytes) None y (λ n t. scan (at + 1) n t (drop (at + 1) bytes))) l
    ∙ ap (λ y. next at s (get_or bytes at 0 ∷ drop (at + 1) bytes) y (lexeme_at (get_or bytes at 0) (drop (at + 1) bytes)) (λ n t. scan (at + 1) n t (drop (at + 1) bytes))) g
    ∙ sym (scan_next bytes at s h) ∙ told

-- no token begins there
pub scan_bad : (bytes : List ℕ) (at : ℕ) (s : Lexed) (all : Lexed × Option ℕ) → at < length bytes
    → None ≡ gap_at (nat_lt 0 s.nest || s.joined) (get_or bytes at 0) (drop (at + 1) bytes)
    → None ≡ lexeme_at (get_or bytes at 0) (drop (at + 1) bytes)
    → scan at 0 s (drop at bytes) ≡ all → (s, Some at) ≡ all
scan_bad bytes at s all h g l told =
    ap (λ y. next at s (get_or bytes at 0 ∷ drop (at + 1) bytes) None y (λ n t. scan (at + 1) n t (drop (at + 1) bytes))) l
    ∙ ap (λ y. next at s (get_or bytes at 0 ∷ drop (at + 1) bytes) y (lexeme_at (get_or bytes at 0) (drop (at + 1) bytes)) (λ n t. scan (at + 1) n t (drop (at + 1) bytes))) g
    ∙ sym (scan_next bytes at s h) ∙ told

pub scan_end : (bytes : List ℕ) (at : ℕ) (s : Lexed) (all : Lexed × Option ℕ) → length bytes ≤ at → scan at 0 s (drop at bytes) ≡ all → (s, None) ≡ all
scan_end bytes at s all h told = sym (ap (scan at 0 s) (drop_all at bytes h)) ∙ told

-- ---- the counts

opened_le : (k : Kind) (n : ℕ) → opened k n ≤ n + 1
opened_le kind.OpenParen n = omega arith
opened_le kind.OpenBracket n = omega arith
opened_le kind.CloseParen n = omega arith
opened_le kind.CloseBracket n = omega arith
opened_le _ n = omega arith

name_le : (names : List (List ℕ)) (name : List ℕ) → length (with_name names name) ≤ length names + 1
name_le names name = elim (list_any (bytes_eq name) names) as (λ b. length (if b then names else names ++ name ∷ []) ≤ length names + 1) [ true ↦ omega arith | false ↦ omega (arith, length-append names (name ∷ [])) ]

pub within_more : (s : Lexed) (x : Lexeme) (at m : ℕ) (text : List ℕ) → IsWithin s at → at + 1 ≤ m → IsWithin (with_lexeme s x at text) m
within_more s (lexeme.Plain k) at m text w h = let o = opened_le k s.nest in record { texts = omega arith; names = omega arith; nest = omega arith }
within_more s (lexeme.Text t) at m text w h = record { texts = omega (arith, length-append s.texts (t ∷ [])); names = omega arith; nest = omega arith }
within_more s lexeme.Name at m text w h = let n = name_le s.names text in record { texts = omega arith; names = omega arith; nest = omega arith }

pub within_later : (s : Lexed) (n m : ℕ) → IsWithin s n → n ≤ m → IsWithin (with_gap s) m
within_later s n m w h = record { texts = omega arith; names = omega arith; nest = omega arith }
