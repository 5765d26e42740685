-- Names that were read before: none of them is a word.
use Rattle.std.proofs.Common.{ℕ, ◌≡◌, ◌≤◌, ◌<◌, ◌+◌, ◌-◌, true, false, List, [], ◌∷◌, ◌++◌, length, get_or, take, drop, Option, Some, None, if◌then◌else◌, option_map, refl, sym, ap, subst, ◌∙◌, arith, length-drop}
use Rattle.std.specs.Prelude.{position, ◌==◌}
use Rattle.std.specs.List.{list_any, position_or_len}
use Rattle.std.specs.Str.{bytes_eq}
use Rattle.std.proofs.lemmas.Bool.Decides.{nat_tests}
use Rattle.std.proofs.lemmas.Grind.{common_steps}
use Rattle.std.proofs.lemmas.List.{length-take-le}
use Rattle.std.proofs.lemmas.List.Elements.{All-push}
use Rattle.std.proofs.lemmas.List.Folds.{list_any_at}
use Rattle.std.proofs.lemmas.List.Quantifiers.{position-Some}
use Rattle.std.proofs.lemmas.Slice.Eq.{bytes_eq-Decides}
use Rattle.jd_grammar.specs.declared.token.Kind.{Kind}
use Rattle.jd_grammar.specs.declared.token.Kind.TheVariants as kind
use Rattle.jd_grammar.specs.declared.token.Name.TheVariants as name
use Rattle.jd_lexer.specs.declared.lexeme.Lexeme.{Lexeme}
use Rattle.jd_lexer.specs.declared.lexeme.Lexeme.TheVariants as lexeme
use Rattle.jd_lexer.specs.Words.{word_kind, number_in, with_name}
use Rattle.jd_lexer.specs.Names.{AreNoWords}
use Rattle.jd_lexer.specs.Lexical.{Lexed, is_digit, is_letter, name_len, word_len, named, plain, number_at, number_lexeme, macro_at, text_at, text_lexeme, sign_at, lexeme_at, with_token, with_lexeme}

-- ---- what is known of a name that is among them

pub known_is_no_word : (names : List (List ℕ)) (text : List ℕ) (n : ℕ) → AreNoWords names → position (bytes_eq text) names ≡ Some n → word_kind text ≡ None
known_is_no_word names text n h e =
    let at = position-Some (bytes_eq text) names n [] e in
    let same : text ≡ get_or names n [] = (bytes_eq-Decides text (get_or names n [])).0 at.1 in
    ap word_kind same ∙ h n [] at.0

pub known_number_in : (names : List (List ℕ)) (text : List ℕ) (n : ℕ) → position (bytes_eq text) names ≡ Some n → n ≡ number_in names text
known_number_in names text n e =
    let at : position_or_len (bytes_eq text) names ≡ n = grind (arith, common_steps) in
    sym at

pub known_with_name : (names : List (List ℕ)) (text : List ℕ) (n : ℕ) → position (bytes_eq text) names ≡ Some n → names ≡ with_name names text
known_with_name names text n e =
    let at = position-Some (bytes_eq text) names n [] e in
    sym (ap (λ b. if b then names else names ++ text ∷ []) (list_any_at (bytes_eq text) names n [] at.0 at.1))

-- ---- what stands there

letter_is_no_digit : (a : ℕ) → is_letter a ≡ true → is_digit a ≡ false
letter_is_no_digit a h = grind (arith, nat_tests)

name_read : (a : ℕ) (bs : List ℕ) → is_letter a ≡ true → word_kind (take (name_len bs + 1) (a ∷ bs)) ≡ None → lexeme_at a bs ≡ Some (lexeme.Name, name_len bs)
unfolding lexeme_at
name_read a bs l w = rw (letter_is_no_digit a l, l) (ap (λ k. Some (named k, name_len bs)) w)

-- a name that is among them is read where it stands
pub known_read : (names : List (List ℕ)) (text : List ℕ) (n a more : ℕ) (bs : List ℕ) → AreNoWords names → position (bytes_eq text) names ≡ Some n
    → is_letter a ≡ true → more ≡ name_len bs → text ≡ take (more + 1) (a ∷ bs) → Some (lexeme.Name, more) ≡ lexeme_at a bs
known_read names text n a more bs h e l m t =
    let P : ℕ → Type 0 = λ k. word_kind (take (k + 1) (a ∷ bs)) ≡ None in
    let no_word : word_kind (take (more + 1) (a ∷ bs)) ≡ None = subst (λ x. word_kind x ≡ None) t (known_is_no_word names text n h e) in
    ap (λ k. Some (lexeme.Name, k)) m ∙ sym (name_read a bs l (subst P m no_word))

-- its token is that of its number, and adds no name
pub known_added : (s : Lexed) (text piece : List ℕ) (n at end : ℕ) → position (bytes_eq text) s.names ≡ Some n → text ≡ piece → at + length text ≡ end
    → with_token s (kind.Name (name.Other n)) at end ≡ with_lexeme s lexeme.Name at piece
known_added s text piece n at end e t len =
    ap (λ names. with_token (record s { names = names }) (kind.Name (name.Other n)) at end) (known_with_name s.names text n e)
    ∙ ap (λ m. with_token (record s { names = with_name s.names text }) (kind.Name (name.Other m)) at end) (known_number_in s.names text n e)
    ∙ ap (λ m. with_token (record s { names = with_name s.names text }) (kind.Name (name.Other (number_in s.names text))) at m) (sym len)
    ∙ ap (with_lexeme s lexeme.Name at) t

pub piece_len : (bytes : List ℕ) (at end : ℕ) → at < end → end ≤ length bytes → at + length (take (end - at) (get_or bytes at 0 ∷ drop (at + 1) bytes)) ≡ end
piece_len bytes at end some within =
    let long = length-drop (at + 1) bytes in
    let fits : end - at ≤ length (get_or bytes at 0 ∷ drop (at + 1) bytes) = omega arith in
    omega (arith, length-take-le (end - at) (get_or bytes at 0 ∷ drop (at + 1) bytes) fits)

abbrev name_at : ℕ → List ℕ → Lexeme × ℕ
name_at a bs = (named (word_kind (take (name_len bs + 1) (a ∷ bs))), name_len bs)

named_is_no_word : (k : Option Kind) → named k ≡ lexeme.Name → k ≡ None
named_is_no_word None h = refl
named_is_no_word (Some k) h = cc

-- the other lexemes are no names
abbrev IsNoName : Option (Lexeme × ℕ) → Type 0
IsNoName x = (n : ℕ) → x ≡ Some (lexeme.Name, n) → ⊥

name_of : (x : Lexeme × ℕ) (n : ℕ) → Some x ≡ Some (lexeme.Name, n) → x.0 ≡ lexeme.Name
name_of x n h =
    let named : Lexeme × ℕ = (lexeme.Name, n) in
    let same : x ≡ named = cc in
    ap (λ y. y.0) same

len_of : (x : Lexeme × ℕ) (n : ℕ) → Some x ≡ Some (lexeme.Name, n) → x.1 ≡ n
len_of x n h =
    let named : Lexeme × ℕ = (lexeme.Name, n) in
    let same : x ≡ named = cc in
    ap (λ y. y.1) same

plain_is_no_name : (x : Option (Kind × ℕ)) → IsNoName (option_map plain x)
plain_is_no_name None n h = cc
plain_is_no_name (Some x) n h = let e : lexeme.Plain x.0 ≡ lexeme.Name = name_of (plain x) n h in cc

kind_is_no_name : (x : Option Kind) (m : ℕ) → IsNoName (option_map (λ k. (lexeme.Plain k, m)) x)
kind_is_no_name None m n h = cc
kind_is_no_name (Some k) m n h = let e : lexeme.Plain k ≡ lexeme.Name = name_of (lexeme.Plain k, m) n h in cc

text_is_no_name : (x : Option (List ℕ × ℕ)) → IsNoName (option_map text_lexeme x)
text_is_no_name None n h = cc
text_is_no_name (Some x) n h = let e : lexeme.Text x.0 ≡ lexeme.Name = name_of (text_lexeme x) n h in cc

name_is_no_word : (a : ℕ) (bs : List ℕ) (n : ℕ) → Some (name_at a bs) ≡ Some (lexeme.Name, n) → word_kind (take (n + 1) (a ∷ bs)) ≡ None
name_is_no_word a bs n h =
    subst (λ m. word_kind (take (m + 1) (a ∷ bs)) ≡ None) (len_of (name_at a bs) n h) (named_is_no_word (word_kind (take (name_len bs + 1) (a ∷ bs))) (name_of (name_at a bs) n h))

no_word_read : (a : ℕ) (bs : List ℕ) (n : ℕ) → lexeme_at a bs ≡ Some (lexeme.Name, n) → word_kind (take (n + 1) (a ∷ bs)) ≡ None
unfolding lexeme_at
no_word_read a bs n =
    let Goal : Type 0 = word_kind (take (n + 1) (a ∷ bs)) ≡ None in
    let read : Option (Lexeme × ℕ) = Some (lexeme.Name, n) in
    let number : Option (Lexeme × ℕ) = option_map plain (Some (number_lexeme (number_at (a - 48) 0 bs))) in
    let text : Option (Lexeme × ℕ) = option_map text_lexeme (text_at [] 0 false bs) in
    let signs : Option (Lexeme × ℕ) = option_map plain (sign_at a bs) in
    elim (is_digit a) as (λ d. (if d then number else (if is_letter a then Some (name_at a bs) else (if a == 64 then macro_at a bs else (if a == 34 then text else signs)))) ≡ read → Goal) [
      | true ↦ λ h. absurd (plain_is_no_name (Some (number_lexeme (number_at (a - 48) 0 bs))) n h)
      | false ↦ elim (is_letter a) as (λ d. (if d then Some (name_at a bs) else (if a == 64 then macro_at a bs else (if a == 34 then text else signs))) ≡ read → Goal) [
        | true ↦ λ h. name_is_no_word a bs n h
        | false ↦ elim (a == 64) as (λ d. (if d then macro_at a bs else (if a == 34 then text else signs)) ≡ read → Goal) [
          | true ↦ λ h. absurd (kind_is_no_name (word_kind (take (word_len bs + 1) (a ∷ bs))) (word_len bs) n h)
          | false ↦ elim (a == 34) as (λ d. (if d then text else signs) ≡ read → Goal) [
            | true ↦ λ h. absurd (text_is_no_name (text_at [] 0 false bs) n h)
            | false ↦ λ h. absurd (plain_is_no_name (sign_at a bs) n h)
          ]
        ]
      ]
    ]

pub read_is_no_word : (a : ℕ) (bs : List ℕ) (x : Lexeme) (n : ℕ) → Some (x, n) ≡ lexeme_at a bs → x ≡ lexeme.Name → word_kind (take (n + 1) (a ∷ bs)) ≡ None
read_is_no_word a bs x n e l = no_word_read a bs n (sym e ∙ ap (λ y. Some (y, n)) l)

-- ---- the names stay so

with_name_no_words : (names : List (List ℕ)) (text : List ℕ) → AreNoWords names → word_kind text ≡ None → AreNoWords (with_name names text)
with_name_no_words names text h w =
    elim (list_any (bytes_eq text) names) as (λ b. AreNoWords (if b then names else names ++ text ∷ [])) [ true ↦ h | false ↦ All-push (λ n. word_kind n ≡ None) names text h w ]

pub with_lexeme_no_words : (s : Lexed) (x : Lexeme) (at : ℕ) (text : List ℕ) → AreNoWords s.names → (x ≡ lexeme.Name → word_kind text ≡ None) → AreNoWords (with_lexeme s x at text).names
with_lexeme_no_words s (lexeme.Plain k) at text h w = h
with_lexeme_no_words s (lexeme.Text t) at text h w = h
with_lexeme_no_words s lexeme.Name at text h w = with_name_no_words s.names text h (w refl)
