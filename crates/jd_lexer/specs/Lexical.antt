-- The tokens of a script's bytes, each where it stands.
use Rattle.std.specs.Prelude.{ℕ, zero, suc, ◌≤◌, ◌+◌, ◌-◌, ◌*◌, ◌^◌, Bool, true, false, not, ◌&&◌, ◌||◌, List, [], ◌∷◌, ◌++◌, length, take, drop, Option, Some, None, option_map, nat_le, nat_lt, ◌==◌, if◌then◌else◌}
use Rattle.std.specs.List.{prefix_len}
use Rattle.jd_grammar.specs.declared.token.Token.{Token}
use Rattle.jd_grammar.specs.declared.token.Kind.{Kind}
use Rattle.jd_grammar.specs.declared.token.Kind.TheVariants as kind
use Rattle.jd_grammar.specs.declared.token.Name.TheVariants as name
use Rattle.jd_lexer.specs.declared.lexeme.Lexeme.{Lexeme}
use Rattle.jd_lexer.specs.declared.lexeme.Lexeme.TheVariants as lexeme
use Rattle.jd_lexer.specs.Words.{word_kind, number_in, with_name}

-- ---- bytes

abbrev pub is_digit : ℕ → Bool
is_digit b = nat_le 48 b && nat_le b 57

-- a letter or `_`
abbrev pub is_letter : ℕ → Bool
is_letter b = (nat_le 97 b && nat_le b 122) || ((nat_le 65 b && nat_le b 90) || b == 95)

abbrev pub is_word_byte : ℕ → Bool
is_word_byte b = is_letter b || is_digit b

abbrev pub starts_with : ℕ → List ℕ → Bool
starts_with b [] = false
starts_with b (x ∷ xs) = x == b

abbrev pub starts_with_digit : List ℕ → Bool
starts_with_digit [] = false
starts_with_digit (x ∷ xs) = is_digit x

-- ---- what stands at a place, and how many bytes it has behind its first

-- The number that goes on so behind n bytes with the value v, and all its bytes. A `_` stands between two digits.
abbrev pub number_at : ℕ → ℕ → List ℕ → ℕ × ℕ
number_at v n [] = (v, n)
number_at v n (b ∷ bs) =
    if is_digit b then number_at (10 * v + (b - 48)) (n + 1) bs
    else (if b == 95 && starts_with_digit bs then number_at v (n + 1) bs else (v, n))

-- a greater number counts as this
abbrev pub wide : ℕ
wide = 2 ^ 63 + 1

abbrev pub number_kind : ℕ → Kind
number_kind v = if nat_lt v (2 ^ 63) then kind.Number v else kind.Wide (v == 2 ^ 63)

-- how many bytes of a name stand there: letters, digits and `_`, and one `!` where no `=` follows
abbrev pub name_len : List ℕ → ℕ
name_len bs = let n = prefix_len is_word_byte bs in
    if starts_with 33 (drop n bs) && not (starts_with 61 (drop (n + 1) bs)) then n + 1 else n

-- how many bytes of a line stand there
abbrev pub comment_len : List ℕ → ℕ
comment_len bs = prefix_len (λ b. not (b == 10)) bs

-- what an escape stands for: `\n`, `\t`, `\\`, `\"` and `\$`
abbrev pub escaped : ℕ → Option ℕ
escaped b =
    if b == 110 then Some 10
    else (if b == 116 then Some 9
    else (if b == 92 || (b == 34 || b == 36) then Some b else None))

-- The text that goes on so behind n bytes that are read as t, and all its bytes with the closing quote. A backslash
-- stands before it where esc is true.
abbrev pub text_at : List ℕ → ℕ → Bool → List ℕ → Option (List ℕ × ℕ)
text_at t n esc [] = None
text_at t n true (b ∷ bs) = text_on (escaped b) t (λ u. text_at u (n + 1) false bs)
  where
    text_on : Option ℕ → List ℕ → (List ℕ → Option (List ℕ × ℕ)) → Option (List ℕ × ℕ)
    text_on None t go = None
    text_on (Some c) t go = go (t ++ c ∷ [])
text_at t n false (b ∷ bs) =
    if b == 34 then Some (t, n + 1)
    else (if b == 92 then text_at t (n + 1) true bs
    else (if b == 10 || b == 36 then None
    else text_at (t ++ b ∷ []) (n + 1) false bs))

-- signs of two bytes
unfoldable pub pair_sign : ℕ → ℕ → Option Kind
pair_sign a b =
    if b == 61 then sign_with_equals a
    else (if a == 45 && b == 62 then Some kind.Arrow
    else (if a == 38 && b == 38 then Some kind.AndAlso
    else (if a == 124 && b == 124 then Some kind.OrElse
    else (if a == 195 && b == 183 then Some kind.Divide
    else None))))
  where
    -- `+=`, `-=`, `*=`, `==`, `!=`, `<=`, `>=`
    sign_with_equals : ℕ → Option Kind
    sign_with_equals a =
        if a == 43 then Some kind.PlusAssign
        else (if a == 45 then Some kind.MinusAssign
        else (if a == 42 then Some kind.StarAssign
        else (if a == 61 then Some kind.Equal
        else (if a == 33 then Some kind.Unequal
        else (if a == 60 then Some kind.LessEqual
        else (if a == 62 then Some kind.GreaterEqual
        else None))))))

-- signs of one byte
unfoldable pub sign : ℕ → Option Kind
sign a =
    if a == 10 then Some kind.LineEnd
    else (if a == 33 then Some kind.Not
    else (if a == 37 then Some kind.Percent
    else (if a == 38 then Some kind.And
    else (if a == 40 then Some kind.OpenParen
    else (if a == 41 then Some kind.CloseParen
    else (if a == 42 then Some kind.Star
    else (if a == 43 then Some kind.Plus
    else (if a == 44 then Some kind.Comma
    else (if a == 45 then Some kind.Minus
    else (if a == 58 then Some kind.Colon
    else (if a == 59 then Some kind.Semicolon
    else (if a == 60 then Some kind.Less
    else (if a == 61 then Some kind.Assign
    else (if a == 62 then Some kind.Greater
    else (if a == 63 then Some kind.Question
    else (if a == 91 then Some kind.OpenBracket
    else (if a == 93 then Some kind.CloseBracket
    else (if a == 123 then Some kind.OpenBrace
    else (if a == 124 then Some kind.Or
    else (if a == 125 then Some kind.CloseBrace
    else (if a == 126 then Some kind.Complement
    else None)))))))))))))))))))))

abbrev pub pair_at : ℕ → List ℕ → Option Kind
pair_at a [] = None
pair_at a (b ∷ bs) = pair_sign a b

-- a sign of two bytes goes before one of the first alone; `⊻` has three
abbrev pub sign_at : ℕ → List ℕ → Option (Kind × ℕ)
sign_at a bs =
    if a == 226 then (if starts_with 138 bs && starts_with 187 (drop 1 bs) then Some (kind.Xor, 2) else None)
    else longer (pair_at a bs) (sign a)
  where
    longer : Option Kind → Option Kind → Option (Kind × ℕ)
    longer (Some k) s = Some (k, 1)
    longer None s = option_map (λ k. (k, 0)) s

abbrev pub plain : Kind × ℕ → Lexeme × ℕ
plain x = (lexeme.Plain x.0, x.1)

abbrev pub number_lexeme : ℕ × ℕ → Kind × ℕ
number_lexeme x = (number_kind x.0, x.1)

-- a word that has a meaning, or another name
abbrev pub named : Option Kind → Lexeme
named None = lexeme.Name
named (Some k) = lexeme.Plain k

abbrev pub text_lexeme : List ℕ × ℕ → Lexeme × ℕ
text_lexeme x = (lexeme.Text x.0, x.1)

abbrev pub word_len : List ℕ → ℕ
word_len bs = prefix_len is_word_byte bs

-- the name of a macro
abbrev pub macro_at : ℕ → List ℕ → Option (Lexeme × ℕ)
macro_at a bs = let n = word_len bs in option_map (λ k. (lexeme.Plain k, n)) (word_kind (take (n + 1) (a ∷ bs)))

-- the token that begins with the byte a, as far as its kind of beginning goes on, and how many bytes it has behind that
unfoldable pub lexeme_at : ℕ → List ℕ → Option (Lexeme × ℕ)
lexeme_at a bs =
    if is_digit a then Some (plain (number_lexeme (number_at (a - 48) 0 bs)))
    else (if is_letter a then (let n = name_len bs in Some (named (word_kind (take (n + 1) (a ∷ bs))), n))
    else (if a == 64 then macro_at a bs
    else (if a == 34 then option_map text_lexeme (text_at [] 0 false bs)
    else option_map plain (sign_at a bs))))

-- ---- blanks

-- Whether the line that ends behind such a token goes on: it is a binary operator, `,`, `->`, `?`, `:` or `=`.
abbrev pub joins : Kind → Bool
joins kind.Plus = true
joins kind.Minus = true
joins kind.Star = true
joins kind.Divide = true
joins kind.Percent = true
joins kind.And = true
joins kind.Or = true
joins kind.Xor = true
joins kind.Equal = true
joins kind.Unequal = true
joins kind.Less = true
joins kind.LessEqual = true
joins kind.Greater = true
joins kind.GreaterEqual = true
joins kind.AndAlso = true
joins kind.OrElse = true
joins kind.Comma = true
joins kind.Arrow = true
joins kind.Question = true
joins kind.Colon = true
joins kind.Assign = true
joins _ = false

-- how many parentheses and brackets are open behind a token
abbrev pub opened : Kind → ℕ → ℕ
opened kind.OpenParen n = n + 1
opened kind.OpenBracket n = n + 1
opened kind.CloseParen n = n - 1
opened kind.CloseBracket n = n - 1
opened _ n = n

-- How many bytes a blank or a comment has behind its first byte a. The end of a line is a blank where blank_end is true.
abbrev pub gap_at : Bool → ℕ → List ℕ → Option ℕ
gap_at blank_end a bs =
    if a == 32 || a == 9 then Some 0
    else (if a == 35 then Some (comment_len bs)
    else (if a == 13 && starts_with 10 bs then Some 0
    else (if a == 10 && blank_end then Some 0
    else None)))

-- ---- the whole script

-- what was read so far
pub record Lexed : Type 0 where
  pub tokens : List Token
  pub texts : List (List ℕ)
  pub names : List (List ℕ)
  -- how many parentheses and brackets are open
  pub nest : ℕ
  -- whether a line that ends now goes on
  pub joined : Bool
  -- whether a blank, the end of a line or a comment was read last
  pub spaced : Bool

abbrev pub start : Lexed
start = record { tokens = []; texts = []; names = []; nest = 0; joined = false; spaced = false }

abbrev pub is_line_end : Kind → Bool
is_line_end kind.LineEnd = true
is_line_end _ = false

abbrev pub with_gap : Lexed → Lexed
with_gap s = record s { spaced = true }

-- a token of this kind, from one place to another
abbrev pub with_token : Lexed → Kind → ℕ → ℕ → Lexed
with_token s k from to = record s {
  tokens = s.tokens ++ record { kind = k; start = from; end = to; spaced = s.spaced } ∷ [];
  nest = opened k s.nest;
  joined = joins k;
  spaced = is_line_end k;
}

-- the token of these bytes, at a place
abbrev pub with_lexeme : Lexed → Lexeme → ℕ → List ℕ → Lexed
with_lexeme s (lexeme.Plain k) at bytes = with_token s k at (at + length bytes)
with_lexeme s (lexeme.Text t) at bytes =
    with_token (record s { texts = s.texts ++ t ∷ [] }) (kind.Text (length s.texts)) at (at + length bytes)
with_lexeme s lexeme.Name at bytes =
    with_token (record s { names = with_name s.names bytes }) (kind.Name (name.Other (number_in s.names bytes))) at (at + length bytes)

-- none of the counts is above n
pub record IsWithin (s : Lexed) (n : ℕ) : Type 0 where
  pub texts : length s.texts ≤ n
  pub names : length s.names ≤ n
  pub nest : s.nest ≤ n

-- What is read at a place whose bytes are these: a blank or a comment, else a token, else nothing, and then the place
-- is told. The rest goes on behind so many bytes more.
abbrev pub next : ℕ → Lexed → List ℕ → Option ℕ → Option (Lexeme × ℕ) → (ℕ → Lexed → Lexed × Option ℕ) → Lexed × Option ℕ
next at s bytes (Some n) x go = go n (with_gap s)
next at s bytes None (Some x) go = go x.1 (with_lexeme s x.0 at (take (x.1 + 1) bytes))
next at s bytes None None go = (s, Some at)

-- What is read from a place on, of which the first `skip` bytes belong to what was read before.
abbrev pub scan : ℕ → ℕ → Lexed → List ℕ → Lexed × Option ℕ
scan at skip s [] = (s, None)
scan at (suc skip) s (b ∷ bs) = scan (at + 1) skip s bs
scan at zero s (b ∷ bs) = next at s (b ∷ bs) (gap_at (nat_lt 0 s.nest || s.joined) b bs) (lexeme_at b bs) (λ n t. scan (at + 1) n t bs)

-- what is read of a whole script, and the place where no token begins, if there is one
abbrev pub lexed : List ℕ → Lexed × Option ℕ
lexed bytes = scan 0 0 start bytes
