-- Where bytes that spell no script are refused, and why.
use Rattle.std.specs.Prelude.{◌≡◌, ℕ, ◌+◌, ◌≤◌, ◌<◌, ◌==◌, ◌⊎◌, List, length, take, count_by, slice_get, Some, None, option_map, unwrap_or}
use Rattle.std.specs.Str.{IsValidUpTo}
use Rattle.jd_grammar.specs.declared.token.Token.{Token}
use Rattle.jd_grammar.specs.Promise.{IsPrefixWithin, IsTooLargeAt, IsTooDeepAt, IsMisplacedAt}
use Rattle.jd_lexer.specs.Lexical.{lexed}
use Rattle.jd_syntax.specs.declared.fault.ParseKind.{ParseKind}
use Rattle.jd_syntax.specs.declared.fault.ParseKind.TheVariants as kind
use Rattle.jd_syntax.specs.Spelling.{Script, max_script, IsText, Spells}

-- The tokens are refused at the one of this number, or at the end behind them all. The kind is the first that holds: the
-- number there is too large; only the nesting limit is in the way; with that token, or that end, it is no script.
abbrev pub IsRefusedToken : ParseKind → List Token → ℕ → Type 0
IsRefusedToken kind.WideNumber ts n = IsTooLargeAt ts n
IsRefusedToken kind.TooDeep ts n = IsTooDeepAt ts n × (IsTooLargeAt ts n → ⊥)
IsRefusedToken kind.Form ts n = IsMisplacedAt ts n × (IsTooLargeAt ts n → ⊥)
IsRefusedToken _ ts n = ⊥

-- where the token of this number begins, or the end behind them all
abbrev pub place_of : List Token → ℕ → ℕ → ℕ
place_of ts n end = unwrap_or (option_map (λ (t : Token). t.start) (slice_get ts n)) end

-- The place is that of a token, or the end of a script that is tokens throughout.
pub record IsRefusedAt (bytes : List ℕ) (kind : ParseKind) (at : ℕ) : Type 0 where
  pub number : ℕ
  pub refused : IsRefusedToken kind (lexed bytes).0.tokens number
  pub place : at ≡ place_of (lexed bytes).0.tokens number (length bytes)
  pub end : number ≡ length (lexed bytes).0.tokens → (lexed bytes).1 ≡ None

-- The bytes are refused for this reason at this place, in bytes from the beginning. Length goes before encoding, and
-- that before the first place up to which the tokens are no beginning of a script. There no token begins, or the token
-- there is refused.
abbrev pub IsRefused : List ℕ → ParseKind → ℕ → Type 0
IsRefused bytes kind.TooLong at = (max_script < length bytes) × (at ≡ 0)
IsRefused bytes kind.Bytes at = (length bytes ≤ max_script) × IsValidUpTo bytes at
IsRefused bytes kind.Token at = IsText bytes × ((lexed bytes).1 ≡ Some at) × IsPrefixWithin (lexed bytes).0.tokens
IsRefused bytes k at = IsText bytes × IsRefusedAt bytes k at

-- The line of a place, counted from 1: one more than there are line ends before it.
abbrev pub line_behind : List ℕ → ℕ
line_behind before = 1 + count_by (λ b. b == 10) before

abbrev pub line_at : List ℕ → ℕ → ℕ
line_at bytes at = line_behind (take at bytes)

-- ---- what holds of all bytes

abbrev pub AreRefusedOnce : Type 0
AreRefusedOnce = (bytes : List ℕ) (k l : ParseKind) (m n : ℕ) → IsRefused bytes k m → IsRefused bytes l n → (k ≡ l) × (m ≡ n)

abbrev pub AreNotBoth : Type 0
AreNotBoth = (bytes : List ℕ) (s : Script) (k : ParseKind) (n : ℕ) → Spells bytes s → IsRefused bytes k n → ⊥

abbrev pub AreSpelledOrRefused : Type 0
AreSpelledOrRefused = (bytes : List ℕ) → ((s : Script) × Spells bytes s) ⊎ ((k : ParseKind) × (n : ℕ) × IsRefused bytes k n)
