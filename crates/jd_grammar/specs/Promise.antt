-- What reading the tokens of a script promises.
use Rattle.std.specs.Prelude.{ℕ, ◌≡◌, ◌≤◌, ◌<◌, ◌+◌, List, [], ◌++◌, length, take, slice_get, Option, Some, None, option_map, unwrap_or, false, IsTrue, nat_le, if◌then◌else◌}
use Rattle.jd_grammar.specs.declared.token.Token.{Token}
use Rattle.jd_grammar.specs.Kinds.{is_wide}
use Rattle.jd_grammar.specs.Script.{Block, put_block, outermost, IsBlock}
use Rattle.jd_grammar.specs.Reader.{Config, start, run, finish}
use Rattle.jd_grammar.specs.ScriptDepth.{depth, limit, needs}

-- the script is in the grammar, and written with these tokens
pub record Spells (ts : List Token) (s : Block) : Type 0 where
  pub grammar : IsBlock outermost s
  pub tokens : put_block s [] ≡ ts

-- and nests no deeper than the limit
abbrev pub SpellsWithin : List Token → Block → Type 0
SpellsWithin ts s = Spells ts s × (depth s ≤ limit)

-- Some tokens behind these make a script of them. Where those would stand is left open: the grammar asks for no place.
abbrev pub IsPrefix : List Token → Type 0
IsPrefix ts = (rest : List Token) × (s : Block) × Spells (ts ++ rest) s

-- and one that nests no deeper than the limit
abbrev pub IsPrefixWithin : List Token → Type 0
IsPrefixWithin ts = (rest : List Token) × (s : Block) × SpellsWithin (ts ++ rest) s

-- The tokens before k may become a script within the limit. With the one at k they may not, or there is none and they are no script.
pub record IsRefusedAt (ts : List Token) (k : ℕ) : Type 0 where
  pub inside : k ≤ length ts
  pub before : IsPrefixWithin (take k ts)
  pub after : k < length ts → IsPrefixWithin (take (k + 1) ts) → ⊥
  pub no_script : (s : Block) → SpellsWithin ts s → ⊥

-- the token at k is a number that is too large where it stands
pub record IsTooLargeAt (ts : List Token) (k : ℕ) : Type 0 where
  pub refused : IsRefusedAt ts k
  pub number : IsTrue (unwrap_or (option_map (λ (t : Token). is_wide t.kind) (slice_get ts k)) false)

-- The token at k nests too deep: without a limit the tokens up to it may become a script.
pub record IsTooDeepAt (ts : List Token) (k : ℕ) : Type 0 where
  pub refused : IsRefusedAt ts k
  pub there : k < length ts
  pub unlimited : IsPrefix (take (k + 1) ts)

-- The token at k has no place, whatever the limit, or the script ends where it may not.
pub record IsMisplacedAt (ts : List Token) (k : ℕ) : Type 0 where
  pub refused : IsRefusedAt ts k
  pub unlimited : k < length ts → IsPrefix (take (k + 1) ts) → ⊥

-- ---- the machine's answer

abbrev pub within_limit : Option Config → Option Block
within_limit None = None
within_limit (Some c) = if nat_le (needs c) limit then finish c else None

-- the script that the machine reads, where it reads one within the limit
abbrev pub reads : List Token → Option Block
reads ts = within_limit (run ts start)

-- ---- what holds of all tokens

-- tokens are written for one script
abbrev pub SpellOneScript : Type 0
SpellOneScript = (ts : List Token) (s u : Block) → Spells ts s → Spells ts u → s ≡ u

-- the machine reads exactly what the grammar spells
abbrev pub ReadsWhatIsSpelled : Type 0
ReadsWhatIsSpelled = (ts : List Token) (s : Block) → (reads ts ≡ Some s → SpellsWithin ts s) × (SpellsWithin ts s → reads ts ≡ Some s)

-- it goes on exactly as far as some script does
abbrev pub GoesAsFarAsScripts : Type 0
GoesAsFarAsScripts = (ts : List Token) →
    (IsPrefix ts → (c : Config) × (run ts start ≡ Some c)) × ((c : Config) → run ts start ≡ Some c → IsPrefix ts)

-- and within the limit
abbrev pub GoesAsDeepAsScripts : Type 0
GoesAsDeepAsScripts = (ts : List Token) →
    (IsPrefixWithin ts → (c : Config) × (run ts start ≡ Some c) × (needs c ≤ limit)) × ((c : Config) → run ts start ≡ Some c → needs c ≤ limit → IsPrefixWithin ts)

-- tokens are refused at one place
abbrev pub AreRefusedOnce : Type 0
AreRefusedOnce = (ts : List Token) (j k : ℕ) → IsRefusedAt ts j → IsRefusedAt ts k → j ≡ k
