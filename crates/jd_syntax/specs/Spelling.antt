-- Which bytes spell which script.
use Rattle.std.specs.Prelude.{◌≡◌, ℕ, ◌≤◌, List, [], None, length}
use Rattle.std.specs.Str.{IsUtf8}
use Rattle.jd_grammar.specs.Script.{Block, put_block}
use Rattle.jd_grammar.specs.Promise.{SpellsWithin}
use Rattle.jd_lexer.specs.Lexical.{Lexed, lexed}
use Rattle.jd_lexer.specs.Cutting.{Cut}

-- a tree, and the texts and names to which its tokens refer by number
pub record Script : Type 0 where
  pub block : Block
  pub texts : List (List ℕ)
  pub names : List (List ℕ)

-- a block and what was read besides
abbrev pub script_with : Block → Lexed → Script
script_with b l = record { block = b; texts = l.texts; names = l.names }

-- how many bytes a script may have
abbrev pub max_script : ℕ
max_script = 1048576

-- text of a length that a script may have
pub record IsText (bytes : List ℕ) : Type 0 where
  pub short : length bytes ≤ max_script
  pub utf8 : IsUtf8 bytes

pub record Spells (bytes : List ℕ) (s : Script) : Type 0 where
  pub text : IsText bytes
  -- the bytes are tokens, blanks and comments throughout
  pub whole : (lexed bytes).1 ≡ None
  -- the grammar writes the tree with these tokens, within the nesting limit
  pub written : SpellsWithin (lexed bytes).0.tokens s.block
  pub texts : s.texts ≡ (lexed bytes).0.texts
  pub names : s.names ≡ (lexed bytes).0.names

-- The bytes are cut into the tokens of the tree, in their order.
abbrev pub IsCut : List ℕ → Script → Type 0
IsCut bytes s = Cut s.texts s.names [] 0 bytes (put_block s.block [])

-- bytes are written for one script
abbrev pub SpellOneScript : Type 0
SpellOneScript = (bytes : List ℕ) (s t : Script) → Spells bytes s → Spells bytes t → s ≡ t
