-- The lexer's state as the definition's.
use Rattle.std.specs.Prelude.{ℕ, ◌≡◌, ◌≤◌, ◌<◌, List, length, drop}
use Rattle.jd_lexer.specs.declared.lexer.Lexer.{Lexer}
use Rattle.jd_lexer.specs.Lexical.{Lexed, IsWithin, scan}
use Rattle.jd_lexer.specs.Names.{texts_of, AreNoWords}

abbrev pub lexed_of : Lexer → Lexed
lexed_of l = record { tokens = l.tokens; texts = l.texts; names = texts_of l.names.keys; nest = l.nest; joined = l.joined; spaced = l.spaced }

-- what stands at a place goes as far as to `end`, and what is left to read there gives the same
pub record IsReadTo (bytes : List ℕ) (at end : ℕ) (s t : Lexed) : Type 0 where
  pub later : at < end
  pub within : end ≤ length bytes
  pub counts : IsWithin t end
  pub names : AreNoWords t.names
  pub told : scan end 0 t (drop end bytes) ≡ scan at 0 s (drop at bytes)
