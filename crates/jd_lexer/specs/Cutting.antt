-- A script is cut into tokens with blanks and comments between: each token goes as far as `lexeme_at` says, and its
-- text is the slice of the script at its span.
use Rattle.std.specs.Prelude.{ℕ, ◌≡◌, ◌+◌, Bool, true, false, not, ◌&&◌, ◌||◌, IsTrue, List, [], ◌∷◌, ◌++◌, length, slice_get, Option, Some, None, ◌==◌, if◌then◌else◌}
use Rattle.std.specs.List.{list_all}
use Rattle.jd_grammar.specs.declared.token.Token.{Token}
use Rattle.jd_grammar.specs.declared.token.Kind.{Kind}
use Rattle.jd_grammar.specs.declared.token.Kind.TheVariants as kind
use Rattle.jd_grammar.specs.declared.token.Name.TheVariants as name
use Rattle.jd_lexer.specs.declared.lexeme.Lexeme.{Lexeme}
use Rattle.jd_lexer.specs.declared.lexeme.Lexeme.TheVariants as lexeme
use Rattle.jd_lexer.specs.Lexical.{Lexed, lexeme_at, gap_at}

abbrev pub is_empty : List ℕ → Bool
is_empty [] = true
is_empty (b ∷ bs) = false

-- TAB, space, CR or LF alone, or a `#` with bytes of its line
abbrev pub is_skipped : ℕ → List ℕ → Bool
is_skipped a rest =
    if a == 35 then list_all (λ b. not (b == 10)) rest
    else ((a == 9 || a == 32) || (a == 13 || a == 10)) && is_empty rest

-- what a token of this text says: a text and a name stand in the script's lists under their numbers
abbrev pub Means : List (List ℕ) → List (List ℕ) → List ℕ → Lexeme → Kind → Type 0
Means texts names bytes (lexeme.Plain k) l = l ≡ k
Means texts names bytes (lexeme.Text t) l = (n : ℕ) × (l ≡ kind.Text n) × (slice_get texts n ≡ Some t)
Means texts names bytes lexeme.Name l = (n : ℕ) × (l ≡ kind.Name (name.Other n)) × (slice_get names n ≡ Some bytes)

-- From a place on the bytes are cut into these tokens, up to a rest.
pub data Cut (texts names : List (List ℕ)) (end : List ℕ) : ℕ → List ℕ → List Token → Type 0 where
  done : (at : ℕ) → Cut texts names end at end []
  skipped : (at a : ℕ) (more rest : List ℕ) (ts : List Token) → IsTrue (is_skipped a more) → Cut texts names end (at + 1 + length more) rest ts
      → Cut texts names end at (a ∷ (more ++ rest)) ts
  token : (at a : ℕ) (more rest : List ℕ) (ts : List Token) (x : Lexeme) (k : Kind) (spaced : Bool)
      → lexeme_at a (more ++ rest) ≡ Some (x, length more) → Means texts names (a ∷ more) x k → Cut texts names end (at + 1 + length more) rest ts
      → Cut texts names end at (a ∷ (more ++ rest)) (record { kind = k; start = at; end = at + 1 + length more; spaced = spaced } ∷ ts)

-- neither a token begins there nor a blank or a comment
abbrev pub IsStop : List ℕ → Type 0
IsStop [] = ⊥
IsStop (a ∷ more) = (lexeme_at a more ≡ None) × (gap_at false a more ≡ None)

-- Nothing is left of so many bytes, or the rest begins at the place where no token does.
abbrev pub Stops : ℕ → Option ℕ → List ℕ → Type 0
Stops n None end = end ≡ []
Stops n (Some at) end = (at + length end ≡ n) × IsStop end

-- What is read of a script cuts it: throughout, or up to the first place where no token begins.
pub record IsCut (bytes : List ℕ) (r : Lexed × Option ℕ) : Type 0 where
  pub end : List ℕ
  pub stops : Stops (length bytes) r.1 end
  pub cut : Cut r.0.texts r.0.names end 0 bytes r.0.tokens
