-- The words that have a meaning, and the numbers of the other names.
use Rattle.std.specs.Prelude.{ℕ, Bool, true, false, map, List, [], ◌∷◌, ◌++◌, Option, Some, None, if◌then◌else◌}
use Rattle.std.specs.List.{list_any, position_or_len}
use Rattle.std.specs.Str.{bytes_eq}
use Rattle.jd_grammar.specs.declared.token.Kind.{Kind}
use Rattle.jd_grammar.specs.declared.token.Kind.TheVariants as kind
use Rattle.jd_lexer.specs.declared.words.TheConstants.{LATER, WORDS}

-- whether it is one of these words
abbrev pub is_among : List (List ℕ) → List ℕ → Bool
is_among [] name = false
is_among (w ∷ ws) name = if bytes_eq w name then true else is_among ws name

-- the kind in the first row of that word
abbrev pub kind_among : List (List ℕ × Kind) → List ℕ → Option Kind
kind_among [] name = None
kind_among (w ∷ ws) name = if bytes_eq w.0 name then Some w.1 else kind_among ws name

-- A word of an operation that isn't built yet is of a kind that the grammar never has.
unfoldable pub word_kind : List ℕ → Option Kind
word_kind name = if is_among (map (λ w. w.now) LATER) name then Some kind.Later else kind_among (map (λ w. (w.0.now, w.1)) WORDS) name

-- the number of a name: its place among the names before, or behind them all where it is new
abbrev pub number_in : List (List ℕ) → List ℕ → ℕ
number_in names name = position_or_len (bytes_eq name) names

-- the names, and this one behind them where it is new
abbrev pub with_name : List (List ℕ) → List ℕ → List (List ℕ)
with_name names name = if list_any (bytes_eq name) names then names else names ++ name ∷ []
