-- Names by numbers: two are equal exactly where the names are.
use Rattle.std.specs.Prelude.{ℕ, ◌+◌, Bool, true, ◌&&◌, not, nat_eq, List, [], ◌∷◌, ◌++◌}
use Rattle.std.specs.List.{list_any}
use Rattle.jd_grammar.specs.declared.token.Name as a-name
use Rattle.jd_grammar.specs.declared.token.Name.TheVariants as name
use Rattle.jd_grammar.specs.declared.token.Kind.{Kind}
use Rattle.jd_grammar.specs.declared.token.Kind.TheVariants.{Name}
use Rattle.jd_grammar.specs.Kinds.{word_number}
use Rattle.jd_grammar.specs.Script.{Parameters, no_parameters, first, next}

abbrev pub name_key : a-name.Name → ℕ
name_key (name.Word w) = word_number w
name_key (name.Other n) = 17 + n

-- 0 stands for what is no name
abbrev pub key_of : Kind → ℕ
key_of (Name n) = 1 + name_key n
key_of _ = 0

-- each number once
abbrev pub are_apart : List ℕ → Bool
are_apart [] = true
are_apart (k ∷ ks) = not (list_any (nat_eq k) ks) && are_apart ks

-- the names of a definition's parameters
abbrev pub parameter_keys : Parameters → List ℕ
parameter_keys no_parameters = []
parameter_keys (first n) = key_of n.kind ∷ []
parameter_keys (next ps comma n) = parameter_keys ps ++ (key_of n.kind ∷ [])
