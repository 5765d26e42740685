-- The names of a script, and which of them it binds.
use Rattle.std.specs.Prelude.{ℕ, ◌+◌, Bool, true, false, List, [], ◌∷◌, length, unwrap_or, replicate, slice_get, slice_set}
use Rattle.jd_grammar.specs.declared.token.Token.{Token}
use Rattle.jd_grammar.specs.declared.token.Name.{Name}
use Rattle.jd_grammar.specs.declared.token.Name.TheVariants as name
use Rattle.jd_grammar.specs.declared.token.Kind.{Kind}
use Rattle.jd_grammar.specs.declared.token.Kind.TheVariants as kind
use Rattle.jd_grammar.specs.Kinds.{word_number}
use Rattle.jd_grammar.specs.Grammar.{Syntax, ending, bracket, lambda, called, Items, none, more, name_of}
use Rattle.jd_grammar.specs.Script.{Block, block, Lines, no_lines, line, Place, empty, stmt, Stmt, ended, assigned}
use Rattle.jd_syntax.specs.Spelling.{Script}
use Rattle.jd_lower.specs.declared.scope.Scope.{Scope}

-- how many words have a meaning of their own
abbrev pub word_count : ℕ
word_count = 17

-- the place of a name: words first, and then the script's own names
abbrev pub place : Name → ℕ
place (name.Word w) = word_number w
place (name.Other n) = n + 17

-- whether the script binds a name
abbrev pub is_bound : List Bool → Name → Bool
is_bound bound n = unwrap_or (slice_get bound (place n)) false

-- one more name that it binds
abbrev pub bind : List Bool → Kind → List Bool
bind bound (kind.Name n) = slice_set bound (place n) true
bind bound _ = bound

-- the parameter of a function among arguments
abbrev pub bind_parameter : List Bool → Syntax → List Bool
bind_parameter bound (ending (lambda p t) x) = bind bound (name_of p)
bind_parameter bound _ = bound

abbrev pub bind_first : List Bool → Items → List Bool
bind_first bound (more f t others) = bind_parameter bound f
bind_first bound none = bound

-- the parameter of the function that a right side calls remotely
abbrev pub bind_right : List Bool → Syntax → List Bool
bind_right bound (bracket (called f) o most last c) = bind_first bound most
bind_right bound _ = bound

-- the variable that a line assigns
abbrev pub bind_stmt : List Bool → Stmt → List Bool
bind_stmt bound (ended (assigned n t) x) = bind_right (bind bound n.kind) x
bind_stmt bound _ = bound

abbrev pub bind_place : List Bool → Place → List Bool
bind_place bound empty = bound
bind_place bound (stmt s) = bind_stmt bound s

abbrev pub bind_lines : List Bool → Lines → List Bool
bind_lines bound no_lines = bound
bind_lines bound (line ls m t) = bind_place (bind_lines bound ls) m

-- places behind what was bound
abbrev pub bind_after : List Bool → List (Place × Token) → List Bool
bind_after bound [] = bound
bind_after bound (m ∷ ms) = bind_after (bind_place bound m.0) ms

abbrev pub bind_block : List Bool → Block → List Bool
bind_block bound (block ls m) = bind_place (bind_lines bound ls) m

-- The script's texts and names, and for each name whether a line assigns it or a function has it as its parameter.
abbrev pub scope_of : Script → Scope
scope_of script = record {
  texts = script.texts;
  names = script.names;
  bound = bind_block (replicate (word_count + length script.names) false) script.block;
}
