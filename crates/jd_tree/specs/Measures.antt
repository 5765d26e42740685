-- What is carried beside a tree: the grammar's profile of it, with numbers counted up to a bound.
use Rattle.std.specs.Prelude.{ℕ, min, Bool, true, false}
use Rattle.jd_grammar.specs.Trees.{Syntax, Cells, no_cells, cell, row, Items, none, Maybe, just}
use Rattle.jd_grammar.specs.Profile as grammar
use Rattle.jd_tree.specs.declared.profile.Profile.{Profile}

-- heights are counted up to this
abbrev pub most_height : ℕ
most_height = 255

-- and atoms up to this
abbrev pub most_count : ℕ
most_count = 4294967295

abbrev pub height_up_to : ℕ → ℕ
height_up_to h = min h most_height

abbrev pub capped : grammar.Profile → Profile
capped p = record {
  nesting = height_up_to p.tall;
  plain = p.plain;
  tight = p.tight;
  chain = p.chain;
  long = p.long;
  row = height_up_to p.row;
  atoms = min p.count most_count;
}

abbrev pub measure : Syntax → Profile
measure e = capped (grammar.profile e)

-- whether they are one row
abbrev pub are_single : Cells → Bool
are_single no_cells = true
are_single (cell a cells) = are_single cells
are_single (row t a cells) = false

-- whether what stands in brackets is one expression, with no separator behind it
abbrev pub is_one : Items → Maybe → Bool
is_one none (just e) = true
is_one _ _ = false
