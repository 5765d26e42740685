-- The atoms of an expression, taken off from its right end.
use Rattle.std.specs.Prelude.{List, [], ◌∷◌, Bool, true, ◌&&◌}
use Rattle.jd_grammar.specs.declared.token.Token.{Token}
use Rattle.jd_grammar.specs.Trees.{Syntax, bracket, grouped, Cells, no_cells, cell}
use Rattle.jd_grammar.specs.Rows.{begins_tight, is_chain}
use Rattle.jd_tree.specs.declared.tree.Expr.{Expr}
use Rattle.jd_tree.specs.Plain.{Suffix, arguments, indexes, plain}

-- the atoms that were taken off, the last one being the leftmost
abbrev pub taken_from : Cells → List Expr → Cells
taken_from cells [] = cells
taken_from cells (e ∷ es) = taken_from (cell (plain e) cells) es

abbrev pub taken : List Expr → Cells
taken es = taken_from no_cells es

-- the parentheses of a call, as an atom
abbrev pub group_of : Suffix → Syntax
group_of (arguments l) = bracket grouped l.opens l.most l.last l.closes
group_of (indexes l) = bracket grouped l.opens l.most l.last l.closes

-- a right operand that is written as atoms, the first one a number directly behind its operator
abbrev pub is_tight_chain : Syntax → Bool
is_tight_chain e = begins_tight e && is_chain e

abbrev pub are_tight_chains : List (Token × Syntax) → Bool
are_tight_chains [] = true
are_tight_chains (o ∷ os) = is_tight_chain o.1 && are_tight_chains os
