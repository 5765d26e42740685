-- Measured trees as the grammar's trees.
use Rattle.std.specs.Prelude.{Option, map, option_map}
use Rattle.jd_tree.specs.declared.measured.Measured.{Measured}
use Rattle.jd_tree.specs.declared.measured.Arguments.{Arguments}
use Rattle.jd_tree.specs.declared.measured.Generators as code-generators
use Rattle.jd_tree.specs.declared.measured.Atoms.{Atoms}
use Rattle.jd_tree.specs.declared.measured.Head as code-head
use Rattle.jd_tree.specs.declared.measured.Head.TheVariants as of-head
use Rattle.jd_tree.specs.declared.measured.Bracket as code-bracket
use Rattle.jd_tree.specs.declared.measured.Bracket.TheVariants as of-bracket
use Rattle.jd_tree.specs.Plain.{plain, plain_item, plain_cell, plain_generator, items_of, cells_at, generators_of, maybe}
use Rattle.jd_grammar.specs.Trees.{Syntax, Head, unary, binary, choice, lambda, spawn, keyword, Bracket, grouped, called, itemed, indexed, Cells, Items, Maybe, Generators}

abbrev pub plain_measured : Measured → Syntax
plain_measured m = plain m.expr

abbrev pub plain_maybe : Option Measured → Maybe
plain_maybe m = maybe (option_map plain_measured m)

abbrev pub plain_arguments : Arguments → Items
plain_arguments a = items_of (map plain_item a.items)

abbrev pub plain_generators : code-generators.Generators → Generators
plain_generators g = generators_of (map plain_generator g.items)

-- the first atom, and the others
abbrev pub plain_first : Atoms → Syntax
plain_first a = plain a.first

abbrev pub plain_atoms : Atoms → Cells
plain_atoms a = cells_at (map plain_cell a.items)

abbrev pub plain_head : code-head.Head → Head
plain_head (of-head.Unary t) = unary t
plain_head (of-head.Binary l t) = binary (plain_measured l) t
plain_head (of-head.Choice c q x t) = choice (plain_measured c) q (plain_measured x) t
plain_head (of-head.Lambda ns t) = lambda (plain_measured ns) t
plain_head (of-head.Spawn t a) = spawn t (plain_measured a)
plain_head (of-head.Keyword n t) = keyword n t

abbrev pub plain_bracket : code-bracket.Bracket → Bracket
plain_bracket of-bracket.Grouped = grouped
plain_bracket (of-bracket.Called f) = called (plain_measured f)
plain_bracket of-bracket.Itemed = itemed
plain_bracket (of-bracket.Indexed f) = indexed (plain_measured f)
