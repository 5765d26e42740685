-- Parts of scripts that know how deep they nest, as the grammar's.
use Rattle.std.specs.Prelude.{Option, map, option_map}
use Rattle.jd_script.specs.declared.nested.NestedStmt.{NestedStmt}
use Rattle.jd_script.specs.declared.nested.Lines as code-lines
use Rattle.jd_script.specs.declared.nested.Arms.{Arms}
use Rattle.jd_script.specs.PlainScript.{plain_stmt, plain_line, plain_arm, lines_from, before_from, place_of}
use Rattle.jd_grammar.specs.Script.{Stmt, Lines, no_lines, Before, fresh, Place}

abbrev pub plain_nested : NestedStmt → Stmt
plain_nested s = plain_stmt s.stmt

abbrev pub plain_place : Option NestedStmt → Place
plain_place s = place_of (option_map plain_nested s)

abbrev pub plain_lines : code-lines.Lines → Lines
plain_lines ls = lines_from no_lines (map plain_line ls.items)

abbrev pub plain_arms : Arms → Before
plain_arms arms = before_from fresh (map plain_arm arms.items)
