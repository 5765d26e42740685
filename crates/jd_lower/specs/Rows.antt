-- Rows of atoms, as they are read.
use Rattle.std.specs.Prelude.{[], ◌∷◌, ◌++◌, Option, Some, None}
use Rattle.jd_value.specs.declared.expr.Expr.{Expr}
use Rattle.jd_value.specs.declared.expr.Expr.TheVariants as e
use Rattle.jd_value.specs.declared.builtin.Builtin.TheVariants as b
use Rattle.jd_grammar.specs.declared.token.Token.{Token}
use Rattle.jd_lower.specs.declared.rows.Rows.{Rows}

-- One more atom, of the last row or behind a `;`, which begins the next row.
abbrev pub with_atom : Rows → Option Token → Expr → Rows
with_atom r None x = record { rows = r.rows; begun = r.begun ++ x ∷ [] }
with_atom r (Some t) x = record { rows = r.rows ++ e.Apply b.Tuple r.begun ∷ []; begun = x ∷ [] }
