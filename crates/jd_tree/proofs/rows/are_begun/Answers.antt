use Rattle.std.proofs.Common.{sym, ◌∙◌, arith}
use Rattle.jd_tree.specs.Code.{plain_atoms}
use Rattle.jd_tree.proofs.Widths.{begun_of, count_length}
use Rattle.jd_tree.proofs.rows.are_begun.Goals as goal

pub returns-then-atoms : goal.returns-then-atoms
returns-then-atoms c = begun_of (plain_atoms c.args.atoms.now) c.len.result c.args.atoms.now.first_more c.args.atoms.now.last_more c.saturating_add.result
    c.args.atoms.now.first_row c.args.atoms.now.last_row c.if-atoms.true (c.len.ensures ∙ sym (count_length c.args.atoms.now.items)) (omega arith)
