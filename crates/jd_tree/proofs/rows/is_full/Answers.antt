use Rattle.std.proofs.Common.{sym, ◌∙◌}
use Rattle.jd_tree.specs.Code.{plain_atoms}
use Rattle.jd_tree.proofs.Widths.{full_of, count_length}
use Rattle.jd_tree.proofs.rows.is_full.Goals as goal

pub returns-then-atoms-2 : goal.returns-then-atoms-2
returns-then-atoms-2 c = full_of (plain_atoms c.args.atoms.now) c.len.result c.args.atoms.now.first_more c.args.atoms.now.last_more c.args.atoms.now.even
    c.if-atoms.true c.args.atoms.now.even_rows c.args.atoms.now.first_row c.args.atoms.now.last_row c.if-atoms-2.true (c.len.ensures ∙ sym (count_length c.args.atoms.now.items))
