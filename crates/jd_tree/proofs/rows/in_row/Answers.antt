use Rattle.std.proofs.Common.{◌+◌, None, sym, ap, ◌∙◌, arith}
use Rattle.jd_grammar.specs.Rows.{first_width, last_width, are_even}
use Rattle.jd_grammar.proofs.RowFacts.{last_cell}
use Rattle.jd_tree.specs.declared.tree.Cell.{roll-Cell}
use Rattle.jd_tree.specs.Measures.{are_single}
use Rattle.jd_tree.specs.Plain.{plain}
use Rattle.jd_tree.specs.Code.{plain_atoms}
use Rattle.jd_tree.proofs.Measuring.{fields}
use Rattle.jd_tree.proofs.Lists.{cells_are, atoms_height, counted}
use Rattle.jd_tree.proofs.Widths.{single_cell, even_cell, first_more, last_le}
use Rattle.jd_tree.proofs.rows.in_row.Goals as goal

pub overflow_add-result : goal.overflow_add-result
overflow_add-result c =
    let n = counted c.args.atoms.items (roll-Cell (record { semicolon = None; atom = c.args.atom.expr })) c.push.new.self c.len-count.result c.in-Ok.ensures.ok c.len-count.ensures in
    omega (arith, n, last_le 1 (plain_atoms c.args.atoms), c.args.atoms.last_row)

pub invariant_of-result : goal.invariant_of-result
invariant_of-result c =
    let e = cells_are c.args.atoms.items None c.args.atom.expr c.push.new.self c.in-Ok.ensures.ok in
    let n = counted c.args.atoms.items (roll-Cell (record { semicolon = None; atom = c.args.atom.expr })) c.push.new.self c.len-count.result c.in-Ok.ensures.ok c.len-count.ensures in
    record {
      measured = atoms_height (plain c.args.atoms.first) c.args.atoms.items None c.args.atom.expr c.push.new.self c.args.atoms.nesting c.args.atom.profile.nesting c.max.result c.in-Ok.ensures.ok c.args.atoms.measured
          (fields c.args.atom.profile (plain c.args.atom.expr) c.args.atom.measured).nesting c.max.ensures;
      first_row = ap (first_width 1) e ∙ first_more (plain_atoms c.args.atoms) (plain c.args.atom.expr) c.args.atoms.single c.len-count.result c.args.atoms.first_more c.first_with_atom.result
          c.args.atoms.one_row c.args.atoms.first_row n c.first_with_atom.ensures;
      last_row = ap (last_width 1) e ∙ last_cell 1 (plain_atoms c.args.atoms) (plain c.args.atom.expr) ∙ ap (λ x. x + 1) c.args.atoms.last_row;
      one_row = c.args.atoms.one_row ∙ sym (single_cell (plain_atoms c.args.atoms) (plain c.args.atom.expr)) ∙ ap are_single (sym e);
      even_rows = c.args.atoms.even_rows ∙ sym (even_cell (plain_atoms c.args.atoms) (plain c.args.atom.expr)) ∙ ap (λ cells. are_even (first_width 1 cells) 1 cells) (sym e);
    }

pub returns-in-Ok-clause-others : goal.returns-in-Ok-clause-others
returns-in-Ok-clause-others c = cells_are c.args.atoms.items None c.args.atom.expr c.push.new.self c.in-Ok.ensures.ok
