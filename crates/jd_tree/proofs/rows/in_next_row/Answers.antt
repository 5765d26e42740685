use Rattle.std.proofs.Common.{Some, sym, ap, ◌∙◌}
use Rattle.jd_grammar.specs.Rows.{first_width, last_width, are_even}
use Rattle.jd_grammar.proofs.RowFacts.{first_row, last_row}
use Rattle.jd_tree.specs.Measures.{are_single}
use Rattle.jd_tree.specs.Plain.{plain}
use Rattle.jd_tree.specs.Code.{plain_atoms}
use Rattle.jd_tree.proofs.Measuring.{fields}
use Rattle.jd_tree.proofs.Lists.{cells_are, atoms_height}
use Rattle.jd_tree.proofs.Widths.{single_row, even_more}
use Rattle.jd_tree.proofs.rows.in_next_row.Goals as goal

pub invariant_of-result : goal.invariant_of-result
invariant_of-result c =
    let e = cells_are c.args.atoms.items (Some c.args.semicolon) c.args.atom.expr c.push.new.self c.in-Ok.ensures.ok in
    record {
      measured = atoms_height (plain c.args.atoms.first) c.args.atoms.items (Some c.args.semicolon) c.args.atom.expr c.push.new.self c.args.atoms.nesting c.args.atom.profile.nesting c.max.result c.in-Ok.ensures.ok c.args.atoms.measured
          (fields c.args.atom.profile (plain c.args.atom.expr) c.args.atom.measured).nesting c.max.ensures;
      first_row = ap (first_width 1) e ∙ first_row 1 (plain_atoms c.args.atoms) c.args.semicolon (plain c.args.atom.expr) ∙ c.args.atoms.first_row;
      last_row = ap (last_width 1) e ∙ last_row 1 (plain_atoms c.args.atoms) c.args.semicolon (plain c.args.atom.expr);
      one_row = sym (single_row (plain_atoms c.args.atoms) c.args.semicolon (plain c.args.atom.expr)) ∙ ap are_single (sym e);
      even_rows = even_more (plain_atoms c.args.atoms) c.args.semicolon (plain c.args.atom.expr) c.args.atoms.even c.even_with_row.result c.args.atoms.first_more c.args.atoms.last_more
          c.args.atoms.first_row c.args.atoms.last_row c.args.atoms.even_rows c.even_with_row.ensures ∙ ap (λ cells. are_even (first_width 1 cells) 1 cells) (sym e);
    }

pub returns-in-Ok-clause-others : goal.returns-in-Ok-clause-others
returns-in-Ok-clause-others c = cells_are c.args.atoms.items (Some c.args.semicolon) c.args.atom.expr c.push.new.self c.in-Ok.ensures.ok
