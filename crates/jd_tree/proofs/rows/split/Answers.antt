use Rattle.std.proofs.Common.{◌≡◌, min, max, true, map, sym, ap, ◌∙◌, arith}
use Rattle.jd_grammar.specs.Rows.{joined, cells_of, first_width}
use Rattle.jd_grammar.specs.Depth.{height, height_cells}
use Rattle.jd_grammar.proofs.RowSteps.{joined_none}
use Rattle.jd_tree.specs.Measures.{are_single}
use Rattle.jd_tree.specs.Plain.{plain, plain_cell, cells_at}
use Rattle.jd_tree.specs.Peeling.{taken}
use Rattle.jd_tree.proofs.Measuring.{fields}
use Rattle.jd_tree.proofs.Peeling.{row_numbers, single_cells}
use Rattle.jd_tree.proofs.Widths.{first_of_single, last_of_single, even_of_single, count_length}
use Rattle.jd_tree.proofs.rows.split.Goals as goal

pub invariant_of-result : goal.invariant_of-result
invariant_of-result c =
    let e = plain c.args.row.expr in
    let cells = cells_at (map plain_cell c.in-Ok.items) in
    let all : cells ≡ cells_of e = c.in-Ok.ensures ∙ sym c.in_ok-first.ensures.others ∙ ap (λ es. joined (cells_of e) (taken es)) c.new-taken_off.ensures ∙ joined_none (cells_of e) in
    let single : are_single cells ≡ true = ap are_single all ∙ single_cells e in
    record {
      measured = row_numbers e c.args.row.profile.row c.requires (fields c.args.row.profile e c.args.row.measured).row
          ∙ ap (λ x. min (max (height x) (height_cells (cells_of e))) 255) (sym c.in_ok-first.ensures.first) ∙ ap (λ x. min (max (height (plain c.in_ok-first.first)) (height_cells x)) 255) (sym all);
      first_row = first_of_single 1 cells single ∙ omega (arith, count_length c.in-Ok.items);
      last_row = last_of_single 1 cells single ∙ omega (arith, count_length c.in-Ok.items);
      one_row = sym single;
      even_rows = sym (even_of_single (first_width 1 cells) 1 cells single);
    }

pub returns-in-Ok-clause-others : goal.returns-in-Ok-clause-others
returns-in-Ok-clause-others c =
    let e = plain c.args.row.expr in
    c.in-Ok.ensures ∙ sym c.in_ok-first.ensures.others ∙ ap (λ es. joined (cells_of e) (taken es)) c.new-taken_off.ensures ∙ joined_none (cells_of e)
