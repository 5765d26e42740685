use Rattle.std.proofs.Common.{map, sym, ap, ◌∙◌}
use Rattle.jd_grammar.specs.Rows.{joined}
use Rattle.jd_grammar.proofs.RowSteps.{joined_none}
use Rattle.jd_tree.specs.Plain.{plain_cell, cells_at}
use Rattle.jd_tree.specs.Peeling.{taken}
use Rattle.jd_tree.proofs.Peeling.{order_step}
use Rattle.jd_tree.proofs.rows.in_order.Goals as goal

pub loop-atom-preserved : goal.loop-atom-preserved
loop-atom-preserved c = order_step c.loop-atom.cells c.push.new.self c.loop-atom.taken_off c.pop.new.self c.in-Some.atom (taken c.args.taken_off)
    c.in-Some.ensures c.in_ok-push.ensures.ok c.loop-atom.invariant

pub returns : goal.returns
returns c = sym (joined_none (cells_at (map plain_cell c.loop-atom.cells)))
    ∙ ap (λ es. joined (cells_at (map plain_cell c.loop-atom.cells)) (taken es)) (sym c.in_default.ensures.0) ∙ c.loop-atom.invariant
