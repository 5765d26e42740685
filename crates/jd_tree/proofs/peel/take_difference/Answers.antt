use Rattle.std.proofs.Common.{◌≡◌, map, sym, ap, subst, ◌∙◌}
use Rattle.std.specs.Prelude.{OnOk}
use Rattle.jd_grammar.specs.Trees.{ending, binary, Cells}
use Rattle.jd_grammar.specs.Rows.{joined, cells_of}
use Rattle.jd_tree.specs.Plain.{operated, plain_operation}
use Rattle.jd_tree.specs.Peeling.{taken, is_tight_chain}
use Rattle.jd_tree.proofs.peel.take_difference.Goals as goal

pub take_operation-requires : goal.take_operation-requires
take_operation-requires c = ap (λ o. is_tight_chain (plain_operation o).1) c.into_inner.ensures ∙ c.requires.last

pub returns : goal.returns
returns c = λ l.
    let left = operated l (map plain_operation c.args.before) in
    let off = ap (λ o. joined (cells_of (ending (binary left (plain_operation o).0) (plain_operation o).1)) (taken c.args.taken_off.now)) (sym c.into_inner.ensures) ∙ c.in_ok-take_operation.ensures left in
    subst (λ (y : Cells). OnOk c.take_operations.result (y ≡ joined (cells_of l) (taken c.take_operations.new.taken_off))) (sym off) (c.take_operations.ensures l)
