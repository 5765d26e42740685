use Rattle.std.proofs.Common.{ap, ◌∙◌}
use Rattle.jd_grammar.specs.declared.token.Token.{Token}
use Rattle.jd_grammar.specs.Trees.{Syntax, ending, unary, binary}
use Rattle.jd_grammar.specs.Rows.{joined, cells_of}
use Rattle.jd_tree.specs.declared.tree.Expr.TheVariants as variant
use Rattle.jd_tree.specs.declared.tree.Operation.{out-Operation}
use Rattle.jd_tree.specs.Plain.{plain}
use Rattle.jd_tree.specs.Peeling.{taken}
use Rattle.jd_tree.proofs.Levels.{operation_out, plain_leaf, plain_unary}
use Rattle.jd_tree.proofs.Peeling.{operation_off}
use Rattle.jd_tree.proofs.peel.take_operation.Goals as goal

pub returns : goal.returns
returns c = λ l.
    let o = out-Operation c.args.operation in
    ap (λ (x : Token × Syntax). joined (cells_of (ending (binary l x.0) x.1)) (taken c.args.taken_off.now)) (operation_out c.args.operation)
    ∙ operation_off l o.operator (plain o.operand) c.in_ok-number.number c.args.taken_off.now c.take_number.new.taken_off c.push.new.self (variant.Unary o.operator c.in_ok-new.field-0)
    c.in_ok-number.ensures.number c.in_ok-number.ensures.others c.in_ok-push.ensures.ok
    (plain_unary o.operator c.in_ok-new.field-0 ∙ ap (λ x. ending (unary o.operator) (plain x)) c.in_ok-new.ensures ∙ ap (ending (unary o.operator)) (plain_leaf c.in_ok-number.number))
