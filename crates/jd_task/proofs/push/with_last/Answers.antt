use Rattle.std.proofs.Common.{List, Result, ap, sym, subst, ◌∙◌}
use Rattle.jd_expr.specs.Action.{Gives, lift_to}
use Rattle.jd_value.specs.declared.fault.Fault.{Fault}
use Rattle.jd_value.specs.declared.value.Value.{Value}
use Rattle.jd_task.specs.Pushing.{longer}
use Rattle.jd_task.proofs.Pushed.{with_last_in}
use Rattle.jd_task.proofs.push.with_last.Goals as goal

pub returns-in-List : goal.returns-in-List
returns-in-List c =
    let e = ap (λ (items : List Value). longer items c.args.x) (c.as_slice.ensures ∙ c.get.ensures) ∙ sym (with_last_in c.args.x c.args.held.now c.in-List.items c.in-List.is) in
    λ st. subst (λ (r : Result Value Fault). Gives (lift_to st r) c.longer.result st) e (c.longer.ensures st)
