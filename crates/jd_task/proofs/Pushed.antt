-- What `push!` makes of a list.
use Rattle.std.proofs.Common.{◌≡◌, List, ap, sym, ◌∙◌}
use Rattle.jd_value.specs.declared.value.Value.{Value, out-Value, out-roll-Value}
use Rattle.jd_value.specs.declared.value.Value.TheOpen.{Value-F}
use Rattle.jd_value.specs.declared.value.Value.TheVariants as v
use Rattle.jd_task.specs.Pushing.{longer, with_last, with_last_at}

pub with_last_in : (x held : Value) (items : List Value) → held ≡ v.List items → with_last x held ≡ longer items x
with_last_in x held items e = ap (with_last x) e ∙ ap (with_last_at x) (ap out-Value (sym (v.rolls-List items)) ∙ out-roll-Value (Value-F.List items))
