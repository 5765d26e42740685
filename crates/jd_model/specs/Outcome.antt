-- How an evaluation ended.
use Rattle.std.specs.Prelude.{Result}
use Rattle.jd_value.specs.declared.value.Value.{Value}
use Rattle.jd_value.specs.declared.fault.Fault.{Fault}

abbrev pub Outcome : Type 0
Outcome = Result Value Fault
