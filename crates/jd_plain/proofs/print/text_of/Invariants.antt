use Rattle.std.proofs.Common.{◌≡◌, take}
use Rattle.jd_model.specs.Machine.{line}
use Rattle.jd_plain.proofs.print.text_of.Given as goal

abbrev pub invariant-loop-value : goal.invariant-loop-value
invariant-loop-value l = l.text ≡ line (take l.value-index l.values)
