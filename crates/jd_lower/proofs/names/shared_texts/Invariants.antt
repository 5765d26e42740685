use Rattle.std.proofs.Common.{◌≡◌, take}
use Rattle.jd_lower.proofs.names.shared_texts.Given as goal

abbrev pub invariant-loop-text : goal.invariant-loop-text
invariant-loop-text l = l.shared ≡ take l.text-index l.texts
