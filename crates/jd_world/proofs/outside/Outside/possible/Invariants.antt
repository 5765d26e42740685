use Rattle.std.proofs.Common.{◌≡◌, ℕ, false, nat_eq}
use Rattle.std.specs.List.{list_any}
use Rattle.jd_world.specs.Outside.{told_of, IsStill}
use Rattle.jd_world.proofs.outside.Outside.possible.Given as goal

-- what isn't to come is still
abbrev pub invariant-loop-number : goal.invariant-loop-number
invariant-loop-number l = (q : ℕ) → list_any (nat_eq q) l.number-iterator ≡ false → IsStill (told_of l.self) q
