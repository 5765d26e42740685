use Rattle.std.proofs.Common.{ℕ, ◌≡◌, nat_eq, nat_cmp, take}
use Rattle.std.specs.List.{list_any}
use Rattle.std.specs.BTreeSet.{contains}
use Rattle.jd_layout.proofs.ids.id_set.Given as goal

abbrev pub invariant-loop-id : goal.invariant-loop-id
invariant-loop-id l = (q : ℕ) → contains nat_cmp l.set q ≡ list_any (nat_eq q) (take l.id-index l.ids)
