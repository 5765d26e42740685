use Rattle.std.proofs.Common.{ℕ, ◌≡◌, nat_eq, nat_cmp, take}
use Rattle.std.specs.List.{list_any}
use Rattle.std.specs.BTreeSet.{contains}
use Rattle.jd_tree.specs.Keys.{are_apart}
use Rattle.jd_tree.proofs.names.are_apart.Given as goal

-- the set has the numbers that were seen
abbrev pub invariant-loop-key : goal.invariant-loop-key
invariant-loop-key l = record {
  seen : (q : ℕ) → contains nat_cmp l.seen q ≡ list_any (nat_eq q) (take l.key-index l.numbers);
  apart : l.apart ≡ are_apart (take l.key-index l.numbers);
}
