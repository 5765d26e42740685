use Rattle.std.proofs.Common.{ℕ, ◌≡◌, ◌&&◌, not, nat_eq, nat_cmp, take}
use Rattle.std.specs.List.{list_any}
use Rattle.std.specs.BTreeSet.{contains}
use Rattle.jd_layout.specs.Ids.{AreApartIn}
use Rattle.jd_layout.proofs.ids.are_apart_in.Given as goal

abbrev pub invariant-loop-process : goal.invariant-loop-process
invariant-loop-process l = record {
  left : (q : ℕ) → contains nat_cmp l.set q ≡ (contains nat_cmp l.fn.set q && not (list_any (nat_eq q) (take l.process-index l.procs)));
  apart : AreApartIn l.fn.set (take l.process-index l.procs);
}
