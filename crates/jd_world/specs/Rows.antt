-- The rows of the workers, by number.
use Rattle.std.specs.Prelude.{◌≡◌, ℕ}
use Rattle.std.specs.Option.{ForSome}
use Rattle.std.specs.Ordering.{nat_cmp}
use Rattle.std.specs.BTreeMap.{BTreeMap, get}
use Rattle.jd_node.specs.View.{id_of}
use Rattle.jd_world.specs.declared.worker.Worker.{Worker}

-- Each worker stands under the number of its node.
abbrev pub AreKeyed : BTreeMap ℕ Worker → Type 0
AreKeyed rows = (p : ℕ) → ForSome (get nat_cmp rows p) (λ w. id_of w.node ≡ p)
