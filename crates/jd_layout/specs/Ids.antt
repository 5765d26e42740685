-- Lists of process ids.
use Rattle.std.specs.Prelude.{ℕ, ◌≢◌, List, All, AllPairs, IsTrue}
use Rattle.std.specs.Ordering.{nat_cmp}
use Rattle.std.specs.BTreeSet.{BTreeSet, contains}

-- each id is in the set, and none stands twice
pub record AreApartIn (ids : BTreeSet ℕ) (procs : List ℕ) : Type 0 where
  pub all_in : All (λ p. IsTrue (contains nat_cmp ids p)) procs
  pub apart : AllPairs (λ p q. p ≢ q) procs
