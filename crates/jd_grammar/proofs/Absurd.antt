-- A test that is false and true proves anything, without a search.
use Rattle.std.proofs.Common.{◌≡◌, true, false}

pub no : {A : Type 0} → false ≡ true → A
no h = cc
