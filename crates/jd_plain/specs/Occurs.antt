-- Sets of references.
use Rattle.std.specs.Prelude.{◌≡◌, ◌||◌, Bool, false, Option, None, Some}
use Rattle.std.specs.HashSet.{contains, HashSet}
use Rattle.std.specs.declared.hash.FoldHasher.{FoldHasher}
use Rattle.std.specs.declared.hash.BuildHasherDefault.{BuildHasherDefault}
use Rattle.jd_value.specs.declared.reference.RefId.{RefId}
use Rattle.jd_expr.specs.declared.variable.Variable.{Variable}
use Rattle.jd_model.specs.Machine.{mentions}
use Rattle.jd_plain.specs.Tables.{same_cell}

abbrev pub Cells : Type 0
Cells = HashSet RefId (BuildHasherDefault FoldHasher)

abbrev pub is_in : Cells → RefId → Bool
is_in found r = contains same_cell found r

-- The new set has what the old one has, and what passes the test.
abbrev pub Adds : (RefId → Bool) → Cells → Cells → Type 0
Adds test old new = (r : RefId) → is_in new r ≡ (is_in old r || test r)

-- A reference occurs in a variable, where there is one.
abbrev pub in_variable : Option Variable → RefId → Bool
in_variable None r = false
in_variable (Some v) r = mentions v.value r
