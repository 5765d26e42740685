-- The references in a value.
use Rattle.std.specs.Prelude.{List, [], ◌∷◌, flat_map}
use Rattle.jd_value.specs.declared.reference.RefId.{RefId}
use Rattle.jd_value.specs.declared.value.Value.{Value, fold-Value}
use Rattle.jd_value.specs.declared.value.Value.TheOpen as v
use Rattle.jd_value.specs.declared.value.Value.TheOpen.{Value-F}

-- one level of a value, with the references of its parts in their places
abbrev pub references_at : Value-F (List RefId) → List RefId
references_at (v.Future r) = r ∷ []
references_at (v.List parts) = flat_map (λ part. part) parts
references_at (v.Tuple parts) = flat_map (λ part. part) parts
references_at _ = []

-- every reference in a value, from left to right, with repeats
abbrev pub references : Value → List RefId
references = fold-Value (List RefId) references_at
