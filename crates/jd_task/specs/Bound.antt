-- Sets of names, as the list of their members in the order in which they came.
use Rattle.std.specs.Prelude.{[], ◌∷◌}
use Rattle.std.specs.Str.{bytes_eq}
use Rattle.indexmap.specs.IndexSet.{insert_key}
use Rattle.jd_task.specs.Names.{Texts}

-- the members after each of these names came
abbrev pub with_names : Texts → Texts → Texts
with_names members [] = members
with_names members (name ∷ names) = with_names (insert_key bytes_eq members name) names
