-- A call that fails at once moves nothing.
use Rattle.std.proofs.Common.{◌≡◌, [], refl, ap}
use Rattle.jd_model.specs.World.{Told}
use Rattle.jd_world.specs.Fabric.{MovesMarks}

pub moved_nothing : (t u : Told) → u ≡ t → MovesMarks t u
moved_nothing t u e = record { to = t; moves = record { events = []; leads = refl }; marks = ap (λ w. w.marks) e }
