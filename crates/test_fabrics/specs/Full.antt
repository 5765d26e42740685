-- A world whose limit is reached.
use Rattle.std.specs.Prelude.{[]}
use Rattle.jd_model.specs.World.{Told, first_net}
use Rattle.jd_world.specs.Fabric.{max_events}

-- It has no workers, and has made its last event.
abbrev pub full_told : Told
full_told = record { outside = record { net = first_net 0; events = max_events }; marks = [] }
