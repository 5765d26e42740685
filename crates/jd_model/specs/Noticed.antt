-- The losses that a process has noticed, of the list that the code keeps.
use Rattle.std.specs.Prelude.{ℕ, ◌==◌, Bool, List}
use Rattle.std.specs.List.{list_any}

-- Whether the loss of this process is among those noticed.
abbrev pub noticed_in : List ℕ → ℕ → Bool
noticed_in noticed p = list_any (λ w. w == p) noticed
