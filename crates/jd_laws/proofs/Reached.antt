-- What holds in each state that the machine comes to: it is sound, and nothing is lost.
use Rattle.std.proofs.Common.{◌≡◌, ℕ, false, refl}
use Rattle.jd_value.specs.declared.tree.Program.{Program}
use Rattle.jd_model.specs.declared.start.Start.{Start}
use Rattle.jd_model.specs.Machine.{State, first}
use Rattle.jd_model.specs.Refines.{IsSound}
use Rattle.jd_laws.proofs.Changes.{first_sound}

pub record IsReached (s : State) : Type 0 where
  pub sound : IsSound s
  pub open sound use *
  pub alive : (p : ℕ) → s.lost p ≡ false
  pub calm : (p w : ℕ) → s.noticed p w ≡ false

pub first_reached : (program : Program) (start : Start) → IsReached (first program start)
first_reached program start = record { sound = first_sound program start; alive = λ p. refl; calm = λ p w. refl }
