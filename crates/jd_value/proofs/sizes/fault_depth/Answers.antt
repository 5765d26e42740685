use Rattle.std.proofs.Common.{◌≡◌, ℕ, sym, subst, ◌∙◌, arith}
use Rattle.std.proofs.lemmas.Grind.{common_steps}
use Rattle.jd_value.specs.Sizes.{fault_depth, fault_depth_at}
use Rattle.jd_value.specs.declared.fault.Fault.{Fault, Fault-F, fold-roll-Fault, roll-Fault, out-Fault, roll-out-Fault}
use Rattle.jd_value.specs.declared.fault.Fault.TheOpen as f
use Rattle.jd_value.specs.declared.fault.Fault.TheVariants as v
use Rattle.jd_value.proofs.sizes.fault_depth.Goals as goal

abbrev IsAlone : Fault → Type 0
IsAlone fault = (process : ℕ) (inner : Fault) → fault ≡ v.Remote process inner → ⊥

alone_at : (x : Fault-F Fault) → IsAlone (roll-Fault x) → fault_depth (roll-Fault x) ≡ 1
alone_at (f.Remote process inner) not_inside = absurd (not_inside process inner (v.rolls-Remote process inner))
alone_at f.Divide not_inside = fold-roll-Fault ℕ fault_depth_at f.Divide
alone_at (f.Error text) not_inside = fold-roll-Fault ℕ fault_depth_at (f.Error text)
alone_at f.Bounds not_inside = fold-roll-Fault ℕ fault_depth_at f.Bounds
alone_at f.BadType not_inside = fold-roll-Fault ℕ fault_depth_at f.BadType
alone_at f.Argument not_inside = fold-roll-Fault ℕ fault_depth_at f.Argument
alone_at (f.Undef name) not_inside = fold-roll-Fault ℕ fault_depth_at (f.Undef name)
alone_at f.Invalid not_inside = fold-roll-Fault ℕ fault_depth_at f.Invalid
alone_at (f.Exited process) not_inside = fold-roll-Fault ℕ fault_depth_at (f.Exited process)
alone_at f.Budget not_inside = fold-roll-Fault ℕ fault_depth_at f.Budget
alone_at f.Deep not_inside = fold-roll-Fault ℕ fault_depth_at f.Deep

-- a fault with none inside it
alone : (fault : Fault) → IsAlone fault → fault_depth fault ≡ 1
alone fault not_inside =
    let whole : roll-Fault (out-Fault fault) ≡ fault = roll-out-Fault fault in
    subst (λ (z : Fault). fault_depth z ≡ 1) whole (alone_at (out-Fault fault) (λ process inner e. not_inside process inner (sym whole ∙ e)))

pub returns : goal.returns
returns c = grind (arith, common_steps, alone c.loop-at.at.now c.in_default.not-Remote, c.loop-at.invariant.so_far, c.loop-at.invariant.fits)
