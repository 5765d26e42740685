use Rattle.std.proofs.Common.{◌≡◌, ◌+◌, ◌-◌, ◌≤◌, ◌++◌, map, take, length, vec_len}
use Rattle.std.specs.Vec.{vec_capacity}
use Rattle.jd_model.specs.World.{marked}
use Rattle.jd_world.proofs.process.record.Given as goal

abbrev pub invariant-loop-effect : goal.invariant-loop-effect
invariant-loop-effect l = record {
  marks : l.marks.items ≡ l.fn.marks.items ++ map (marked l.by) (take l.effect-index l.effects);
  room : vec_len l.marks + (length l.effects - l.effect-index) ≤ vec_capacity l.marks;
}
