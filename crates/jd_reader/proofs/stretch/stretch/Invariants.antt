use Rattle.std.proofs.Common.{◌≤◌, ◌-◌, length}
use Rattle.jd_reader.specs.Reading.{plain_reading, HasRead}
use Rattle.jd_reader.proofs.stretch.stretch.Given as goal

-- the tokens before the place were read, within the limit
abbrev pub invariant-loop-place : goal.invariant-loop-place
invariant-loop-place l = record {
  read : HasRead l.tokens l.place (plain_reading l.context l.bottom l.frames l.now);
  further : l.from ≤ l.place;
}

abbrev pub decreases-loop-place : goal.decreases-loop-place
decreases-loop-place l = length l.tokens - l.place
