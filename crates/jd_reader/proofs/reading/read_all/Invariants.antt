use Rattle.std.proofs.Common.{◌-◌, length}
use Rattle.jd_reader.specs.Reading.{plain_config, HasRead}
use Rattle.jd_reader.proofs.reading.read_all.Given as goal

-- the tokens before the place were read, within the limit
abbrev pub invariant-loop-place : goal.invariant-loop-place
invariant-loop-place l = HasRead l.tokens l.place (plain_config l.config)

abbrev pub decreases-loop-place : goal.decreases-loop-place
decreases-loop-place l = length l.tokens - l.place
