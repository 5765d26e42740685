use Rattle.std.proofs.Common.{Some}
use Rattle.std.specs.Option.{unwrap_or}
use Rattle.jd_plain.proofs.Maps.{by_number-put}
use Rattle.jd_plain.proofs.counts.Counts.put.Goals as goal

pub returns : goal.returns
returns c = by_number-put (λ o. unwrap_or o 0) c.args.self.now.held c.insert.new.self c.args.process (Some c.args.count) c.in_ok-insert.ensures.updates.0
