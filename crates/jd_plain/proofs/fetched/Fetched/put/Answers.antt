use Rattle.std.proofs.Common.{Some, option_map, []}
use Rattle.std.specs.Option.{unwrap_or}
use Rattle.jd_plain.specs.Tables.{items_of}
use Rattle.jd_plain.proofs.Maps.{by_number-put}
use Rattle.jd_plain.proofs.fetched.Fetched.put.Goals as goal

pub returns : goal.returns
returns c = by_number-put (λ o. unwrap_or (option_map items_of o) []) c.args.self.now.held c.insert.new.self c.args.process (Some c.args.cells) c.in_ok-insert.ensures.updates.0
