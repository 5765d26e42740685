use Rattle.std.proofs.Common.{Some}
use Rattle.jd_plain.specs.Held.{request_of}
use Rattle.jd_plain.proofs.Maps.{by_ask-put}
use Rattle.jd_plain.proofs.requests.Requests.put.Goals as goal

pub returns : goal.returns
returns c = by_ask-put request_of c.args.self.now.held c.insert.new.self c.args.ask (Some c.args.request) c.in_ok-insert.ensures.updates.0
