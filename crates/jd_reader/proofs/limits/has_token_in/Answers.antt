use Rattle.jd_reader.proofs.Rounds.{token_none, token_some}
use Rattle.jd_reader.proofs.limits.has_token_in.Goals as goal

pub returns-then-is_empty : goal.returns-then-is_empty
returns-then-is_empty c = token_none c.args.lines.now.items c.is_empty.result c.args.begun c.is_empty.ensures c.if-is_empty.true

pub returns-else-is_empty : goal.returns-else-is_empty
returns-else-is_empty c = token_some c.args.lines.now.items c.is_empty.result c.args.begun c.is_empty.ensures c.if-is_empty.false
