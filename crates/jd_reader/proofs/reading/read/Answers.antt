use Rattle.jd_reader.proofs.Verdicts.{only_from, place_from, reason_from}
use Rattle.jd_reader.proofs.reading.read.Goals as goal

pub returns-clause-only : goal.returns-clause-only
returns-clause-only c = only_from c.args.tokens.now c.read_all.result c.read_all.ensures.found c.read_all.ensures.refused

pub returns-clause-place : goal.returns-clause-place
returns-clause-place c = place_from c.args.tokens.now c.read_all.result c.read_all.ensures.found c.read_all.ensures.refused

pub returns-clause-reason : goal.returns-clause-reason
returns-clause-reason c = reason_from c.args.tokens.now c.read_all.result c.read_all.ensures.found c.read_all.ensures.refused
