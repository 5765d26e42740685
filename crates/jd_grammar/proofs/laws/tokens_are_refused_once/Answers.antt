use Rattle.jd_grammar.proofs.Promises.{are_refused_once}
use Rattle.jd_grammar.proofs.laws.tokens_are_refused_once.Goals as goal

pub returns : goal.returns
returns c = are_refused_once
