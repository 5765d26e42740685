use Rattle.jd_grammar.proofs.Promises.{goes_as_far_as_scripts}
use Rattle.jd_grammar.proofs.laws.machine_goes_as_far_as_scripts.Goals as goal

pub returns : goal.returns
returns c = goes_as_far_as_scripts
