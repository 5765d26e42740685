use Rattle.jd_grammar.proofs.Promises.{reads_what_is_spelled}
use Rattle.jd_grammar.proofs.laws.machine_reads_what_is_spelled.Goals as goal

pub returns : goal.returns
returns c = reads_what_is_spelled
