use Rattle.jd_syntax.proofs.Refusals.{one_script}
use Rattle.jd_syntax.proofs.laws.bytes_spell_one_script.Goals as goal

pub returns : goal.returns
returns c = one_script
