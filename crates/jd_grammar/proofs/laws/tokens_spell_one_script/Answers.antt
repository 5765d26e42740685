use Rattle.jd_grammar.proofs.Promises.{spell_one_script}
use Rattle.jd_grammar.proofs.laws.tokens_spell_one_script.Goals as goal

pub returns : goal.returns
returns c = spell_one_script
