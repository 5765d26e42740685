use Rattle.jd_lexer.proofs.Cuts.{cut_all}
use Rattle.jd_lexer.proofs.laws.reading_cuts_the_script.Goals as goal

pub returns : goal.returns
returns c = cut_all
