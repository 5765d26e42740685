use Rattle.std.proofs.Common.{◌<◌, ◌∙◌, IfSome, sym, subst}
use Rattle.jd_lexer.proofs.Interning.{position_text, texts_len}
use Rattle.jd_lexer.proofs.names.known_number.Goals as goal

pub returns-clause-number : goal.returns-clause-number
returns-clause-number c = c.get_index_of.ensures.index ∙ position_text c.args.names.now.keys c.args.name

pub returns-clause-few : goal.returns-clause-few
returns-clause-few c = subst (λ m. IfSome c.get_index_of.result (λ n. n < m)) (sym (texts_len c.args.names.now.keys)) c.get_index_of.ensures.within
