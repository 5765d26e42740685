use Rattle.std.proofs.Common.{◌∙◌, ap}
use Rattle.jd_lexer.specs.Names.{texts_of}
use Rattle.jd_lexer.proofs.Interning.{number_text, key_text, number_le}
use Rattle.jd_lexer.proofs.names.number_of.Goals as goal

pub returns-clause-number : goal.returns-clause-number
returns-clause-number c = c.in_ok-number.ensures.index ∙ number_text c.args.names.now.keys c.args.name

pub returns-clause-names : goal.returns-clause-names
returns-clause-names c = ap texts_of c.in_ok-number.ensures.keys ∙ key_text c.args.names.now.keys c.args.name

pub returns-clause-few : goal.returns-clause-few
returns-clause-few c = rw (returns-clause-number c) (number_le (texts_of c.args.names.now.keys) c.args.name.now)
