use Rattle.std.proofs.Common.{◌≡◌, ◌++◌, drop}
use Rattle.jd_lexer.specs.Names.{texts_of}
use Rattle.jd_syntax.proofs.parsing.owned.Given as goal

abbrev pub invariant-loop-text : goal.invariant-loop-text
invariant-loop-text l = l.owned ++ texts_of (drop l.text-index l.texts) ≡ texts_of l.texts
