use Rattle.std.proofs.Common.{◌≡◌, map, drop}
use Rattle.jd_lexer.specs.Words.{kind_among}
use Rattle.jd_lexer.proofs.words.kind_among.Given as goal

abbrev pub invariant-loop-word : goal.invariant-loop-word
invariant-loop-word l = kind_among (map (λ w. (w.0.now, w.1)) (drop l.word-index l.words)) l.name ≡ kind_among (map (λ w. (w.0.now, w.1)) l.words) l.name
