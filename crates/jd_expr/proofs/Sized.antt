-- The words of lists and tuples.
use Rattle.std.proofs.Common.{◌≡◌, ℕ, ◌+◌, List, map, sum, ap, sym, ◌∙◌}
use Rattle.jd_value.specs.Sizes.{words, words_at}
use Rattle.jd_value.specs.declared.value.Value.{Value, fold-roll-Value}
use Rattle.jd_value.specs.declared.value.Value.TheOpen as f
use Rattle.jd_value.specs.declared.value.Value.TheVariants as v

pub words_list : (vs : List Value) → words (v.List vs) ≡ 1 + sum (map words vs)
words_list vs = ap words (sym (v.rolls-List vs)) ∙ fold-roll-Value ℕ words_at (f.List vs)

pub words_tuple : (vs : List Value) → words (v.Tuple vs) ≡ 1 + sum (map words vs)
words_tuple vs = ap words (sym (v.rolls-Tuple vs)) ∙ fold-roll-Value ℕ words_at (f.Tuple vs)
