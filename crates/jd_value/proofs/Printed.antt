-- The printed form of a list or tuple is that of its elements.
use Rattle.std.proofs.Common.{◌≡◌, List, [], ◌∷◌, map, length, refl, ap, sym, ◌∙◌}
use Rattle.std.specs.List.{list_all}
use Rattle.std.proofs.lemmas.List.{length-map}
use Rattle.std.proofs.lemmas.List.Folds.{list_all-map}
use Rattle.jd_value.specs.Elements.{list_text, tuple_text}
use Rattle.jd_value.specs.Shown.{Part, part, part_at, text_of, counts, shown_inside, is_int, shown_list, shown_tuple}
use Rattle.jd_value.specs.declared.value.Value.{Value, fold-roll-Value}
use Rattle.jd_value.specs.declared.value.Value.TheOpen as f
use Rattle.jd_value.specs.declared.value.Value.TheVariants as v

texts : (vs : List Value) → map text_of (map part vs) ≡ map shown_inside vs
texts [] = refl
texts (v ∷ vs) = ap (λ rest. shown_inside v ∷ rest) (texts vs)

ints : (vs : List Value) → list_all counts (map part vs) ≡ list_all is_int vs
ints vs = list_all-map counts part vs

how_many : (vs : List Value) → length (map part vs) ≡ length vs
how_many vs = length-map vs part

in_list : (vs : List Value) → shown_list (map part vs) ≡ list_text vs
in_list vs = rw (texts vs, ints vs, how_many vs)

in_tuple : (vs : List Value) → shown_tuple (map part vs) ≡ tuple_text vs
in_tuple vs = rw (texts vs, how_many vs)

pub shows_list : (vs : List Value) → shown_inside (v.List vs) ≡ list_text vs
shows_list vs = ap shown_inside (sym (v.rolls-List vs)) ∙ ap text_of (fold-roll-Value Part part_at (f.List vs)) ∙ in_list vs

pub shows_tuple : (vs : List Value) → shown_inside (v.Tuple vs) ≡ tuple_text vs
shows_tuple vs = ap shown_inside (sym (v.rolls-Tuple vs)) ∙ ap text_of (fold-roll-Value Part part_at (f.Tuple vs)) ∙ in_tuple vs
