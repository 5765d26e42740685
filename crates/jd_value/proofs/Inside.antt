-- The references of a list or tuple are those of its elements.
use Rattle.std.proofs.Common.{◌≡◌, List, flat_map, ap, sym, ◌∙◌}
use Rattle.std.proofs.lemmas.List.Folds.{flat_map-map}
use Rattle.jd_value.specs.References.{references, references_at}
use Rattle.jd_value.specs.declared.reference.RefId.{RefId}
use Rattle.jd_value.specs.declared.value.Value.{Value, fold-roll-Value}
use Rattle.jd_value.specs.declared.value.Value.TheOpen as f
use Rattle.jd_value.specs.declared.value.Value.TheVariants as v

pub in_list : (vs : List Value) → references (v.List vs) ≡ flat_map references vs
in_list vs =
    ap references (sym (v.rolls-List vs)) ∙ fold-roll-Value (List RefId) references_at (f.List vs) ∙ flat_map-map (λ part. part) references vs

pub in_tuple : (vs : List Value) → references (v.Tuple vs) ≡ flat_map references vs
in_tuple vs =
    ap references (sym (v.rolls-Tuple vs)) ∙ fold-roll-Value (List RefId) references_at (f.Tuple vs) ∙ flat_map-map (λ part. part) references vs
