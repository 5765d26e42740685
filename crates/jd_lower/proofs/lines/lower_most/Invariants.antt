use Rattle.std.proofs.Common.{◌≡◌, map, drop}
use Rattle.jd_tree.specs.Plain.{plain_item, items_of}
use Rattle.jd_lower.specs.Lowering.{arguments}
use Rattle.jd_lower.proofs.Lowered.{in_front}
use Rattle.jd_lower.proofs.lines.lower_most.Given as goal

abbrev pub invariant-loop-item : goal.invariant-loop-item
invariant-loop-item l =
    arguments l.scope (items_of (map plain_item l.items)) l.fn.draft ≡ in_front l.args (arguments l.scope (items_of (map plain_item (drop l.item-index l.items))) l.draft)
