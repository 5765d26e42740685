use Rattle.std.proofs.Common.{◌≡◌, Some, map, subst}
use Rattle.jd_tree.specs.Plain.{plain_item, items_of}
use Rattle.jd_lower.specs.Lowering.{arguments}
use Rattle.jd_lower.proofs.Lowered.{arguments_joined}
use Rattle.jd_lower.proofs.lines.lower_arguments.Goals as goal

pub returns-in-Some : goal.returns-in-Some
returns-in-Some c =
    let scope = c.args.scope.now in
    let most : arguments scope (items_of (map plain_item c.as_slice.result.now)) c.args.draft.now ≡ Some (c.in_ok-args.args, c.lower_most.new.draft) = c.in_ok-args.ensures in
    arguments_joined scope c.args.listing.now c.in-Some.last c.in-Some.is c.args.draft.now c.lower_most.new.draft c.in_ok-args.args c.with_argument.result c.with_argument.new.draft
    (subst (λ es. arguments scope (items_of (map plain_item es)) c.args.draft.now ≡ Some (c.in_ok-args.args, c.lower_most.new.draft)) c.as_slice.ensures most) c.with_argument.ensures
