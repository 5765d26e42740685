use Rattle.std.specs.Prelude.{option_map}
use Rattle.jd_tree.specs.Plain.{plain_channel}
use Rattle.jd_tree.specs.Code.{plain_measured, plain_arguments, plain_bracket}
use Rattle.jd_precedence.proofs.Braces.{channel_by}
use Rattle.jd_precedence.proofs.Measured.{none_items}
use Rattle.jd_precedence.proofs.operators.channel_at.Goals as goal

pub returns : goal.returns
returns c =
    let l = c.args.listing.now in
    let before = c.args.lambda.now in
    channel_by (record { opens = l.opens; arrow = before.1; brace = c.args.brace }) (plain_measured before.0) (plain_bracket l.bracket) (plain_arguments l.most) (plain_measured c.args.operand.now)
    c.empty_group.result c.callee_of.result c.is_empty.result c.leaf_token.result (option_map plain_channel c.channel_of.result)
    c.empty_group.ensures c.callee_of.ensures (none_items l.most.items c.is_empty.result c.is_empty.ensures) c.leaf_token.ensures c.channel_of.ensures
