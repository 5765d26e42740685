use Rattle.std.proofs.Common.{map, ap, ◌∙◌}
use Rattle.jd_tree.specs.Plain.{plain_item, items_of, maybe}
use Rattle.jd_tree.proofs.Levels.{plain_inside}
use Rattle.jd_tree.proofs.brackets.listing_of.Goals as goal

pub returns : goal.returns
returns c = plain_inside c.args.opens c.args.most.items c.expr_of.result c.args.closes
    ∙ ap (λ l. record { opens = c.args.opens; most = items_of (map plain_item c.args.most.items); last = maybe l; closes = c.args.closes }) c.expr_of.ensures
