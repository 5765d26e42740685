use Rattle.std.proofs.Common.{List, map, ap, ◌∙◌}
use Rattle.std.specs.Prelude.{option_map}
use Rattle.jd_tree.specs.declared.tree.Item.{Item}
use Rattle.jd_tree.specs.declared.tree.Listing.{out-Listing}
use Rattle.jd_tree.specs.Plain.{plain, plain_item, items_of, maybe}
use Rattle.jd_tree.proofs.Levels.{inside_out}
use Rattle.jd_precedence.specs.Parts.{is_nothing}
use Rattle.jd_precedence.proofs.Shapes.{empty_then, empty_else}
use Rattle.jd_precedence.proofs.operators.empty_listing.Goals as goal

pub returns-then-are_nothing : goal.returns-then-are_nothing
returns-then-are_nothing c =
    let l = out-Listing c.args.listing.now in
    rw (inside_out c.args.listing.now) (empty_then l.opens (items_of (map plain_item l.items)) (maybe (option_map plain l.last)) l.closes c.are_nothing.result
    (c.are_nothing.ensures ∙ ap (λ (xs : List Item). is_nothing (items_of (map plain_item xs)) (maybe (option_map plain l.last))) c.as_slice.ensures) c.if-are_nothing.true)

pub returns-else-are_nothing : goal.returns-else-are_nothing
returns-else-are_nothing c =
    let l = out-Listing c.args.listing.now in
    rw (inside_out c.args.listing.now) (empty_else l.opens (items_of (map plain_item l.items)) (maybe (option_map plain l.last)) l.closes c.are_nothing.result
    (c.are_nothing.ensures ∙ ap (λ (xs : List Item). is_nothing (items_of (map plain_item xs)) (maybe (option_map plain l.last))) c.as_slice.ensures) c.if-are_nothing.false)
