use Rattle.std.proofs.Common.{◌≡◌, map, IfOk, subst, sym, ap, ◌∙◌}
use Rattle.std.specs.Prelude.{option_map}
use Rattle.jd_grammar.specs.Trees.{bracket, called}
use Rattle.jd_grammar.specs.Script.{is_signature}
use Rattle.jd_tree.specs.declared.tree.Listing.{out-Listing}
use Rattle.jd_tree.specs.Plain.{Inside, plain, plain_item, plain_application, plain_listing, applied, items_of, maybe}
use Rattle.jd_tree.proofs.Levels.{inside_out, plain_call}
use Rattle.jd_tree.proofs.names.is_signature.Goals as goal

pub returns-in-Call : goal.returns-in-Call
returns-in-Call c =
    let l = out-Listing c.get-listing.result.now in
    let last = maybe (option_map plain l.last) in
    let callee = applied (plain c.in-Call.callee) (map plain_application c.in-Call.before) in
    let same : bracket (called (applied (plain c.get.result.now) (map plain_application c.as_slice.result.now))) l.opens (items_of (map plain_item c.as_slice-in-Call.result.now)) last l.closes ≡ plain c.args.expr.now.expr =
    ap (λ x. bracket (called (applied (plain x) (map plain_application c.as_slice.result.now))) l.opens (items_of (map plain_item c.as_slice-in-Call.result.now)) last l.closes) c.get.ensures
    ∙ ap (λ x. bracket (called (applied (plain c.in-Call.callee) (map plain_application x))) l.opens (items_of (map plain_item c.as_slice-in-Call.result.now)) last l.closes) c.as_slice.ensures
    ∙ ap (λ x. bracket (called callee) l.opens (items_of (map plain_item x)) last l.closes) c.as_slice-in-Call.ensures
    ∙ ap (λ (i : Inside). bracket (called callee) i.opens i.most i.last i.closes) (sym (inside_out c.get-listing.result.now) ∙ ap plain_listing c.get-listing.ensures)
    ∙ sym (plain_call c.in-Call.callee c.in-Call.before c.in-Call.listing) ∙ ap plain (sym c.in-Call.is) in
    subst (λ x. IfOk c.is_definition.result (λ yes. yes ≡ is_signature x)) same (c.is_definition.ensures l.opens l.closes)
