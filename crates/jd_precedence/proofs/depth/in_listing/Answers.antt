use Rattle.std.proofs.Common.{sym, ap, ◌∙◌, arith}
use Rattle.jd_tree.specs.declared.profile.Profile.{Profile}
use Rattle.jd_tree.specs.Code.{plain_arguments}
use Rattle.jd_precedence.proofs.Measured.{none_items}
use Rattle.jd_precedence.proofs.depth.in_listing.Goals as goal

pub returns-else-is_empty : goal.returns-else-is_empty
returns-else-is_empty c = λ e h.
    let l = c.args.listing.now in
    c.several_profile.ensures l.opens (plain_arguments l.most) e (sym (none_items l.most.items c.is_empty.result c.is_empty.ensures) ∙ c.if-is_empty.false)
    (omega (arith, l.most.measured, ap (λ (p : Profile). p.nesting) h))
