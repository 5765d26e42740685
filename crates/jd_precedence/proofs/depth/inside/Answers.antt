use Rattle.std.proofs.Common.{refl, ap, ◌∙◌}
use Rattle.jd_grammar.specs.declared.token.Kind.TheVariants.{Comma, CloseParen}
use Rattle.jd_grammar.specs.Depth.{height}
use Rattle.jd_grammar.specs.Shortest.{token, zero_leaf}
use Rattle.jd_tree.specs.declared.profile.Profile.{Profile}
use Rattle.jd_tree.specs.Measures.{height_up_to}
use Rattle.jd_tree.specs.Plain.{plain_channel}
use Rattle.jd_tree.specs.Code.{plain_measured}
use Rattle.jd_precedence.specs.declared.frames.Sized.{Sized}
use Rattle.jd_precedence.proofs.depth.inside.Goals as goal

pub returns-in-InSize : goal.returns-in-InSize
returns-in-InSize c = λ e h.
    let t = c.in-InSize.field-0 in
    rw c.in-InSize.is (c.channel_profile.ensures (plain_channel t.channel) t.element t.shut t.opens e (token CloseParen) (token Comma) zero_leaf (token CloseParen) (ap (λ (p : Profile). p.nesting) h) refl)

pub returns-in-InPlace : goal.returns-in-InPlace
returns-in-InPlace c = λ e h.
    let t = c.in-InPlace.field-0 in
    let s = c.in-InPlace.sized in
    rw c.in-InPlace.is (c.channel_profile-in-InPlace.ensures (plain_channel t.channel) t.element t.shut t.opens (plain_measured s.size) s.closes s.comma e (token CloseParen)
    (c.nesting_of.ensures ∙ ap (λ (z : Sized). height_up_to (height (plain_measured z.size))) c.get-in-InPlace.ensures) (ap (λ (p : Profile). p.nesting) h))
