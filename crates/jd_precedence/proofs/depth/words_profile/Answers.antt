use Rattle.std.proofs.Common.{refl, sym, ap, ◌∙◌}
use Rattle.jd_grammar.specs.declared.token.Kind.TheVariants.{Comma, CloseBrace, OpenParen, CloseParen}
use Rattle.jd_grammar.specs.Depth.{height}
use Rattle.jd_grammar.specs.Shortest.{token, zero_leaf, an_int}
use Rattle.jd_tree.specs.declared.measured.Measured.{Measured}
use Rattle.jd_tree.specs.Measures.{capped, height_up_to}
use Rattle.jd_tree.specs.Plain.{plain_channel}
use Rattle.jd_tree.specs.Code.{plain_measured}
use Rattle.jd_precedence.specs.State.{plain_hold}
use Rattle.jd_precedence.proofs.Nested.{held_profile, atoms_profile}
use Rattle.jd_precedence.proofs.depth.words_profile.Goals as goal

pub returns-in-Atoms : goal.returns-in-Atoms
returns-in-Atoms c = λ fs h. rw c.in-Atoms.is (c.in_hold.ensures zero_leaf refl
    ∙ ap capped (held_profile (plain_hold c.in-Atoms.hold) zero_leaf ∙ sym (atoms_profile (plain_hold c.in-Atoms.hold) fs)))

pub returns-in-ElementType : goal.returns-in-ElementType
returns-in-ElementType c = λ fs h. rw c.in-ElementType.is (c.channel_profile.ensures (plain_channel c.in-ElementType.field-0) an_int (token CloseBrace) (token OpenParen) zero_leaf (token CloseParen) (token Comma) zero_leaf (token CloseParen) refl refl)

pub returns-in-TypeEnd : goal.returns-in-TypeEnd
returns-in-TypeEnd c = λ fs h. rw c.in-TypeEnd.is (c.channel_profile-in-TypeEnd.ensures (plain_channel c.in-TypeEnd.field-0) c.in-TypeEnd.field-1 (token CloseBrace) (token OpenParen) zero_leaf (token CloseParen) (token Comma) zero_leaf (token CloseParen) refl refl)

pub returns-in-SizeBegin : goal.returns-in-SizeBegin
returns-in-SizeBegin c = λ fs h. rw c.in-SizeBegin.is (c.channel_profile-in-SizeBegin.ensures (plain_channel c.in-SizeBegin.field-0) c.in-SizeBegin.field-1 c.in-SizeBegin.field-2 (token OpenParen) zero_leaf (token CloseParen) (token Comma) zero_leaf (token CloseParen) refl refl)

pub returns-in-PlaceBegin : goal.returns-in-PlaceBegin
returns-in-PlaceBegin c = λ fs h.
    let t = c.in-PlaceBegin.field-0 in
    rw c.in-PlaceBegin.is (c.channel_profile-in-PlaceBegin.ensures (plain_channel t.channel) t.element t.shut t.opens (plain_measured c.in-PlaceBegin.size) c.in-PlaceBegin.field-2 (token Comma) zero_leaf (token CloseParen)
    (c.nesting_of.ensures ∙ ap (λ (m : Measured). height_up_to (height (plain_measured m))) c.get-in-PlaceBegin.ensures) refl)
