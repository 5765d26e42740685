use Rattle.std.proofs.Common.{Option, sym, subst, ◌∙◌}
use Rattle.jd_grammar.specs.Frames.{State}
use Rattle.jd_tree.specs.Code.{plain_measured, plain_arguments, plain_bracket}
use Rattle.jd_precedence.specs.State.{plain_frames, Steps}
use Rattle.jd_precedence.proofs.First.{wide_first}
use Rattle.jd_precedence.proofs.operands.wide_item.Goals as goal

pub returns : goal.returns
returns c =
    let l = c.args.listing in
    subst (λ (x : Option State). Steps x c.args.frames.now c.least_atom.result)
    (wide_first (plain_measured c.args.left) c.args.operator (plain_bracket l.bracket) l.opens (plain_arguments l.most) c.args.token (plain_frames c.args.frames.now) (sym c.is_first.ensures ∙ c.if-not-is_first.false))
    c.least_atom.ensures
