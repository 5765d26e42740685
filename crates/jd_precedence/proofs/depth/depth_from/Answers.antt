use Rattle.std.proofs.Common.{◌≡◌, ◌+◌, List, drop, sym, ap, subst, ◌∙◌}
use Rattle.jd_grammar.specs.Grammar.{Syntax}
use Rattle.jd_grammar.specs.Depth.{height}
use Rattle.jd_grammar.specs.Shortest.{wrap}
use Rattle.jd_tree.specs.Measures.{height_up_to}
use Rattle.jd_tree.specs.declared.profile.Profile.{Profile}
use Rattle.jd_precedence.specs.declared.frames.Frame.{Frame}
use Rattle.jd_precedence.specs.State.{plain_frame, plain_frames}
use Rattle.jd_precedence.specs.Depths.{wrapped}
use Rattle.jd_precedence.proofs.Nested.{wrap_next}
use Rattle.jd_precedence.proofs.depth.depth_from.Goals as goal

pub loop-frame-preserved : goal.loop-frame-preserved
loop-frame-preserved c = λ e h.
    let i = c.loop-frame.invariant e h in (
      wrapped (plain_frame c.in-Some.frame.now) i.0,
      c.around-operand.ensures i.0 i.1,
      sym (wrap_next (plain_frame c.in-Some.frame.now) (plain_frames (drop (c.loop-frame.at + 1) c.args.frames.now)) i.0)
          ∙ subst (λ (fs : List Frame). wrap (plain_frames fs) i.0 ≡ wrap (plain_frames (drop c.args.from c.args.frames.now)) e) c.in-Some.ensures.rest i.2,
    )

pub returns : goal.returns
returns c = λ e h.
    let i = c.loop-frame.invariant e h in
    ap (λ (p : Profile). p.nesting) i.1
    ∙ ap (λ (x : Syntax). height_up_to (height x)) (subst (λ (fs : List Frame). wrap (plain_frames fs) i.0 ≡ wrap (plain_frames (drop c.args.from c.args.frames.now)) e) c.in_default.ensures.rest i.2)
