use Rattle.std.proofs.Common.{◌≡◌, List, [], ◌∷◌, drop, refl, ap, ◌∙◌}
use Rattle.jd_grammar.specs.Grammar.{sign}
use Rattle.jd_grammar.specs.Depth.{height}
use Rattle.jd_grammar.specs.Frames as machine
use Rattle.jd_grammar.specs.Shortest.{wrap, zero_leaf}
use Rattle.jd_tree.specs.Measures.{height_up_to}
use Rattle.jd_precedence.specs.declared.frames.Frame.{Frame}
use Rattle.jd_precedence.specs.State.{plain_frames}
use Rattle.jd_precedence.proofs.Nested.{none_needs, some_needs}
use Rattle.jd_precedence.proofs.depth.needs_of.Goals as goal

drop_one : (fs : List Frame) → plain_frames (drop 1 fs) ≡ drop 1 (plain_frames fs)
drop_one [] = refl
drop_one (f ∷ fs) = refl

pub returns-in-None : goal.returns-in-None
returns-in-None c = rw c.in-Wanted.is (none_needs (plain_frames c.args.frames.now) c.depth_from-least.result c.in-None.ensures (c.depth_from-least.ensures zero_leaf c.zero.ensures))

pub returns-in-Some : goal.returns-in-Some
returns-in-Some c =
    let fs = plain_frames c.args.frames.now in
    let s = c.in-Some.sign in
    rw c.in-Wanted.is (some_needs fs s c.depth_from.result c.depth_from-least.result c.min.result c.in-Some.ensures
    (c.depth_from.ensures (sign s) c.sign_profile.ensures ∙ ap (λ (x : List machine.Frame). height_up_to (height (wrap x (sign s)))) (drop_one c.args.frames.now))
    (c.depth_from-least.ensures zero_leaf c.zero.ensures) c.min.ensures)
