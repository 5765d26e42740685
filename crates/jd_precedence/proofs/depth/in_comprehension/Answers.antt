use Rattle.std.proofs.Common.{max, ap, arith}
use Rattle.jd_grammar.specs.Depth.{height, height_generators}
use Rattle.jd_grammar.specs.Machine.{with_generator}
use Rattle.jd_tree.specs.declared.profile.Profile.{Profile}
use Rattle.jd_tree.specs.Code.{plain_measured, plain_generators}
use Rattle.jd_precedence.proofs.Nested.{generators_height}
use Rattle.jd_precedence.proofs.depth.in_comprehension.Goals as goal

pub returns : goal.returns
returns c = λ t n i e z h.
    let x = c.args.comprehension.now.element in
    let gens = plain_generators c.args.comprehension.now.generators in
    c.round_profile.ensures (max (height (plain_measured x)) (height_generators (with_generator gens t n i e)))
    (omega (arith, generators_height gens t n i e, ap (λ (p : Profile). p.nesting) x.measured, c.args.comprehension.now.generators.measured))
