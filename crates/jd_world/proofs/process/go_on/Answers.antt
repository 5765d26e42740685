use Rattle.std.proofs.Common.{◌≡◌, ℕ, List, ◌++◌, map, Some, refl, ap, subst, ◌∙◌}
use Rattle.jd_model.specs.declared.mark.Effect.{Effect}
use Rattle.jd_model.specs.Node.{ran}
use Rattle.jd_model.specs.World.{marked}
use Rattle.jd_node.specs.View.{node_of, stepped_of}
use Rattle.jd_world.proofs.process.go_on.Goals as goal

pub returns-in-Ok-clause-went : goal.returns-in-Ok-clause-went
returns-in-Ok-clause-went c = λ _.
    let P : ℕ → Type 0 = λ p. ran p (node_of c.args.node.now) (node_of c.args.node.now).ready ≡ Some (stepped_of c.go_on.new.self) in
    record {
      step = stepped_of c.go_on.new.self;
      ran = subst P c.requires (c.in-Ok-true.ensures.went c.in-Ok-true.field-0-test);
      node = refl;
      recorded = c.in-Ok.ensures.ok ∙ ap (λ (es : List Effect). c.args.marks.now.items ++ map (marked c.args.number) es) c.effects.ensures;
    }
