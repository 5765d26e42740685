use Rattle.jd_tree.proofs.Lists.{generator_end, generator_height}
use Rattle.jd_tree.proofs.Measuring.{fields}
use Rattle.jd_tree.specs.Plain.{plain}
use Rattle.jd_tree.proofs.parts.with_generator.Goals as goal

pub invariant_of-result : goal.invariant_of-result
invariant_of-result c = record {
  measured = rw c.in_ok-push.ensures.ok (generator_height c.args.generators.items c.args.begins c.args.name c.args.within c.args.collection.expr
      c.args.generators.nesting c.args.collection.profile.nesting c.max-nesting.result
      c.args.generators.measured (fields c.args.collection.profile (plain c.args.collection.expr) c.args.collection.measured).nesting c.max-nesting.ensures);
}

pub returns : goal.returns
returns c = rw c.in_ok-push.ensures.ok (generator_end c.args.generators.items c.args.begins c.args.name c.args.within c.args.collection.expr)
