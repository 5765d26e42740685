use Rattle.std.proofs.Common.{ap, arith}
use Rattle.jd_grammar.specs.ScriptDepth.{height_before}
use Rattle.jd_script.proofs.Statements.{arm_end}
use Rattle.jd_script.proofs.blocks.with_arm.Goals as goal

pub invariant_of-result : goal.invariant_of-result
invariant_of-result c = record {
  measured =
      let e = ap height_before (arm_end c.args.arms.items c.args.opening.opening c.args.block.block c.push.new.self c.in_ok-push.ensures.ok) in omega (arith, e);
}

pub returns : goal.returns
returns c = arm_end c.args.arms.items c.args.opening.opening c.args.block.block c.push.new.self c.in_ok-push.ensures.ok
