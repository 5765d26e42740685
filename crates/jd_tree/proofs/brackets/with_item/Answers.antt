use Rattle.jd_tree.proofs.Lists.{item_end, item_height}
use Rattle.jd_tree.proofs.Measuring.{fields}
use Rattle.jd_tree.specs.Plain.{plain}
use Rattle.jd_tree.proofs.brackets.with_item.Goals as goal

pub invariant_of-result : goal.invariant_of-result
invariant_of-result c = record {
  measured = rw c.in_ok-push.ensures.ok (item_height c.args.most.items c.args.operand.expr c.args.separator c.args.most.nesting c.args.operand.profile.nesting c.max-nesting.result
      c.args.most.measured (fields c.args.operand.profile (plain c.args.operand.expr) c.args.operand.measured).nesting c.max-nesting.ensures);
}

pub returns : goal.returns
returns c = rw c.in_ok-push.ensures.ok (item_end c.args.most.items c.args.operand.expr c.args.separator)
