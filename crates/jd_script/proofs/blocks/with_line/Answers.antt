use Rattle.jd_script.specs.CodeScript.{plain_place}
use Rattle.jd_script.proofs.Statements.{line_end, line_height}
use Rattle.jd_script.proofs.blocks.with_line.Goals as goal

pub invariant_of-result : goal.invariant_of-result
invariant_of-result c = record {
  measured = line_height c.args.lines.items c.in_ok-stmt.stmt c.args.separator (plain_place c.args.place) c.push.new.self c.args.lines.nesting c.nesting_of.result c.max-nesting.result
      c.in_ok-push.ensures.ok c.in_ok-stmt.ensures c.args.lines.measured c.nesting_of.ensures c.max-nesting.ensures;
}

pub returns : goal.returns
returns c = line_end c.args.lines.items c.in_ok-stmt.stmt c.args.separator (plain_place c.args.place) c.push.new.self c.in_ok-push.ensures.ok c.in_ok-stmt.ensures
