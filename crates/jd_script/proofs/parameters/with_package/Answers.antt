use Rattle.jd_grammar.specs.Script.{using_first}
use Rattle.jd_script.proofs.Definitions.{packages_end}
use Rattle.jd_script.proofs.parameters.with_package.Goals as goal

pub returns : goal.returns
returns c = packages_end (using_first c.args.packages.word c.args.packages.first) c.args.packages.others c.push.new.self (record { comma = c.args.comma; name = c.args.name }) c.in_ok-push.ensures.ok
