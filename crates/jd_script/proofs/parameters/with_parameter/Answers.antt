use Rattle.std.proofs.Common.{nat_eq, nat_cmp, ◌||◌, ap, ◌∙◌}
use Rattle.std.specs.BTreeSet.{contains}
use Rattle.jd_script.specs.PlainScript.{begin_names, plain_parameters}
use Rattle.jd_script.proofs.Definitions.{parameters_end, numbers_more}
use Rattle.jd_script.proofs.parameters.with_parameter.Goals as goal

pub invariant_of-result : goal.invariant_of-result
invariant_of-result c =
    let all = parameters_end (begin_names c.args.parameters.parameters.first) c.args.parameters.parameters.others c.push.new.self (record { comma = c.args.comma; name = c.args.name }) c.in_ok-push.ensures.ok in
    record {
      named = numbers_more c.args.parameters.keys c.insert.new.set (plain_parameters c.args.parameters.parameters) (plain_parameters (record { first = c.args.parameters.parameters.first; others = c.push.new.self }))
          c.args.comma c.args.name all c.args.parameters.named
          (λ q. c.in_ok-insert.ensures.others q ∙ ap (λ k. nat_eq q k || contains nat_cmp c.args.parameters.keys q) c.key_of.ensures);
    }

pub returns : goal.returns
returns c = parameters_end (begin_names c.args.parameters.parameters.first) c.args.parameters.parameters.others c.push.new.self (record { comma = c.args.comma; name = c.args.name }) c.in_ok-push.ensures.ok
