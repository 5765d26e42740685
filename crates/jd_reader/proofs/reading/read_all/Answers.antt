use Rattle.std.proofs.Common.{Some}
use Rattle.jd_grammar.proofs.Refuse.{run_next, read_sound}
use Rattle.jd_script.specs.PlainScript.{plain_block}
use Rattle.jd_reader.specs.Reading.{plain_config}
use Rattle.jd_reader.proofs.Verdicts.{stopped_there, ended_there, deep_at, within_limit}
use Rattle.jd_reader.proofs.reading.read_all.Goals as goal

pub returns-in-Err-clause-refused : goal.returns-in-Err-clause-refused
returns-in-Err-clause-refused c =
    let l = c.loop-place in
    stopped_there c.args.tokens.now l.place _ (plain_config l.config) c.in-Err.stop c.refusal_of.result c.fault_of.result c.loop-place-test.true l.invariant.read l.invariant.within c.in-Err.ensures c.refusal_of.ensures c.fault_of.ensures

pub returns-then-script_needs-gt-NESTING_LIMIT-clause-refused : goal.returns-then-script_needs-gt-NESTING_LIMIT-clause-refused
returns-then-script_needs-gt-NESTING_LIMIT-clause-refused c =
    let l = c.loop-place in
    deep_at c.args.tokens.now l.place _ (plain_config l.config) (plain_config c.in-Ok.next) c.script_needs.result c.refusal_of-then-script_needs-gt-NESTING_LIMIT.result c.loop-place-test.true l.invariant.read l.invariant.within c.in-Ok.ensures
    c.script_needs.ensures c.if-script_needs-gt-NESTING_LIMIT.true c.refusal_of-then-script_needs-gt-NESTING_LIMIT.ensures

pub read_stretch-requires : goal.read_stretch-requires
read_stretch-requires c =
    let l = c.loop-place in
    record {
      read = run_next c.args.tokens.now l.place _ (plain_config l.config) (Some (plain_config c.in-Ok.next)) c.loop-place-test.true l.invariant.read c.in-Ok.ensures;
      within = within_limit (plain_config c.in-Ok.next) c.script_needs.result c.script_needs.ensures c.if-script_needs-gt-NESTING_LIMIT.false;
    }

pub returns-in-Ok-finish-clause-found : goal.returns-in-Ok-finish-clause-found
returns-in-Ok-finish-clause-found c =
    let l = c.loop-place in
    read_sound c.args.tokens.now l.place (plain_config l.config) (plain_block c.in-Ok-finish.block) c.loop-place-test.false l.invariant.read l.invariant.within c.in-Ok-finish.ensures

pub returns-in-Err-finish-clause-refused : goal.returns-in-Err-finish-clause-refused
returns-in-Err-finish-clause-refused c =
    let l = c.loop-place in
    ended_there c.args.tokens.now l.place (plain_config l.config) c.in-Err-finish.stop c.fault_of-in-Err-finish.result c.loop-place-test.false l.invariant.read l.invariant.within c.in-Err-finish.ensures c.fault_of-in-Err-finish.ensures
