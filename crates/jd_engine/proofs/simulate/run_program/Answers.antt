use Rattle.std.proofs.Common.{subst}
use Rattle.jd_engine.specs.Headline.{RunsOn}
use Rattle.jd_engine.proofs.Ran.{runs_on}
use Rattle.jd_engine.proofs.simulate.run_program.Goals as goal

pub returns-clause-runs : goal.returns-clause-runs
returns-clause-runs g c =
    let p = c.args.program.now in
    let begun = g.F.Fabric.begun c.run-end.new.fabric in
    let told = g.F.Fabric.told c.run-end.new.fabric in
    let old = g.K.Sink.written c.args.out.now in
    let new = g.K.Sink.written c.run-end.new.out in
    subst (λ ls. RunsOn p (record { workers = c.args.workers; seed = 0; losses = ls }) c.ending_of.result begun told old new) c.new.ensures
    (runs_on p _ c.run-end.result c.ending_of.result begun told old new c.run-end.ensures.run c.ending_of.ensures)
