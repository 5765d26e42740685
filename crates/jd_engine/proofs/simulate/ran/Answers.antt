use Rattle.jd_engine.proofs.Ran.{runs_named}
use Rattle.jd_engine.proofs.simulate.ran.Goals as goal

pub returns-in-Ok-clause-told : goal.returns-in-Ok-clause-told
returns-in-Ok-clause-told g c = λ command content named tells.
    runs_named _ c.in-Some.name.now content c.in-Some.workers _ c.in-Ok.program c.run_program.result _ _ _ _ c.in-Some.ensures c.in-Ok.ensures.loads c.run_program.ensures.runs command named tells
