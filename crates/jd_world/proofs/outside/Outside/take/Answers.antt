use Rattle.std.proofs.Common.{refl}
use Rattle.jd_world.proofs.Views.{taken, nothing_taken}
use Rattle.jd_world.proofs.outside.Outside.take.Goals as goal

pub returns-in-None-clause-taken : goal.returns-in-None-clause-taken
returns-in-None-clause-taken c = (λ p. nothing_taken c.args.self.now.workers c.args.self.now.to_main c.args.self.now.events c.args.self.now.marks.items c.in-None.ensures p, refl)

pub returns-in-Some-pop-clause-taken : goal.returns-in-Some-pop-clause-taken
returns-in-Some-pop-clause-taken c =
    let e = c.in-Some-pop.ensures in
    taken c.args.self.now.workers c.args.self.now.to_main c.pop.new.self c.args.self.now.events c.args.self.now.marks.items c.in-Some.from c.in-Some-pop.msg e.0 e.1 e.2
