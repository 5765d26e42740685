use Rattle.std.proofs.Common.{refl, sym, subst}
use Rattle.jd_world.specs.declared.worker.Worker.{Worker}
use Rattle.jd_world.specs.Rows.{AreKeyed}
use Rattle.jd_world.proofs.Written.{written, if_ok, on_err, arrives_at, arrives_not, arrives_can, keyed_written}
use Rattle.jd_world.proofs.workers.Workers.arrive.Goals as goal

pub returns-in-Some-clause-none : goal.returns-in-Some-clause-none
returns-in-Some-clause-none c = if_ok c.arrive.result c.arrive.ensures.none (λ went h e.
    let n = h e in let x = arrives_not _ _ _ c.args.from _ _ (written c.args.self.now _ c.args.to c.in-Some.worker.now _ refl c.in-Some.ensures.value (c.get_mut.follows.holds _).3) n.0 n.1 n.2 in (x.0, x.1, x.2, n.3))

pub returns-in-Some-clause-went : goal.returns-in-Some-clause-went
returns-in-Some-clause-went c = if_ok c.arrive.result c.arrive.ensures.went (λ went h e. arrives_at _ _ _ c.args.from _ _ _ _ (written c.args.self.now _ c.args.to c.in-Some.worker.now _ refl c.in-Some.ensures.value (c.get_mut.follows.holds _).3) (h e))

pub returns-in-Some-clause-can : goal.returns-in-Some-clause-can
returns-in-Some-clause-can c = on_err c.arrive.result c.arrive.ensures.can (arrives_can c.args.self.now c.args.to c.args.from c.in-Some.worker.now c.in-Some.ensures.value)

pub invariant_of-self-clause-keyed : goal.invariant_of-self-clause-keyed
invariant_of-self-clause-keyed c = subst AreKeyed (sym c.get_mut.follows.holds-at-none) c.args.self.now.keyed

pub invariant_of-self-in-Some-clause-keyed : goal.invariant_of-self-in-Some-clause-keyed
invariant_of-self-in-Some-clause-keyed c = let w : Worker = record { node = c.arrive.new.node; links = c.arrive.new.links } in
    keyed_written c.args.self.now.rows (c.get_mut.follows.lender w) c.args.to c.in-Some.worker.now w c.args.self.now.keyed c.in-Some.ensures.value (c.get_mut.follows.holds w).3 c.arrive.ensures.id
