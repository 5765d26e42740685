use Rattle.std.proofs.Common.{refl, sym, subst}
use Rattle.jd_world.specs.declared.worker.Worker.{Worker}
use Rattle.jd_world.specs.Rows.{AreKeyed}
use Rattle.jd_world.proofs.Written.{written, if_ok, on_err, runs_at, runs_not, runs_can, same_links, keyed_written}
use Rattle.jd_world.proofs.workers.Workers.go_on.Goals as goal

pub returns-in-Some-clause-none : goal.returns-in-Some-clause-none
returns-in-Some-clause-none c = if_ok c.go_on.result c.go_on.ensures.none (λ went h e.
    let n = h e in let x = runs_not _ _ _ _ _ (written c.args.self.now _ c.args.number c.in-Some.worker.now _ refl c.in-Some.ensures.value (c.get_mut.follows.holds _).3) n.0 n.1 in (x.0, x.1, n.2))

pub returns-in-Some-clause-went : goal.returns-in-Some-clause-went
returns-in-Some-clause-went c = if_ok c.go_on.result c.go_on.ensures.went (λ went h e. runs_at _ _ _ _ _ _ _ (written c.args.self.now _ c.args.number c.in-Some.worker.now _ refl c.in-Some.ensures.value (c.get_mut.follows.holds _).3) (h e))

pub returns-in-Some-clause-links : goal.returns-in-Some-clause-links
returns-in-Some-clause-links c = same_links _ _ _ _ _ (written c.args.self.now _ c.args.number c.in-Some.worker.now _ refl c.in-Some.ensures.value (c.get_mut.follows.holds _).3) refl

pub returns-in-Some-clause-can : goal.returns-in-Some-clause-can
returns-in-Some-clause-can c = on_err c.go_on.result c.go_on.ensures.can (runs_can c.args.self.now c.args.number c.in-Some.worker.now c.in-Some.ensures.value)

pub invariant_of-self-clause-keyed : goal.invariant_of-self-clause-keyed
invariant_of-self-clause-keyed c = subst AreKeyed (sym c.get_mut.follows.holds-at-none) c.args.self.now.keyed

pub invariant_of-self-in-Some-clause-keyed : goal.invariant_of-self-in-Some-clause-keyed
invariant_of-self-in-Some-clause-keyed c = let w : Worker = record { node = c.go_on.new.node; links = c.in-Some.worker.now.links } in
    keyed_written c.args.self.now.rows (c.get_mut.follows.lender w) c.args.number c.in-Some.worker.now w c.args.self.now.keyed c.in-Some.ensures.value (c.get_mut.follows.holds w).3 c.go_on.ensures.id
