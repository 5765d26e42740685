use Rattle.std.proofs.Common.{refl, sym, subst}
use Rattle.jd_world.specs.declared.worker.Worker.{Worker}
use Rattle.jd_world.specs.Rows.{AreKeyed}
use Rattle.jd_world.proofs.Written.{written, emitted_at, same_links, keyed_written}
use Rattle.jd_world.proofs.workers.Workers.emit.Goals as goal

pub returns-in-Some-clause-nodes : goal.returns-in-Some-clause-nodes
returns-in-Some-clause-nodes c = emitted_at _ _ _ c.args.to _ _ c.emit.result (written c.args.self.now _ c.args.from c.in-Some.worker.now _ refl c.in-Some.ensures.value (c.get_mut.follows.holds _).3) c.emit.ensures.sent

pub returns-in-Some-clause-links : goal.returns-in-Some-clause-links
returns-in-Some-clause-links c = same_links _ _ _ _ _ (written c.args.self.now _ c.args.from c.in-Some.worker.now _ refl c.in-Some.ensures.value (c.get_mut.follows.holds _).3) refl

pub invariant_of-self-clause-keyed : goal.invariant_of-self-clause-keyed
invariant_of-self-clause-keyed c = subst AreKeyed (sym c.get_mut.follows.holds-at-none) c.args.self.now.keyed

pub invariant_of-self-in-Some-clause-keyed : goal.invariant_of-self-in-Some-clause-keyed
invariant_of-self-in-Some-clause-keyed c = let w : Worker = record { node = c.emit.new.self; links = c.in-Some.worker.now.links } in
    keyed_written c.args.self.now.rows (c.get_mut.follows.lender w) c.args.from c.in-Some.worker.now w c.args.self.now.keyed c.in-Some.ensures.value (c.get_mut.follows.holds w).3 c.emit.ensures.id
