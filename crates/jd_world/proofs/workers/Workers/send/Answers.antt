use Rattle.std.proofs.Common.{◌++◌, ◌∷◌, [], refl, sym, subst}
use Rattle.jd_world.specs.declared.worker.Worker.{Worker}
use Rattle.jd_world.specs.Rows.{AreKeyed}
use Rattle.jd_world.proofs.Written.{written, same_nodes, link_written, keyed_written}
use Rattle.jd_world.proofs.workers.Workers.send.Goals as goal

pub returns-in-Ok-clause-nodes : goal.returns-in-Ok-clause-nodes
returns-in-Ok-clause-nodes c =
    same_nodes _ _ _ _ _ (written c.args.self.now _ c.args.to c.in-Some.worker.now _ refl c.in-Some.ensures.value (c.get_mut.follows.holds _).3) refl

pub returns-in-Ok-clause-links : goal.returns-in-Ok-clause-links
returns-in-Ok-clause-links c =
    link_written _ _ _ c.args.from _ _ (λ ms. ms ++ c.args.msg ∷ []) (written c.args.self.now _ c.args.to c.in-Some.worker.now _ refl c.in-Some.ensures.value (c.get_mut.follows.holds _).3)
    c.in-Ok.ensures

pub invariant_of-self-clause-keyed : goal.invariant_of-self-clause-keyed
invariant_of-self-clause-keyed c = subst AreKeyed (sym c.get_mut.follows.holds-at-none) c.args.self.now.keyed

pub invariant_of-self-in-Some-clause-keyed : goal.invariant_of-self-in-Some-clause-keyed
invariant_of-self-in-Some-clause-keyed c = let w : Worker = record { node = c.in-Some.worker.now.node; links = c.push.new.self } in
    keyed_written c.args.self.now.rows (c.get_mut.follows.lender w) c.args.to c.in-Some.worker.now w c.args.self.now.keyed c.in-Some.ensures.value (c.get_mut.follows.holds w).3 refl
