use Rattle.std.proofs.Common.{◌≡◌, ℕ, List, [], ◌∷◌, ◌++◌, refl, subst}
use Rattle.jd_task.specs.declared.msg.Msg.{Msg}
use Rattle.jd_model.specs.Table.{put}
use Rattle.jd_node.specs.Mail.{mail_of}
use Rattle.jd_world.proofs.Written.{on_ok, first_nodes, first_links, keyed_placed}
use Rattle.jd_world.proofs.workers.Workers.send_first.Goals as goal

pub returns-in-Ok-clause-nodes : goal.returns-in-Ok-clause-nodes
returns-in-Ok-clause-nodes c = on_ok c.place.result c.place.ensures.ok (λ u. first_nodes c.args.self.now _ c.args.to _ refl c.requires u c.new.ensures.node)

pub returns-in-Ok-clause-links : goal.returns-in-Ok-clause-links
returns-in-Ok-clause-links c = on_ok c.place.result c.place.ensures.ok (λ u.
    let P : (ℕ → List Msg) → Type 0 = λ l. mail_of c.push.new.self ≡ put l c.args.from (l c.args.from ++ c.args.msg ∷ []) in
    first_links c.args.self.now _ c.args.to c.args.from _ c.args.msg c.requires u (subst P c.new-2.ensures c.in-Ok.ensures))

pub invariant_of-self-clause-keyed : goal.invariant_of-self-clause-keyed
invariant_of-self-clause-keyed c =
    keyed_placed c.place.result c.args.self.now.rows c.place.new.rows c.args.to (record { node = c.new.result; links = c.push.new.self })
    c.args.self.now.keyed c.place.ensures.ok c.place.ensures.err c.new.ensures.id
