use Rattle.jd_world.proofs.Views.{linked_worker}
use Rattle.jd_world.proofs.Moving.{not_main}
use Rattle.jd_world.proofs.list_fabric.ListFabricFabric.send.Goals as goal

pub returns-in-Ok-clause-sent : goal.returns-in-Ok-clause-sent
returns-in-Ok-clause-sent c =
    linked_worker c.args.self.now.outside.workers c.send.new.self c.args.self.now.outside.to_main _ _ 1 _ _ (not_main c.args.self.now.begun c.args.to c.requires) c.in-Ok.ensures.nodes c.in-Ok.ensures.links
