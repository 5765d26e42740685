use Rattle.jd_world.proofs.Views.{told_start}
use Rattle.jd_world.proofs.outside.Outside.new.Goals as goal

pub returns-clause-told : goal.returns-clause-told
returns-clause-told c = told_start _ _ c.args.workers _ c.new.ensures.nodes c.new.ensures.links c.new-2.ensures c.new-3.ensures.items
