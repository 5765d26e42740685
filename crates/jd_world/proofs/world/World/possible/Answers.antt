use Rattle.jd_node.specs.View.{node_of}
use Rattle.jd_world.specs.Outside.{told_of}
use Rattle.jd_world.proofs.Whole.{all_possible}
use Rattle.jd_world.proofs.world.World.possible.Goals as goal

pub returns-in-None : goal.returns-in-None
returns-in-None c = all_possible (told_of c.args.self.now.outside) (node_of c.args.self.now.hub) c.possible.result c.in-None.ensures c.possible.ensures
