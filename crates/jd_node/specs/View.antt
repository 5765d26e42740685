-- A node of the code as a node of the model.
use Rattle.std.specs.Prelude.{◌≡◌, ℕ, List, ◌++◌}
use Rattle.jd_model.specs.declared.mark.Effect.{Effect}
use Rattle.jd_model.specs.Noticed.{noticed_in}
use Rattle.jd_model.specs.Node.{Node, Stepped}
use Rattle.jd_node.specs.declared.node.Node as code
use Rattle.jd_node.specs.Mail.{mail_of}
use Rattle.jd_node.specs.Tables.{tasks_of, cells_of, asks_of}
use Rattle.jd_node.specs.Waits.{waits_of}

abbrev pub id_of : code.Node → ℕ
id_of n = n.id

-- the node that the code's maps and lists stand for
abbrev pub node_of : code.Node → Node
node_of n =
    record {
      workers = n.workers;
      tasks = tasks_of n.tasks;
      ready = n.ready.items;
      cells = cells_of n.cells;
      waiting = waits_of n.waits;
      asks = asks_of n.asks;
      cache = cells_of n.cache;
      called = n.called;
      asked = n.asked;
      made = n.made;
      noticed = noticed_in n.noticed.items;
      outbox = mail_of n.outbox;
      main_end = n.main_end;
    }

-- the effects of its last step
abbrev pub effects_of : code.Node → List Effect
effects_of n = n.effects.items

-- a node with the effects of its last step
abbrev pub stepped_of : code.Node → Stepped
stepped_of n = record { node = node_of n; effects = effects_of n }

-- a part of a step, whose effects come behind those before
pub record Makes (old : code.Node) (s : Stepped) (new : code.Node) : Type 0 where
  pub node : node_of new ≡ s.node
  pub effects : effects_of new ≡ effects_of old ++ s.effects
