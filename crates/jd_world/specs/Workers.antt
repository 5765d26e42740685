-- The workers of the simulated cluster as functions.
use Rattle.std.specs.Prelude.{◌≡◌, ◌≢◌, ℕ, List, [], ◌∷◌, ◌++◌, Option, Some, None, map}
use Rattle.std.specs.Ordering.{nat_cmp}
use Rattle.std.specs.BTreeMap.{get}
use Rattle.jd_task.specs.declared.msg.Msg.{Msg}
use Rattle.jd_model.specs.declared.mark.Mark.{Mark}
use Rattle.jd_model.specs.declared.event.Event.{Event}
use Rattle.jd_model.specs.declared.event.Event.TheVariants.{Emit, Deliver, Run}
use Rattle.jd_model.specs.Table.{put, put2}
use Rattle.jd_model.specs.Node.{Node, Stepped, first_node, delivered, ran}
use Rattle.jd_model.specs.World.{marked}
use Rattle.jd_node.specs.View.{node_of}
use Rattle.jd_node.specs.Mail.{mail_of, no_mail}
use Rattle.jd_world.specs.declared.worker.Worker.{Worker}
use Rattle.jd_world.specs.declared.workers.Workers.{Workers}

abbrev pub worker_node : ℕ → Option Worker → Node
worker_node count None = first_node count
worker_node count (Some w) = node_of w.node

abbrev pub worker_links : Option Worker → ℕ → List Msg
worker_links None = no_mail
worker_links (Some w) = mail_of w.links

-- the nodes by their numbers
unfoldable pub nodes_of : Workers → ℕ → Node
nodes_of ws p = worker_node ws.count (get nat_cmp ws.rows p)

-- the messages on the link to the first process from the second
unfoldable pub links_to : Workers → ℕ → ℕ → List Msg
links_to ws q = worker_links (get nat_cmp ws.rows q)

-- the first message on the link from that process arrives at the node of this number
pub record Arrives (number from : ℕ) (old new : Node) (old_links new_links : ℕ → List Msg) (marks marks' : List Mark) : Type 0 where
  pub msg : Msg
  pub rest : List Msg
  pub front : old_links from ≡ msg ∷ rest
  pub links : new_links ≡ put old_links from rest
  pub node : new ≡ (delivered from msg old).node
  pub recorded : marks' ≡ marks ++ map (marked number) (delivered from msg old).effects

-- the oldest task of the node that can go on goes on
pub record Runs (number : ℕ) (old new : Node) (marks marks' : List Mark) : Type 0 where
  pub step : Stepped
  pub ran : ran number old old.ready ≡ Some step
  pub node : new ≡ step.node
  pub recorded : marks' ≡ marks ++ map (marked number) step.effects

abbrev pub no_links : ℕ → ℕ → List Msg
no_links q p = []

-- the oldest message of that process to the other leaves its outbox
pub record EmitsAt (p q : ℕ) (m : Msg) (old new : ℕ → Node) : Type 0 where
  pub rest : List Msg
  pub front : (old p).outbox q ≡ m ∷ rest
  pub after : new ≡ put old p (record (old p) { outbox = put (old p).outbox q rest })

-- the first message on the link from that process arrives at the worker of this number
pub record ArrivesAt (q from : ℕ) (old new : Workers) (marks marks' : List Mark) : Type 0 where
  pub msg : Msg
  pub rest : List Msg
  pub front : links_to old q from ≡ msg ∷ rest
  pub links : links_to new ≡ put2 (links_to old) q from rest
  pub nodes : nodes_of new ≡ put (nodes_of old) q (delivered from msg (nodes_of old q)).node
  pub recorded : marks' ≡ marks ++ map (marked q) (delivered from msg (nodes_of old q)).effects

-- the oldest task of that worker that can go on goes on
pub record RunsAt (q : ℕ) (old new : Workers) (marks marks' : List Mark) : Type 0 where
  pub step : Stepped
  pub ran : ran q (nodes_of old q) (nodes_of old q).ready ≡ Some step
  pub nodes : nodes_of new ≡ put (nodes_of old) q step.node
  pub recorded : marks' ≡ marks ++ map (marked q) step.effects

-- nothing of the worker can move, nor on a link to it
pub record IsIdle (w : Worker) : Type 0 where
  pub outbox : (q : ℕ) → (node_of w.node).outbox q ≡ []
  pub link : (q : ℕ) → mail_of w.links q ≡ []
  pub ready : (p : ℕ) → ran p (node_of w.node) (node_of w.node).ready ≡ None

-- the event moves something of the worker of this number, or on a link to it
abbrev pub CanMove : Worker → ℕ → Event → Type 0
CanMove w number (Emit p q) = (p ≡ number) × ((node_of w.node).outbox q ≢ [])
CanMove w number (Deliver q p) = (p ≡ number) × (mail_of w.links q ≢ [])
CanMove w number (Run p) = (p ≡ number) × ((r : ℕ) → ran r (node_of w.node) (node_of w.node).ready ≢ None)
