-- The tables of a node as functions.
use Rattle.std.specs.Prelude.{ℕ, ◌==◌, ◌&&◌, Bool, Option, Some, None, nat_eq}
use Rattle.std.specs.HashMap.{get}
use Rattle.jd_value.specs.declared.reference.RefId.{RefId}
use Rattle.jd_task.specs.declared.job.TaskId.{TaskId}
use Rattle.jd_model.specs.declared.life.Stage.{Stage}
use Rattle.jd_model.specs.Node.{Running, OpenAsk}
use Rattle.jd_model.specs.Table.{put2}
use Rattle.jd_node.specs.declared.tasks.Tasks.{Tasks}
use Rattle.jd_node.specs.declared.cells.Cells.{Cells}
use Rattle.jd_node.specs.declared.asks.Asks.{Asks}

abbrev pub is_same_task : TaskId → TaskId → Bool
is_same_task a b = a.process == b.process && a.number == b.number

abbrev pub is_same_cell : RefId → RefId → Bool
is_same_cell a b = a.maker == b.maker && (a.number == b.number && a.owner == b.owner)

-- by the process that called them and their numbers there
unfoldable pub tasks_of : Tasks → ℕ → ℕ → Option Running
tasks_of t p n = get is_same_task t.rows (record { process = p; number = n })

-- by maker, number and owner
unfoldable pub cells_of : {V : Type 0} → Cells V → ℕ → ℕ → ℕ → Option V
cells_of c m n o = get is_same_cell c.rows (record { maker = m; number = n; owner = o })

-- by number
unfoldable pub asks_of : Asks → ℕ → Option OpenAsk
asks_of t a = get nat_eq t.rows a

abbrev pub no_tasks : ℕ → ℕ → Option Running
no_tasks p n = None

abbrev pub no_cells : {V : Type 0} → ℕ → ℕ → ℕ → Option V
no_cells m n o = None

abbrev pub no_asks : ℕ → Option OpenAsk
no_asks a = None

-- a task that is there is at this stage from now on
abbrev pub staged : (ℕ → ℕ → Option Running) → TaskId → Stage → Option Running → ℕ → ℕ → Option Running
staged f t st None = f
staged f t st (Some k) = put2 f t.process t.number (Some (record k { stage = st }))
