-- The machine's tables, of the maps that the code holds.
use Rattle.std.specs.Prelude.{ℕ, ◌==◌, ◌&&◌, Bool, List, [], Option, option_map, unwrap_or, nat_eq}
use Rattle.std.specs.Global.{Vec}
use Rattle.std.specs.HashMap.{get}
use Rattle.jd_value.specs.declared.reference.RefId.{RefId}
use Rattle.jd_value.specs.declared.reference.Ask.{Ask}
use Rattle.jd_task.specs.declared.job.TaskId.{TaskId}
use Rattle.jd_model.specs.Outcome.{Outcome}
use Rattle.jd_model.specs.Machine.{Task, Request}
use Rattle.jd_plain.specs.declared.tasks.Tasks.{Tasks}
use Rattle.jd_plain.specs.declared.requests.Requests.{Requests}
use Rattle.jd_plain.specs.declared.cells.Cells.{Cells}
use Rattle.jd_plain.specs.declared.counts.Counts.{Counts}
use Rattle.jd_plain.specs.declared.fetched.Fetched.{Fetched}
use Rattle.jd_plain.specs.Held.{task_of, request_of}

-- ---- the equality of keys

abbrev pub same_task : TaskId → TaskId → Bool
same_task t u = t.process == u.process && t.number == u.number

abbrev pub same_ask : Ask → Ask → Bool
same_ask a b = a.process == b.process && a.number == b.number

abbrev pub same_cell : RefId → RefId → Bool
same_cell r x = r.maker == x.maker && (r.number == x.number && r.owner == x.owner)

-- ---- the tables

abbrev pub tasks_of : Tasks → ℕ → ℕ → Option Task
tasks_of t p n = option_map task_of (get same_task t.held (record { process = p; number = n }))

abbrev pub requests_of : Requests → ℕ → ℕ → Option Request
requests_of t p a = option_map request_of (get same_ask t.held (record { process = p; number = a }))

abbrev pub cells_of : Cells → ℕ → ℕ → ℕ → Option (Option Outcome)
cells_of t m n o = get same_cell t.held (record { maker = m; number = n; owner = o })

abbrev pub counts_of : Counts → ℕ → ℕ
counts_of t p = unwrap_or (get nat_eq t.held p) 0

abbrev pub items_of : Vec RefId → List RefId
items_of v = v.items

abbrev pub fetched_of : Fetched → ℕ → List RefId
fetched_of t p = unwrap_or (option_map items_of (get nat_eq t.held p)) []
