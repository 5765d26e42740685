-- What can still go on.
use Rattle.std.specs.Prelude.{Bool, false, Option, None, Some, ◌||◌, ◌&&◌, not, is_some}
use Rattle.std.specs.HashMap.{keys}
use Rattle.std.specs.List.{list_any}
use Rattle.jd_model.specs.Machine.{State, line_of_task, Task, Request, goes_on, is_called, has_come, request_of, is_set, is_asked, outcome_of}
use Rattle.jd_plain.specs.declared.plain.Plain.{Plain}
use Rattle.jd_plain.specs.State.{state_of}

-- A mark of the task is legal, of its own process.
abbrev pub moves_task : State → Option Task → Bool
moves_task s None = false
moves_task s (Some k) =
    goes_on s k.home k.life || (is_called k.life || (has_come s k.home (request_of s k.home k.life) || is_set s (request_of s k.home k.life)))

-- The request can be answered by the owner of its cell.
abbrev pub moves_request : State → Option Request → Bool
moves_request s None = false
moves_request s (Some q) = is_asked q.answer && (not q.is_here && is_some (outcome_of s q.cell))

abbrev pub has_moving_task : Plain → Bool
has_moving_task x = list_any (λ t. moves_task (state_of x) ((state_of x).tasks t.process t.number)) (keys x.tasks.held)

abbrev pub has_moving_request : Plain → Bool
has_moving_request x = list_any (λ a. moves_request (state_of x) ((state_of x).requests a.process a.number)) (keys x.requests.held)

-- A task goes on or starts, a request is answered, or main prints.
abbrev pub has_moving : Plain → Bool
has_moving x = has_moving_task x || (has_moving_request x || is_some (line_of_task ((state_of x).tasks 1 0)))
