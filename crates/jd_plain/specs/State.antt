-- The state that the code's machine stands for.
use Rattle.std.specs.Prelude.{Bool, false}
use Rattle.jd_model.specs.Machine.{State, is_listed}
use Rattle.jd_plain.specs.declared.plain.Plain.{Plain}
use Rattle.jd_plain.specs.Tables.{tasks_of, requests_of, cells_of, counts_of, fetched_of}

-- No process is lost: there is no effect that loses one.
abbrev pub state_of : Plain → State
state_of p =
    record {
      workers = p.workers;
      tasks = tasks_of p.tasks;
      requests = requests_of p.requests;
      cells = cells_of p.cells;
      called = counts_of p.called;
      asked = counts_of p.asked;
      made = counts_of p.made;
      running = p.running.items;
      fetched = fetched_of p.fetched;
      may_lose = is_listed p.losses;
      lost = λ w. false;
      noticed = λ p w. false;
      lines = p.lines;
      ending = p.ending;
    }

-- A mark was begun and not done, for want of memory.
abbrev pub is_broken : Plain → Bool
is_broken p = p.broken
