-- The requests that wait at a node.
use Rattle.std.specs.Prelude.{List, map, filter}
use Rattle.jd_value.specs.declared.reference.RefId.{RefId}
use Rattle.jd_value.specs.declared.reference.Ask.{Ask}
use Rattle.jd_model.specs.Machine.{is_same}
use Rattle.jd_model.specs.Node.{Waiting}
use Rattle.jd_node.specs.declared.waits.Waits.{Waits}

-- in the order of their arrival
unfoldable pub waits_of : Waits → List Waiting
waits_of w = w.rows.items

-- those that wait for this cell
abbrev pub asks_at : RefId → List Waiting → List Ask
asks_at r ws = map (λ w. w.ask) (filter (λ w. is_same r w.cell) ws)
