use Rattle.std.proofs.Common.{◌≡◌, map, sym, subst}
use Rattle.std.specs.Prelude.{OnOk}
use Rattle.jd_grammar.specs.Trees.{Cells}
use Rattle.jd_grammar.specs.Rows.{joined, cells_of}
use Rattle.jd_tree.specs.Plain.{applied, plain_application}
use Rattle.jd_tree.specs.Peeling.{taken}
use Rattle.jd_tree.proofs.Peeling.{call_off}
use Rattle.jd_tree.proofs.peel.take_call.Goals as goal

pub returns : goal.returns
returns c = λ f h.
    let o = call_off (applied f (map plain_application c.args.before)) c.args.last c.args.taken_off.now c.push.new.self c.in_ok-push.ensures.ok h in
    subst (λ (y : Cells). OnOk c.take_groups.result (y ≡ joined (cells_of f) (taken c.take_groups.new.taken_off))) (sym o.1) (c.take_groups.ensures f o.0)
