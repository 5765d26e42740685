use Rattle.std.proofs.Common.{◌∙◌}
use Rattle.jd_tree.proofs.Peeling.{group_step}
use Rattle.jd_tree.proofs.peel.take_groups.Goals as goal

pub loop-application-preserved : goal.loop-application-preserved
loop-application-preserved c = λ f h.
    let i = c.loop-application.invariant f h in
    let s = group_step f c.loop-application.applications c.pop.new.self c.in-Some.application c.loop-application.taken_off c.push.new.self c.group_of.result
    c.in-Some.ensures c.group_of.ensures c.in_ok-push.ensures.ok i.chain in
    record { chain = s.chain; cells = i.cells ∙ s.cells }
