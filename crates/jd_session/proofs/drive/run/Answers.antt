use Rattle.std.proofs.Common.{◌≡◌, ◌∙◌, subst, sym, ap, refl, IfSome}
use Rattle.jd_node.specs.View.{node_of}
use Rattle.jd_model.specs.Node.{Node}
use Rattle.jd_session.specs.Headline.{IsJoined}
use Rattle.jd_session.proofs.Kept.{begun_run}
use Rattle.jd_session.proofs.Joins.{join_first}
use Rattle.jd_session.proofs.drive.run.Goals as goal

pub returns-in-Ok-begin-clause-run : goal.returns-in-Ok-begin-clause-run
returns-in-Ok-begin-clause-run g c =
    let program = c.args.program.now in
    let start = c.args.start.now in
    let first = join_first program start _ _ (g.K.Sink.written c.args.out.now) c.in-Ok-begin.ensures.first in
    let P : Node → Type 0 = λ n. IsJoined program start n (g.F.Fabric.told c.begin.new.self) (g.K.Sink.written c.args.out.now) (g.K.Sink.written c.args.out.now) in
    begun_run _ _ _ _ (c.drive-end.ensures.begun ∙ c.in-Ok-begin.ensures.begun)
    (refl, c.drive-end.ensures.run program start (g.K.Sink.written c.args.out.now) (sym c.in-Ok.ensures.workers) (subst P (sym c.in-Ok.ensures.hub) first))
