use Rattle.std.proofs.Common.{ap, ◌∙◌}
use Rattle.jd_model.specs.declared.life.Life.TheVariants.{Over}
use Rattle.jd_model.specs.Machine.{Task, refreshed, turned}
use Rattle.jd_plain.specs.State.{state_of}
use Rattle.jd_plain.proofs.plain.Plain.advance.Goals as goal

pub returns : goal.returns
returns c =
    let r = c.args.ready in
    let k : Task = record { home = r.home; cell = r.cell; life = Over } in
    c.in_ok-refresh.ensures
    ∙ ap (λ x. refreshed x r.home) (c.in_ok-turn.ensures ∙ ap (λ p. turned (state_of c.args.self.now) c.args.task k p.0 p.1) c.in_ok-done.ensures.went)
