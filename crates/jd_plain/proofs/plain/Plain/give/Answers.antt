use Rattle.std.proofs.Common.{◌≡◌, ap, ◌∙◌}
use Rattle.jd_model.specs.Machine.{refreshed}
use Rattle.jd_plain.specs.State.{state_of}
use Rattle.jd_plain.proofs.Given.{three_tables}
use Rattle.jd_plain.proofs.plain.Plain.give.Goals as goal

pub returns : goal.returns
returns c =
    let s = state_of c.args.self.now in
    c.in_ok-refresh.ensures
    ∙ ap (λ x. refreshed x c.args.gift.ask.process) (three_tables s _ _ _ _ _ _ c.set_stage.ensures c.set_answer.ensures c.in_ok-add.ensures)
