use Rattle.std.proofs.Common.{◌++◌, ◌<◌, length, ap, ◌∙◌, sym, arith}
use Rattle.jd_value.specs.Shown.{shown}
use Rattle.jd_plain.proofs.Lines.{line-take}
use Rattle.jd_plain.proofs.print.text_of.Goals as goal

pub loop-value-preserved : goal.loop-value-preserved
loop-value-preserved c =
    let vs = c.args.values.now in let i = c.loop-value.value-index in let v = c.value-item.result in
    let within : i < length vs = omega arith in
    c.in_ok-print_value.ensures.ok ∙ ap (λ t. t ++ shown v) c.loop-value.invariant ∙ sym (line-take vs i v within c.value-item.is)
