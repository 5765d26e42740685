use Rattle.std.proofs.Common.{◌||◌, ◌<◌, length, take, get_or, ap, sym, ◌∙◌, arith}
use Rattle.std.proofs.lemmas.List.Folds.{list_any_more}
use Rattle.jd_value.specs.declared.reference.RefId.{RefId}
use Rattle.jd_model.specs.Machine.{is_same, has}
use Rattle.jd_plain.specs.Occurs.{is_in}
use Rattle.jd_plain.proofs.Seen.{or_assoc}
use Rattle.jd_plain.proofs.occurs.add_all.Goals as goal

pub loop-cell-preserved : goal.loop-cell-preserved
loop-cell-preserved c =
    let cells = c.args.cells.now in let i = c.loop-cell.cell-index in let none : RefId = record { maker = 0; number = 0; owner = 0 } in
    let within : i < length cells = omega arith in
    λ r. let same = is_same r (get_or cells i none) in
    c.in_ok-add.ensures r ∙ ap (λ b. b || same) (c.loop-cell.invariant r) ∙ or_assoc (is_in c.args.found.now r) (has (take i cells) r) same
    ∙ ap (λ b. is_in c.args.found.now r || b) (sym (list_any_more (is_same r) cells i none within))
