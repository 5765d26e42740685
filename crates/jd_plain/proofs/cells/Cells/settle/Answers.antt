use Rattle.std.proofs.Common.{◌≡◌, Some, None, ap, ◌∙◌, sym, rules}
use Rattle.jd_model.specs.Machine.{joined, first_of}
use Rattle.jd_model.specs.Table.{put3}
use Rattle.jd_plain.specs.Tables.{cells_of}
use Rattle.jd_plain.proofs.Maps.{by_cell-put}
use Rattle.jd_plain.proofs.cells.Cells.settle.Goals as goal

pub returns : goal.returns
returns c =
    let unset : joined (cells_of c.args.self.now c.args.cell.maker c.args.cell.number c.args.cell.owner) ≡ None = search rules in
    by_cell-put c.args.self.now.held c.insert.new.self c.args.cell (Some (Some c.args.outcome)) c.in_ok-insert.ensures.updates.0
    ∙ ap (λ j. put3 (cells_of c.args.self.now) c.args.cell.maker c.args.cell.number c.args.cell.owner (Some (Some (first_of j c.args.outcome)))) (sym unset)
