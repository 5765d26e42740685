use Rattle.jd_tree.specs.Code.{plain_measured, plain_arguments, plain_bracket}
use Rattle.std.proofs.Common.{sym, ◌∙◌}
use Rattle.jd_precedence.proofs.Shapes.{shape_chain}
use Rattle.jd_precedence.proofs.brackets.close_step.Goals as goal

pub row_end-requires : goal.row_end-requires
row_end-requires c = shape_chain (plain_bracket c.args.listing.bracket) (plain_arguments c.args.listing.most) (plain_measured c.args.operand) (sym c.takes_last.ensures ∙ c.if-not-takes_last.true)
