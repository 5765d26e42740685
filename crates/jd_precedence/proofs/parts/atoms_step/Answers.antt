use Rattle.std.proofs.Common.{Option, sym, subst, ◌∙◌}
use Rattle.jd_grammar.specs.Frames.{State}
use Rattle.jd_precedence.specs.State.{plain_hold, plain_frames, Steps}
use Rattle.jd_precedence.proofs.First.{atoms_such, atoms_other, atoms_none}
use Rattle.jd_precedence.proofs.parts.atoms_step.Goals as goal

pub returns-then-is_row_end : goal.returns-then-is_row_end
returns-then-is_row_end c = subst (λ (x : Option State). Steps x c.args.frames.now c.row_end_step.result)
    (atoms_such (plain_hold c.args.hold) c.args.token.kind c.args.token (plain_frames c.args.frames.now) (sym c.is_row_end.ensures ∙ c.if-is_row_end.true)) c.row_end_step.ensures

pub returns-then-not-takes : goal.returns-then-not-takes
returns-then-not-takes c = rw c.refuse.ensures (atoms_none (plain_hold c.args.hold) c.args.token.kind c.args.token (plain_frames c.args.frames.now) (sym c.is_row_end.ensures ∙ c.if-is_row_end.false) (sym c.takes.ensures ∙ c.if-not-takes.true))

pub returns : goal.returns
returns c = subst (λ (x : Option State). Steps x c.atom_step.new.frames c.atom_step.result)
    (atoms_other (plain_hold c.args.hold) c.args.token.kind c.args.token (plain_frames c.args.frames.now) (sym c.is_row_end.ensures ∙ c.if-is_row_end.false) (sym c.takes.ensures ∙ c.if-not-takes.false)) c.atom_step.ensures
