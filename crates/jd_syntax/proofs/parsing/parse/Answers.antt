use Rattle.std.proofs.Common.{◌∙◌, ap, sym}
use Rattle.std.proofs.lemmas.List.{length-take-le}
use Rattle.jd_syntax.specs.Refusal.{IsRefused, line_at}
use Rattle.jd_syntax.specs.Answers.{plain_script}
use Rattle.jd_syntax.proofs.Places.{within}
use Rattle.jd_syntax.proofs.Refusals.{one_script, spells_cut, refused_once, not_both}
use Rattle.jd_syntax.proofs.parsing.parse.Goals as goal

pub returns-in-Ok-clause-only : goal.returns-in-Ok-clause-only
returns-in-Ok-clause-only c = λ s w. one_script c.args.bytes.now (plain_script c.in-Ok.script) s c.in-Ok.ensures w

pub returns-in-Ok-clause-cut : goal.returns-in-Ok-clause-cut
returns-in-Ok-clause-cut c = spells_cut c.args.bytes.now (plain_script c.in-Ok.script) c.in-Ok.ensures

pub returns-in-Ok-clause-told : goal.returns-in-Ok-clause-told
returns-in-Ok-clause-told c = λ k place r. not_both c.args.bytes.now (plain_script c.in-Ok.script) k place c.in-Ok.ensures r

pub returns-in-Err-Refused-clause-only : goal.returns-in-Err-Refused-clause-only
returns-in-Err-Refused-clause-only c = λ s w.
    let r : IsRefused c.args.bytes.now c.in-Err-Refused.kind c.in-Err-Refused.place = rw c.in-Err-Refused.field-0-is at c.in-Err-Refused.ensures in
    not_both c.args.bytes.now s c.in-Err-Refused.kind c.in-Err-Refused.place w r

pub returns-in-Err-Refused-clause-told : goal.returns-in-Err-Refused-clause-told
returns-in-Err-Refused-clause-told c = λ k place h.
    let r : IsRefused c.args.bytes.now c.in-Err-Refused.kind c.in-Err-Refused.place = rw c.in-Err-Refused.field-0-is at c.in-Err-Refused.ensures in
    let e = refused_once c.args.bytes.now c.in-Err-Refused.kind k c.in-Err-Refused.place place r h in
    (e.0, c.line_behind-line.ensures ∙ ap (line_at c.args.bytes.now) e.1)

pub slice_bounds-line_behind-end : goal.slice_bounds-line_behind-end
slice_bounds-line_behind-end c =
    let r : IsRefused c.args.bytes.now c.in-Err-Refused.kind c.in-Err-Refused.place = rw c.in-Err-Refused.field-0-is at c.in-Err-Refused.ensures in
    sym (length-take-le c.in-Err-Refused.place c.args.bytes.now (within c.args.bytes.now c.in-Err-Refused.kind c.in-Err-Refused.place r))
