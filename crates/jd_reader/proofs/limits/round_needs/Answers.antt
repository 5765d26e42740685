use Rattle.std.proofs.Common.{◌≡◌, ◌+◌, List, drop, subst, ◌∙◌}
use Rattle.jd_tree.specs.Measures.{height_up_to}
use Rattle.jd_reader.specs.declared.context.Outer.{Outer}
use Rattle.jd_reader.specs.Rounds.{round_at}
use Rattle.jd_reader.specs.Reading.{plain_outer, plain_outers}
use Rattle.jd_reader.proofs.Rounds.{round_step}
use Rattle.jd_reader.proofs.limits.round_needs.Goals as goal

pub loop-statement-preserved : goal.loop-statement-preserved
loop-statement-preserved c =
    let s = c.in-Some.statement.now in
    let l = c.loop-statement in
    round_step (plain_outer s) (plain_outers (drop (l.depth + 1) c.args.outer.now)) l.deepest l.has_token l.height c.inner_needs-inner.result c.outer_needs-height.result s.lines.nesting
    c.inner_needs-inner.ensures c.outer_needs-height.ensures s.lines.measured
    ∙ subst (λ (os : List Outer). height_up_to (round_at (plain_outers os) l.deepest l.has_token l.height) ≡ height_up_to (round_at (plain_outers c.args.outer.now) c.args.lines c.args.has_token c.args.height))
    c.in-Some.ensures.rest l.invariant
