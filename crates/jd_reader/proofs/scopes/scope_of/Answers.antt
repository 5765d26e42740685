use Rattle.std.proofs.Common.{List, ◌-◌, sym, ap, ◌∙◌, arith}
use Rattle.jd_grammar.specs.Reader.{scope}
use Rattle.jd_reader.specs.declared.context.Outer.{Outer}
use Rattle.jd_reader.specs.Reading.{plain_outers}
use Rattle.jd_precedence.proofs.Drops.{drop_past}
use Rattle.jd_reader.proofs.scopes.scope_of.Goals as goal

pub loop-depth-preserved : goal.loop-depth-preserved
loop-depth-preserved c = c.loop-depth.invariant
    ∙ ap (λ (os : List Outer). scope (plain_outers os)) (drop_past c.args.outer.now (c.loop-depth.depth - 1) c.loop-depth.depth (omega arith) c.in_default.ensures.rest ∙ sym c.in_default.ensures.rest)
