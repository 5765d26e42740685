use Rattle.std.proofs.Common.{◌≡◌, ◌∙◌, true, Err, arith, sym, subst}
use Rattle.std.proofs.lemmas.Bool.Decides.{nat_tests}
use Rattle.jd_grammar.specs.Kinds.{is_comma}
use Rattle.jd_tree.specs.declared.tree.Item.{out-Item}
use Rattle.jd_lower.specs.Steps.{Gives}
use Rattle.jd_lower.proofs.Lowered.{argument_lowers, argument_fails}
use Rattle.jd_lower.proofs.lines.lower_most.Goals as goal

pub loop-item-preserved : goal.loop-item-preserved
loop-item-preserved c =
    let comma : is_comma (out-Item c.item-item.result).separator.kind ≡ true = grind (arith, nat_tests) in
    c.loop-item.invariant
    ∙ argument_lowers c.args.scope.now c.loop-item.args c.args.items.now c.loop-item.item-index c.item-item.result c.loop-item.draft c.loop-item-test.true c.item-item.is comma c.in-Ok.next c.with_argument.new.draft c.in-Ok.ensures

pub returns-in-Err : goal.returns-in-Err
returns-in-Err c =
    let comma : is_comma (out-Item c.item-item.result).separator.kind ≡ true = grind (arith, nat_tests) in
    subst (λ ran. Gives ran (Err c.in-Err.fault) c.with_argument.new.draft) (sym c.loop-item.invariant)
    (argument_fails c.args.scope.now c.loop-item.args c.args.items.now c.loop-item.item-index c.item-item.result c.loop-item.draft c.loop-item-test.true c.item-item.is comma c.in-Err.fault c.with_argument.new.draft c.in-Err.ensures)
