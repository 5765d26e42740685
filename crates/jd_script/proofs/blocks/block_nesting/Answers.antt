use Rattle.std.proofs.Common.{◌≡◌, [], sym, ap, ◌∙◌, arith}
use Rattle.jd_grammar.specs.Script.{block, empty}
use Rattle.jd_grammar.specs.ScriptDepth.{depth_inner}
use Rattle.jd_tree.specs.Measures.{height_up_to}
use Rattle.jd_script.specs.CodeScript.{plain_lines, plain_place}
use Rattle.jd_script.proofs.Statements.{inner_lines}
use Rattle.jd_script.proofs.blocks.block_nesting.Goals as goal

pub returns-else-is_empty : goal.returns-else-is_empty
returns-else-is_empty c =
    let some : c.args.lines.now.items ≡ [] → ⊥ = λ e. let t = c.is_empty.ensures.1 e in cc in
    let h : c.saturating_add-else-is_empty.result ≡ height_up_to (depth_inner (block (plain_lines c.args.lines.now) empty)) = let e = inner_lines c.args.lines.now.items empty some in omega arith in
    h ∙ ap (λ m. height_up_to (depth_inner (block (plain_lines c.args.lines.now) (plain_place m)))) (sym c.in-None.is)
