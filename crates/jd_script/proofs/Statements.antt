-- What each level of the code's statements is in the grammar, and one part more at the end of their lists.
use Rattle.std.proofs.Common.{ℕ, ◌≡◌, ◌+◌, min, max, List, [], ◌∷◌, ◌++◌, map, Option, Some, None, option_map, refl, sym, ap, ◌∙◌, arith}
use Rattle.jd_grammar.specs.declared.token.Token.{Token}
use Rattle.jd_grammar.specs.Script.{Stmt, blocks, begun, Before, fresh, behind, Block, block, Lines, no_lines, line, Place, stmt, Opening}
use Rattle.jd_grammar.specs.ScriptDepth.{depth_lines, depth_place, depth_inner}
use Rattle.jd_script.specs.declared.tree.Stmt as code-stmt
use Rattle.jd_script.specs.declared.tree.Stmt.{fold-roll-Stmt}
use Rattle.jd_script.specs.declared.tree.Stmt.TheVariants as variant
use Rattle.jd_script.specs.declared.tree.Stmt.TheOpen as layer
use Rattle.jd_script.specs.declared.tree.Opening as code-opening
use Rattle.jd_script.specs.declared.tree.Block as code-block
use Rattle.jd_script.specs.declared.tree.Block.{roll-Block, fold-roll-Block}
use Rattle.jd_script.specs.declared.tree.Blocks.{roll-Blocks, fold-roll-Blocks}
use Rattle.jd_script.specs.declared.tree.Arm.{Arm, roll-Arm, fold-roll-Arm}
use Rattle.jd_script.specs.declared.tree.Line as code-line
use Rattle.jd_script.specs.declared.tree.Line.{roll-Line, fold-roll-Line}
use Rattle.jd_script.specs.PlainScript.{stmt_at, arm_at, block_at, blocks_at, line_at, plain_stmt, plain_arm, plain_block, plain_line, plain_opening, place_of, lines_from, before_from}

-- ---- one level

pub one_line : (s : Option code-stmt.Stmt) (t : Token) → plain_line (roll-Line (record { stmt = s; ends = t })) ≡ (place_of (option_map plain_stmt s), t)
one_line None t = fold-roll-Line Stmt (Opening × Block) Block Stmt (Place × Token) stmt_at arm_at block_at blocks_at line_at (record { stmt = None; ends = t })
one_line (Some s) t = fold-roll-Line Stmt (Opening × Block) Block Stmt (Place × Token) stmt_at arm_at block_at blocks_at line_at (record { stmt = Some s; ends = t })

pub one_block : (ls : List code-line.Line) (s : Option code-stmt.Stmt) → plain_block (roll-Block (record { lines = ls; last = s })) ≡ block (lines_from no_lines (map plain_line ls)) (place_of (option_map plain_stmt s))
one_block ls None = fold-roll-Block Stmt (Opening × Block) Block Stmt (Place × Token) stmt_at arm_at block_at blocks_at line_at (record { lines = ls; last = None })
one_block ls (Some s) = fold-roll-Block Stmt (Opening × Block) Block Stmt (Place × Token) stmt_at arm_at block_at blocks_at line_at (record { lines = ls; last = Some s })

pub one_arm : (o : code-opening.Opening) (b : code-block.Block) → plain_arm (roll-Arm (record { opening = o; block = b })) ≡ (plain_opening o, plain_block b)
one_arm o b = fold-roll-Arm Stmt (Opening × Block) Block Stmt (Place × Token) stmt_at arm_at block_at blocks_at line_at (record { opening = o; block = b })

pub of_blocks : (before : List Arm) (last : Arm) (ends : Token) →
    plain_stmt (variant.Blocks (roll-Blocks (record { before = before; last = last; ends = ends }))) ≡ blocks (begun (before_from fresh (map plain_arm before)) (plain_arm last).0) (plain_arm last).1 ends
of_blocks before last ends = ap plain_stmt (sym (variant.rolls-Blocks (roll-Blocks (record { before = before; last = last; ends = ends }))))
    ∙ fold-roll-Stmt Stmt (Opening × Block) Block Stmt (Place × Token) stmt_at arm_at block_at blocks_at line_at (layer.Blocks (roll-Blocks (record { before = before; last = last; ends = ends })))
    ∙ fold-roll-Blocks Stmt (Opening × Block) Block Stmt (Place × Token) stmt_at arm_at block_at blocks_at line_at (record { before = before; last = last; ends = ends })

pub whole_blocks : (before : List Arm) (o : code-opening.Opening) (b : code-block.Block) (ends : Token) →
    plain_stmt (variant.Blocks (roll-Blocks (record { before = before; last = roll-Arm (record { opening = o; block = b }); ends = ends })))
    ≡ blocks (begun (before_from fresh (map plain_arm before)) (plain_opening o)) (plain_block b) ends
whole_blocks before o b ends = of_blocks before (roll-Arm (record { opening = o; block = b })) ends
    ∙ ap (λ (a : Opening × Block). blocks (begun (before_from fresh (map plain_arm before)) a.0) a.1 ends) (one_arm o b)

-- ---- lines

line_more : (ls : Lines) (ms : List code-line.Line) (l : code-line.Line) → lines_from ls (map plain_line (ms ++ (l ∷ []))) ≡ line (lines_from ls (map plain_line ms)) (plain_line l).0 (plain_line l).1
line_more ls [] l = refl
line_more ls (m ∷ ms) l = line_more (line ls (plain_line m).0 (plain_line m).1) ms l

pub line_end : (ms : List code-line.Line) (s : Option code-stmt.Stmt) (t : Token) (m : Place) (all : List code-line.Line) → all ≡ ms ++ (roll-Line (record { stmt = s; ends = t }) ∷ []) →
    place_of (option_map plain_stmt s) ≡ m → lines_from no_lines (map plain_line all) ≡ line (lines_from no_lines (map plain_line ms)) m t
line_end ms s t m all h e = ap (λ xs. lines_from no_lines (map plain_line xs)) h
    ∙ line_more no_lines ms (roll-Line (record { stmt = s; ends = t }))
    ∙ ap (λ (x : Place × Token). line (lines_from no_lines (map plain_line ms)) x.0 x.1) (one_line s t)
    ∙ ap (λ x. line (lines_from no_lines (map plain_line ms)) x t) e

pub line_height : (ms : List code-line.Line) (s : Option code-stmt.Stmt) (t : Token) (m : Place) (all : List code-line.Line) (a b k : ℕ) → all ≡ ms ++ (roll-Line (record { stmt = s; ends = t }) ∷ []) →
    place_of (option_map plain_stmt s) ≡ m → a ≡ min (depth_lines (lines_from no_lines (map plain_line ms))) 255 → b ≡ min (depth_place m) 255 → k ≡ max a b
    → k ≡ min (depth_lines (lines_from no_lines (map plain_line all))) 255
line_height ms s t m all a b k h e ha hb hk = let x = ap depth_lines (line_end ms s t m all h e) in omega (arith, x)

-- ---- blocks

inner_some : (ls : Lines) (m : Place) (t : Token) (p : Place) → depth_inner (block (line ls m t) p) ≡ 1 + max (depth_lines (line ls m t)) (depth_place p)
inner_some ls m t p = refl

first_line : (ls : Lines) (m : Place) (t : Token) (ms : List code-line.Line) (p : Place) → depth_inner (block (lines_from (line ls m t) (map plain_line ms)) p) ≡ 1 + max (depth_lines (lines_from (line ls m t) (map plain_line ms))) (depth_place p)
first_line ls m t [] p = refl
first_line ls m t (l ∷ ms) p = first_line (line ls m t) (plain_line l).0 (plain_line l).1 ms p

pub inner_lines : (ms : List code-line.Line) (p : Place) → (ms ≡ [] → ⊥) → depth_inner (block (lines_from no_lines (map plain_line ms)) p) ≡ 1 + max (depth_lines (lines_from no_lines (map plain_line ms))) (depth_place p)
inner_lines [] p h = absurd (h refl)
inner_lines (l ∷ ms) p h = first_line no_lines (plain_line l).0 (plain_line l).1 ms p

pub inner_stmt : (ms : List code-line.Line) (s : Stmt) → depth_inner (block (lines_from no_lines (map plain_line ms)) (stmt s)) ≡ 1 + max (depth_lines (lines_from no_lines (map plain_line ms))) (depth_place (stmt s))
inner_stmt [] s = omega arith
inner_stmt (l ∷ ms) s = first_line no_lines (plain_line l).0 (plain_line l).1 ms (stmt s)

-- ---- arms

arm_more : (x : Before) (arms : List Arm) (a : Arm) → before_from x (map plain_arm (arms ++ (a ∷ []))) ≡ behind (begun (before_from x (map plain_arm arms)) (plain_arm a).0) (plain_arm a).1
arm_more x [] a = refl
arm_more x (b ∷ arms) a = arm_more (behind (begun x (plain_arm b).0) (plain_arm b).1) arms a

pub arm_end : (arms : List Arm) (o : code-opening.Opening) (b : code-block.Block) (all : List Arm) → all ≡ arms ++ (roll-Arm (record { opening = o; block = b }) ∷ []) →
    before_from fresh (map plain_arm all) ≡ behind (begun (before_from fresh (map plain_arm arms)) (plain_opening o)) (plain_block b)
arm_end arms o b all h = ap (λ xs. before_from fresh (map plain_arm xs)) h
    ∙ arm_more fresh arms (roll-Arm (record { opening = o; block = b }))
    ∙ ap (λ (x : Opening × Block). behind (begun (before_from fresh (map plain_arm arms)) x.0) x.1) (one_arm o b)
