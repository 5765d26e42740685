-- The code's statements and blocks as the grammar's.
use Rattle.std.specs.Prelude.{List, [], ◌∷◌, Option, Some, None}
use Rattle.jd_grammar.specs.declared.token.Token.{Token}
use Rattle.jd_script.specs.declared.tree.NextName.{NextName}
use Rattle.jd_script.specs.declared.tree.Parameters as code-parameters
use Rattle.jd_script.specs.declared.tree.Signature as code-signature
use Rattle.jd_script.specs.declared.tree.Packages as code-packages
use Rattle.jd_script.specs.declared.tree.Lead as code-lead
use Rattle.jd_script.specs.declared.tree.Lead.TheVariants as of-lead
use Rattle.jd_script.specs.declared.tree.Target as code-target
use Rattle.jd_script.specs.declared.tree.Distributed.{Distributed}
use Rattle.jd_script.specs.declared.tree.Header as code-header
use Rattle.jd_script.specs.declared.tree.Header.TheVariants as of-header
use Rattle.jd_script.specs.declared.tree.Opening as code-opening
use Rattle.jd_script.specs.declared.tree.Opening.TheVariants as of-opening
use Rattle.jd_script.specs.declared.tree.Stmt as code-stmt
use Rattle.jd_script.specs.declared.tree.Stmt.{fold-Stmt}
use Rattle.jd_script.specs.declared.tree.Arm.{Arm, fold-Arm}
use Rattle.jd_script.specs.declared.tree.Block as code-block
use Rattle.jd_script.specs.declared.tree.Block.{fold-Block}
use Rattle.jd_script.specs.declared.tree.Blocks.{Blocks, fold-Blocks}
use Rattle.jd_script.specs.declared.tree.Line as code-line
use Rattle.jd_script.specs.declared.tree.Line.{fold-Line}
use Rattle.jd_script.specs.declared.tree.Stmt.TheOpen.{Stmt-F, Arm-F, Block-F, Blocks-F, Line-F}
use Rattle.jd_script.specs.declared.tree.Stmt.TheOpen as layer
use Rattle.jd_tree.specs.Plain.{plain}
use Rattle.jd_grammar.specs.Script.{Parameters, no_parameters, first, next, Signature, Packages, using_first, using_next, Lead, bare, assigned, updated, defined, defined_everywhere, returned, Target, no_target, target, Header, while_head, if_head, elseif_head, for_head, distributed_head, Opening, headed, else_open, try_open, catch_open, catch_name, function_open, Stmt, ended, alone, packages, packages_everywhere, blocks, begun, Before, fresh, behind, Block, block, Lines, no_lines, line, Place, empty, stmt}

-- ---- the parts of a statement

abbrev pub begin_names : Option Token → Parameters
begin_names None = no_parameters
begin_names (Some n) = first n

abbrev pub parameters_from : Parameters → List NextName → Parameters
parameters_from ps [] = ps
parameters_from ps (n ∷ ns) = parameters_from (next ps n.comma n.name) ns

abbrev pub plain_parameters : code-parameters.Parameters → Parameters
plain_parameters p = parameters_from (begin_names p.first) p.others

abbrev pub plain_signature : code-signature.Signature → Signature
plain_signature s = record { name = s.name; opens = s.opens; parameters = plain_parameters s.parameters; closes = s.closes }

abbrev pub packages_from : Packages → List NextName → Packages
packages_from ps [] = ps
packages_from ps (n ∷ ns) = packages_from (using_next ps n.comma n.name) ns

abbrev pub plain_packages : code-packages.Packages → Packages
plain_packages p = packages_from (using_first p.word p.first) p.others

abbrev pub plain_lead : code-lead.Lead → Lead
plain_lead of-lead.Bare = bare
plain_lead (of-lead.Assigned n t) = assigned n t
plain_lead (of-lead.Updated n t) = updated n t
plain_lead (of-lead.Defined e t) = defined (plain e) t
plain_lead (of-lead.DefinedEverywhere every s t) = defined_everywhere every (plain_signature s) t
plain_lead (of-lead.Returned t) = returned t

abbrev pub plain_target : Option code-target.Target → Target
plain_target None = no_target
plain_target (Some g) = target g.name g.assign

abbrev pub plain_distributed : Distributed → Header
plain_distributed d = distributed_head (plain_target d.target) d.word d.opens d.reducer d.closes d.loops d.name d.within

abbrev pub plain_header : code-header.Header → Header
plain_header (of-header.While t) = while_head t
plain_header (of-header.If t) = if_head t
plain_header (of-header.Elseif t) = elseif_head t
plain_header (of-header.For t n i) = for_head t n i
plain_header (of-header.Distributed d) = plain_distributed d

abbrev pub plain_opening : code-opening.Opening → Opening
plain_opening (of-opening.Headed h c sep) = headed (plain_header h) (plain c) sep
plain_opening (of-opening.Else t) = else_open t
plain_opening (of-opening.Try t) = try_open t
plain_opening (of-opening.Catch t sep) = catch_open t sep
plain_opening (of-opening.CatchName t n sep) = catch_name t n sep
plain_opening (of-opening.Function every t s) = function_open every t (plain_signature s)

-- ---- lists

abbrev pub place_of : Option Stmt → Place
place_of None = empty
place_of (Some s) = stmt s

abbrev pub lines_from : Lines → List (Place × Token) → Lines
lines_from ls [] = ls
lines_from ls (m ∷ ms) = lines_from (line ls m.0 m.1) ms

abbrev pub before_from : Before → List (Opening × Block) → Before
before_from x [] = x
before_from x (a ∷ rest) = before_from (behind (begun x a.0) a.1) rest

-- ---- one level of a tree

abbrev pub stmt_at : Stmt-F Stmt (Opening × Block) Block Stmt (Place × Token) → Stmt
stmt_at (layer.Ended l e) = ended (plain_lead l) (plain e)
stmt_at (layer.Alone t) = alone t
stmt_at (layer.Packages ns) = packages (plain_packages ns)
stmt_at (layer.PackagesEverywhere every t n) = packages_everywhere every t n
stmt_at (layer.Blocks s) = s

abbrev pub arm_at : Arm-F Stmt (Opening × Block) Block Stmt (Place × Token) → Opening × Block
arm_at a = (plain_opening a.opening, a.block)

abbrev pub block_at : Block-F Stmt (Opening × Block) Block Stmt (Place × Token) → Block
block_at b = block (lines_from no_lines b.lines) (place_of b.last)

abbrev pub blocks_at : Blocks-F Stmt (Opening × Block) Block Stmt (Place × Token) → Stmt
blocks_at s = blocks (begun (before_from fresh s.before) s.last.0) s.last.1 s.ends

abbrev pub line_at : Line-F Stmt (Opening × Block) Block Stmt (Place × Token) → Place × Token
line_at l = (place_of l.stmt, l.ends)

-- ---- whole trees

abbrev pub plain_stmt : code-stmt.Stmt → Stmt
plain_stmt = fold-Stmt Stmt (Opening × Block) Block Stmt (Place × Token) stmt_at arm_at block_at blocks_at line_at

abbrev pub plain_arm : Arm → Opening × Block
plain_arm = fold-Arm Stmt (Opening × Block) Block Stmt (Place × Token) stmt_at arm_at block_at blocks_at line_at

abbrev pub plain_block : code-block.Block → Block
plain_block = fold-Block Stmt (Opening × Block) Block Stmt (Place × Token) stmt_at arm_at block_at blocks_at line_at

abbrev pub plain_blocks : Blocks → Stmt
plain_blocks = fold-Blocks Stmt (Opening × Block) Block Stmt (Place × Token) stmt_at arm_at block_at blocks_at line_at

abbrev pub plain_line : code-line.Line → Place × Token
plain_line = fold-Line Stmt (Opening × Block) Block Stmt (Place × Token) stmt_at arm_at block_at blocks_at line_at
