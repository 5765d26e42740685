-- How deep a script nests, and the least depth of a script that begins with what was read.
use Rattle.std.specs.Prelude.{ℕ, ◌+◌, max, Bool, true, false, not, List, [], ◌∷◌, if◌then◌else◌}
use Rattle.jd_grammar.specs.Depth.{height}
use Rattle.jd_grammar.specs.Frames.{Frame, Now, wanted, State}
use Rattle.jd_grammar.specs.Shortest as expression
use Rattle.jd_grammar.specs.Script.{Lead, bare, assigned, updated, defined, defined_everywhere, returned, Target, no_target, target, Header, distributed_head, Opening, headed, Stmt, ended, alone, packages, packages_everywhere, blocks, Prior, begun, Before, fresh, behind, Block, block, Lines, no_lines, line, Place, empty, stmt}
use Rattle.jd_grammar.specs.Reader.{Outer, in_lead, in_header, Awaited, distributed_open, distributed_reducer, distributed_close, distributed_for, distributed_name, distributed_in, everywhere, everywhere_package, package_first, package_next, catch_words, catch_named, Mode, at_expression, at_words, complete, Config}

-- ---- the depth of a script

-- an assignment, a definition and `return` are one construct round their expression
abbrev pub lead_weight : Lead → ℕ
lead_weight bare = 0
lead_weight (assigned n t) = 1
lead_weight (updated n t) = 1
lead_weight (defined head t) = 1
lead_weight (defined_everywhere every s t) = 1
lead_weight (returned t) = 1

abbrev pub target_weight : Target → ℕ
target_weight no_target = 1
target_weight (target n t) = 2

-- a statement with blocks is one construct, and two where `@distributed` is assigned
abbrev pub header_weight : Header → ℕ
header_weight (distributed_head g t o op c f n i) = target_weight g
header_weight _ = 1

abbrev pub weight : Opening → ℕ
weight (headed h c sep) = header_weight h
weight _ = 1

abbrev pub height_opening : Opening → ℕ
height_opening (headed h c sep) = height c
height_opening _ = 0

abbrev pub prior_weight : Prior → ℕ
prior_weight (begun x o) = weight o

abbrev mutual
  pub depth_stmt : Stmt → ℕ
  depth_stmt (ended l e) = lead_weight l + height e
  depth_stmt (alone t) = 0
  depth_stmt (packages ns) = 0
  depth_stmt (packages_everywhere every t n) = 0
  depth_stmt (blocks p b ends) = prior_weight p + max (height_prior p) (depth_inner b)

  pub height_prior : Prior → ℕ
  height_prior (begun x o) = max (height_before x) (height_opening o)

  pub height_before : Before → ℕ
  height_before fresh = 0
  height_before (behind p b) = max (height_prior p) (depth_inner b)

  -- a block inside another statement is a construct round all its tokens, where it has one
  pub depth_inner : Block → ℕ
  depth_inner (block no_lines empty) = 0
  depth_inner (block no_lines (stmt s)) = 1 + depth_stmt s
  depth_inner (block (line ls m t) p) = 1 + max (depth_lines (line ls m t)) (depth_place p)

  pub depth_lines : Lines → ℕ
  depth_lines no_lines = 0
  depth_lines (line ls m t) = max (depth_lines ls) (depth_place m)

  pub depth_place : Place → ℕ
  depth_place empty = 0
  depth_place (stmt s) = depth_stmt s

abbrev pub depth : Block → ℕ
depth (block ls m) = max (depth_lines ls) (depth_place m)

-- the most constructs that may stand round a token
abbrev pub limit : ℕ
limit = 100

-- ---- the least depth behind what was read

-- nothing of an expression has been read
abbrev pub is_fresh : List Frame → Now → Bool
is_fresh [] wanted = true
is_fresh fs n = false

abbrev pub lead_needs : Lead → State → ℕ
lead_needs (returned t) s = if is_fresh s.frames s.now then 0 else 1 + expression.needs s
lead_needs l s = lead_weight l + expression.needs s

abbrev pub awaited_needs : Awaited → ℕ
awaited_needs (distributed_open g t) = target_weight g
awaited_needs (distributed_reducer g t o) = target_weight g
awaited_needs (distributed_close g t o op) = target_weight g
awaited_needs (distributed_for g t o op c) = target_weight g
awaited_needs (distributed_name g t o op c f) = target_weight g
awaited_needs (distributed_in g t o op c f n) = target_weight g
awaited_needs (everywhere every) = 0
awaited_needs (everywhere_package every t) = 0
awaited_needs (package_first t) = 0
awaited_needs (package_next ns comma) = 0
awaited_needs (catch_words x t) = 1 + height_before x
awaited_needs (catch_named x t n) = 1 + height_before x
awaited_needs w = 1

abbrev pub mode_needs : Mode → ℕ
mode_needs (at_expression (in_lead l) s) = lead_needs l s
mode_needs (at_expression (in_header x h) s) = header_weight h + max (height_before x) (expression.needs s)
mode_needs (at_words w) = awaited_needs w
mode_needs (complete s) = depth_stmt s

-- whether a statement has begun
abbrev pub has_begun : Mode → Bool
has_begun (at_expression (in_lead bare) s) = not (is_fresh s.frames s.now)
has_begun m = true

-- whether a block has a token
abbrev pub has_token : Lines → Bool → Bool
has_token no_lines b = b
has_token (line ls m t) b = true

-- the height of a statement whose innermost block has this height
abbrev pub outer_needs : Outer → ℕ → ℕ
outer_needs o h = weight o.opening + max (max (height_before o.before) (height_opening o.opening)) h

-- the least depth round lines and a statement of this depth, which has begun or not
abbrev pub round_needs : List Outer → Lines → Bool → ℕ → ℕ
round_needs [] ls b h = max (depth_lines ls) h
round_needs (o ∷ os) ls b h = round_needs os o.lines true (outer_needs o (if has_token ls b then 1 + max (depth_lines ls) h else 0))

abbrev pub needs : Config → ℕ
needs c = round_needs c.context.outer c.context.lines (has_begun c.mode) (mode_needs c.mode)
