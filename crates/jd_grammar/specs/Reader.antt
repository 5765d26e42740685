-- Reading a script, a token at a time.
use Rattle.std.specs.Prelude.{Bool, true, false, ◌&&◌, List, [], ◌∷◌, Option, Some, None, if◌then◌else◌}
use Rattle.jd_grammar.specs.declared.token.Token.{Token}
use Rattle.jd_grammar.specs.declared.token.Kind.{Kind}
use Rattle.jd_grammar.specs.declared.token.Kind.TheVariants.{Name, Function, If, Elseif, Else, While, For, Try, Catch, Return, Break, Continue, End, Using, DistributedFor, Everywhere, Comma, Assign, PlusAssign, MinusAssign, StarAssign, OpenParen, CloseParen, Semicolon, LineEnd}
use Rattle.jd_grammar.specs.Kinds.{is_name}
use Rattle.jd_grammar.specs.Grammar.{Syntax, leaf}
use Rattle.jd_grammar.specs.Frames.{Frame, Now, wanted, got, pending, State, want}
use Rattle.jd_grammar.specs.Machine as expression
use Rattle.jd_grammar.specs.Machine.{close}
use Rattle.jd_grammar.specs.Script.{Parameters, no_parameters, first, next, Signature, Packages, using_first, using_next, Lead, bare, assigned, updated, defined, defined_everywhere, returned, Target, no_target, target, Header, while_head, if_head, elseif_head, for_head, distributed_head, Opening, headed, else_open, try_open, catch_open, catch_name, function_open, Stmt, ended, alone, packages, packages_everywhere, blocks, begun, Before, fresh, behind, Block, block, Lines, no_lines, line, Place, empty, stmt, Scope, outermost, within, Role, role_of, conditional, trying, may_end, is_separator, is_in, is_reducer, is_package, is_signature, is_fresh}

-- ---- what is open

-- a statement whose block is open, with the lines before the statement
pub record Outer : Type 0 where
  pub lines : Lines
  pub before : Before
  pub opening : Opening

-- the open blocks, the innermost first, and the lines of the innermost
pub record Context : Type 0 where
  pub outer : List Outer
  pub lines : Lines

-- what an expression that is read now belongs to: the end of a statement, or the header of a block
pub data Bottom : Type 0 where
  in_lead : (l : Lead) → Bottom
  in_header : (x : Before) (h : Header) → Bottom

-- whose name and parameters are read
pub data Owner : Type 0 where
  of_function : (every : Option Token) (t : Token) → Owner
  of_everywhere : (every : Token) → Owner

-- what only some tokens may follow
pub data Awaited : Type 0 where
  for_name : (t : Token) → Awaited
  for_in : (t n : Token) → Awaited
  distributed_open : (g : Target) (t : Token) → Awaited
  distributed_reducer : (g : Target) (t o : Token) → Awaited
  distributed_close : (g : Target) (t o op : Token) → Awaited
  distributed_for : (g : Target) (t o op c : Token) → Awaited
  distributed_name : (g : Target) (t o op c f : Token) → Awaited
  distributed_in : (g : Target) (t o op c f n : Token) → Awaited
  function_name : (every : Option Token) (t : Token) → Awaited
  signature_open : (w : Owner) (f : Token) → Awaited
  signature_first : (w : Owner) (f o : Token) → Awaited
  signature_next : (w : Owner) (f o : Token) (ps : Parameters) → Awaited
  signature_name : (w : Owner) (f o : Token) (ps : Parameters) (comma : Token) → Awaited
  signature_end : (every : Token) (s : Signature) → Awaited
  everywhere : (every : Token) → Awaited
  everywhere_package : (every t : Token) → Awaited
  package_first : (t : Token) → Awaited
  package_next : (ns : Packages) (comma : Token) → Awaited
  catch_words : (x : Before) (t : Token) → Awaited
  catch_named : (x : Before) (t n : Token) → Awaited

pub data Mode : Type 0 where
  at_expression : (b : Bottom) (s : State) → Mode
  at_words : (w : Awaited) → Mode
  complete : (s : Stmt) → Mode

pub record Config : Type 0 where
  pub context : Context
  pub mode : Mode

-- where a statement may begin
abbrev pub beginning : Mode
beginning = at_expression (in_lead bare) (want [])

abbrev pub start : Config
start = record { context = record { outer = []; lines = no_lines }; mode = beginning }

-- the scope of the innermost block
abbrev pub scope : List Outer → Scope
scope [] = outermost
scope (o ∷ os) = within o.opening (scope os)

-- ---- what is whole at a place

pub data Whole : Type 0 where
  nothing_whole : Whole
  a_place : (m : Place) → Whole
  a_header : (x : Before) (h : Header) (c : Syntax) → Whole

abbrev pub with_expression : Bottom → List Frame × Syntax → Whole
with_expression (in_lead l) ([], e) = a_place (stmt (ended l e))
with_expression (in_header x h) ([], e) = a_header x h e
with_expression b r = nothing_whole

abbrev pub without_expression : Bottom → List Frame → Whole
without_expression (in_lead bare) [] = a_place empty
without_expression (in_lead (returned t)) [] = a_place (stmt (alone t))
without_expression b fs = nothing_whole

abbrev pub whole_at : Bottom → List Frame → Now → Whole
whole_at b fs wanted = without_expression b fs
whole_at b fs (got e) = with_expression b (close 0 fs e)
whole_at b fs (pending w) = nothing_whole

-- ---- lines and blocks

abbrev pub at_line : Context → Lines → Config
at_line ctx ls = record { context = record { outer = ctx.outer; lines = ls }; mode = beginning }

abbrev pub open_block : Context → Before → Opening → Config
open_block ctx x o = record { context = record { outer = record { lines = ctx.lines; before = x; opening = o } ∷ ctx.outer; lines = no_lines }; mode = beginning }

-- the statement round the innermost block goes on so
abbrev pub leave : Context → Place → (List Outer → Lines → Before → Opening → Block → Option Config) → Option Config
leave ctx m go = elim ctx.outer as (λ _. Option Config) [ [] ↦ None | o ∷ os ↦ go os o.lines o.before o.opening (block ctx.lines m) ]

abbrev pub in_outer : List Outer → Lines → Mode → Config
in_outer os ls m = record { context = record { outer = os; lines = ls }; mode = m }

abbrev pub end_block : Token → List Outer → Lines → Before → Opening → Block → Option Config
end_block t os ls x o b = if may_end (role_of o) then Some (in_outer os ls (complete (blocks (begun x o) b t))) else None

abbrev pub is_conditional : Role → Bool
is_conditional conditional = true
is_conditional _ = false

abbrev pub is_trying : Role → Bool
is_trying trying = true
is_trying _ = false

abbrev pub elseif_block : Token → List Outer → Lines → Before → Opening → Block → Option Config
elseif_block t os ls x o b = if is_conditional (role_of o) then Some (in_outer os ls (at_expression (in_header (behind (begun x o) b) (elseif_head t)) (want []))) else None

abbrev pub else_block : Token → List Outer → Lines → Before → Opening → Block → Option Config
else_block t os ls x o b = if is_conditional (role_of o) then Some (open_block (record { outer = os; lines = ls }) (behind (begun x o) b) (else_open t)) else None

abbrev pub catch_block : Token → List Outer → Lines → Before → Opening → Block → Option Config
catch_block t os ls x o b = if is_trying (role_of o) then Some (in_outer os ls (at_words (catch_words (behind (begun x o) b) t))) else None

-- a separator, or a word that ends a block
abbrev pub separator_step : Token → Context → Whole → Option Config
separator_step t ctx nothing_whole = None
separator_step t ctx (a_place m) = Some (at_line ctx (line ctx.lines m t))
separator_step t ctx (a_header x h c) = Some (open_block ctx x (headed h c t))

abbrev pub at_place : Whole → (Place → Option Config) → Option Config
at_place (a_place m) go = go m
at_place w go = None

abbrev pub ending_step : Kind → Token → Context → Whole → Option Config
ending_step Semicolon t ctx w = separator_step t ctx w
ending_step LineEnd t ctx w = separator_step t ctx w
ending_step End t ctx w = at_place w (λ m. leave ctx m (end_block t))
ending_step Elseif t ctx w = at_place w (λ m. leave ctx m (elseif_block t))
ending_step Else t ctx w = at_place w (λ m. leave ctx m (else_block t))
ending_step Catch t ctx w = at_place w (λ m. leave ctx m (catch_block t))
ending_step k t ctx w = None

-- ---- the beginning of a statement

abbrev pub go : Context → Mode → Config
go ctx m = record { context = ctx; mode = m }

abbrev pub only_if : Bool → Config → Option Config
only_if b c = if b then Some c else None

abbrev pub begin_step : Kind → Token → Context → Whole → Option Config
begin_step While t ctx w = Some (go ctx (at_expression (in_header fresh (while_head t)) (want [])))
begin_step If t ctx w = Some (go ctx (at_expression (in_header fresh (if_head t)) (want [])))
begin_step For t ctx w = Some (go ctx (at_words (for_name t)))
begin_step Try t ctx w = Some (open_block ctx fresh (try_open t))
begin_step DistributedFor t ctx w = Some (go ctx (at_words (distributed_open no_target t)))
begin_step Function t ctx w = only_if (scope ctx.outer).top (go ctx (at_words (function_name None t)))
begin_step Everywhere t ctx w = only_if (scope ctx.outer).top (go ctx (at_words (everywhere t)))
begin_step Using t ctx w = only_if (scope ctx.outer).top (go ctx (at_words (package_first t)))
begin_step Return t ctx w = only_if (scope ctx.outer).function (go ctx (at_expression (in_lead (returned t)) (want [])))
begin_step Break t ctx w = only_if (scope ctx.outer).loop (go ctx (complete (alone t)))
begin_step Continue t ctx w = only_if (scope ctx.outer).loop (go ctx (complete (alone t)))
begin_step k t ctx w = ending_step k t ctx w

-- behind `x =`
abbrev pub value_step : Token → Token → Kind → Token → Context → Whole → Option Config
value_step n q DistributedFor t ctx w = Some (go ctx (at_words (distributed_open (target n q) t)))
value_step n q k t ctx w = ending_step k t ctx w

-- ---- behind an operand

abbrev pub assign_step : Token → Context → Syntax → Option Config
assign_step t ctx (leaf n) = only_if (is_name n.kind) (go ctx (at_expression (in_lead (assigned n t)) (want [])))
assign_step t ctx e = only_if ((scope ctx.outer).top && is_signature e) (go ctx (at_expression (in_lead (defined e t)) (want [])))

abbrev pub update_step : Token → Context → Syntax → Option Config
update_step t ctx (leaf n) = only_if (is_name n.kind) (go ctx (at_expression (in_lead (updated n t)) (want [])))
update_step t ctx e = None

abbrev pub target_step : Kind → Token → Context → Syntax → Whole → Option Config
target_step Assign t ctx e w = assign_step t ctx e
target_step PlusAssign t ctx e w = update_step t ctx e
target_step MinusAssign t ctx e w = update_step t ctx e
target_step StarAssign t ctx e w = update_step t ctx e
target_step k t ctx e w = ending_step k t ctx w

abbrev pub statement_step : Kind → Token → Context → Bottom → List Frame → Now → Option Config
statement_step k t ctx (in_lead bare) [] wanted = begin_step k t ctx (whole_at (in_lead bare) [] wanted)
statement_step k t ctx (in_lead (assigned n q)) [] wanted = value_step n q k t ctx (whole_at (in_lead (assigned n q)) [] wanted)
statement_step k t ctx (in_lead bare) [] (got e) = target_step k t ctx e (whole_at (in_lead bare) [] (got e))
statement_step k t ctx b fs n = ending_step k t ctx (whole_at b fs n)

-- ---- words

abbrev pub close_signature : Owner → Signature → Context → Config
close_signature (of_function every t) s ctx = open_block ctx fresh (function_open every t s)
close_signature (of_everywhere every) s ctx = go ctx (at_words (signature_end every s))

abbrev pub first_step : Owner → Token → Token → Kind → Token → Context → Option Config
first_step w f o (Name n) t ctx = Some (go ctx (at_words (signature_next w f o (first t))))
first_step w f o CloseParen t ctx = Some (close_signature w (record { name = f; opens = o; parameters = no_parameters; closes = t }) ctx)
first_step w f o _ t ctx = None

abbrev pub next_step : Owner → Token → Token → Parameters → Kind → Token → Context → Option Config
next_step w f o ps Comma t ctx = Some (go ctx (at_words (signature_name w f o ps t)))
next_step w f o ps CloseParen t ctx = Some (close_signature w (record { name = f; opens = o; parameters = ps; closes = t }) ctx)
next_step w f o ps _ t ctx = None

abbrev pub everywhere_step : Token → Kind → Token → Context → Option Config
everywhere_step every Using t ctx = Some (go ctx (at_words (everywhere_package every t)))
everywhere_step every Function t ctx = Some (go ctx (at_words (function_name (Some every) t)))
everywhere_step every (Name n) t ctx = Some (go ctx (at_words (signature_open (of_everywhere every) t)))
everywhere_step every _ t ctx = None

abbrev pub catch_step : Before → Token → Kind → Token → Context → Option Config
catch_step x q (Name n) t ctx = Some (go ctx (at_words (catch_named x q t)))
catch_step x q Semicolon t ctx = Some (open_block ctx x (catch_open q t))
catch_step x q LineEnd t ctx = Some (open_block ctx x (catch_open q t))
catch_step x q _ t ctx = None

abbrev pub is_open : Kind → Bool
is_open OpenParen = true
is_open _ = false

abbrev pub is_close : Kind → Bool
is_close CloseParen = true
is_close _ = false

abbrev pub is_for : Kind → Bool
is_for For = true
is_for _ = false

abbrev pub is_assign : Kind → Bool
is_assign Assign = true
is_assign _ = false

abbrev pub words_step : Awaited → Token → Context → Option Config
words_step (for_name f) t ctx = only_if (is_name t.kind) (go ctx (at_words (for_in f t)))
words_step (for_in f n) t ctx = only_if (is_in t.kind) (go ctx (at_expression (in_header fresh (for_head f n t)) (want [])))
words_step (distributed_open g d) t ctx = only_if (is_open t.kind) (go ctx (at_words (distributed_reducer g d t)))
words_step (distributed_reducer g d o) t ctx = only_if (is_reducer t.kind) (go ctx (at_words (distributed_close g d o t)))
words_step (distributed_close g d o op) t ctx = only_if (is_close t.kind) (go ctx (at_words (distributed_for g d o op t)))
words_step (distributed_for g d o op c) t ctx = only_if (is_for t.kind) (go ctx (at_words (distributed_name g d o op c t)))
words_step (distributed_name g d o op c f) t ctx = only_if (is_name t.kind) (go ctx (at_words (distributed_in g d o op c f t)))
words_step (distributed_in g d o op c f n) t ctx = only_if (is_in t.kind) (go ctx (at_expression (in_header fresh (distributed_head g d o op c f n t)) (want [])))
words_step (function_name every f) t ctx = only_if (is_name t.kind) (go ctx (at_words (signature_open (of_function every f) t)))
words_step (signature_open w f) t ctx = only_if (is_open t.kind) (go ctx (at_words (signature_first w f t)))
words_step (signature_first w f o) t ctx = first_step w f o t.kind t ctx
words_step (signature_next w f o ps) t ctx = next_step w f o ps t.kind t ctx
words_step (signature_name w f o ps comma) t ctx = only_if (is_name t.kind && is_fresh t.kind ps) (go ctx (at_words (signature_next w f o (next ps comma t))))
words_step (signature_end every s) t ctx = only_if (is_assign t.kind) (go ctx (at_expression (in_lead (defined_everywhere every s t)) (want [])))
words_step (everywhere every) t ctx = everywhere_step every t.kind t ctx
words_step (everywhere_package every u) t ctx = only_if (is_package t.kind) (go ctx (complete (packages_everywhere every u t)))
words_step (package_first u) t ctx = only_if (is_package t.kind) (go ctx (complete (packages (using_first u t))))
words_step (package_next ns comma) t ctx = only_if (is_package t.kind) (go ctx (complete (packages (using_next ns comma t))))
words_step (catch_words x q) t ctx = catch_step x q t.kind t ctx
words_step (catch_named x q n) t ctx = only_if (is_separator t.kind) (open_block ctx x (catch_name q n t))

abbrev pub complete_step : Kind → Token → Context → Stmt → Option Config
complete_step Comma t ctx (packages ns) = Some (go ctx (at_words (package_next ns t)))
complete_step k t ctx s = ending_step k t ctx (a_place (stmt s))

-- ---- a step, a run and the end

-- what an expression takes, and else what a statement takes
abbrev pub either : Option State → Kind → Token → Context → Bottom → State → Option Config
either (Some d) k t ctx b s = Some (go ctx (at_expression b d))
either None k t ctx b s = statement_step k t ctx b s.frames s.now

abbrev pub mode_step : Mode → Token → Context → Option Config
mode_step (at_expression b s) t ctx = either (expression.step t s) t.kind t ctx b s
mode_step (at_words w) t ctx = words_step w t ctx
mode_step (complete s) t ctx = complete_step t.kind t ctx s

abbrev pub step : Token → Config → Option Config
step t c = mode_step c.mode t c.context

abbrev pub and_then : Option Config → (Config → Option Config) → Option Config
and_then None f = None
and_then (Some c) f = f c

abbrev pub run : List Token → Config → Option Config
run [] c = Some c
run (t ∷ ts) c = and_then (step t c) (run ts)

abbrev pub whole_of : Mode → Whole
whole_of (at_expression b s) = whole_at b s.frames s.now
whole_of (at_words w) = nothing_whole
whole_of (complete s) = a_place (stmt s)

abbrev pub finish_place : List Outer → Lines → Whole → Option Block
finish_place [] ls (a_place m) = Some (block ls m)
finish_place os ls w = None

-- the script that has been read, if it may end here
abbrev pub finish : Config → Option Block
finish c = finish_place c.context.outer c.context.lines (whole_of c.mode)
