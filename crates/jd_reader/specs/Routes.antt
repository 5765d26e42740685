-- Which tokens a statement takes, and which the expression at its end.
use Rattle.std.specs.Prelude.{Bool, true, false, not, ◌&&◌, List, [], Option, Some, None}
use Rattle.jd_grammar.specs.declared.token.Kind.{Kind}
use Rattle.jd_grammar.specs.declared.token.Kind.TheVariants.{Function, If, Elseif, Else, While, For, Try, Catch, Return, Break, Continue, End, Using, DistributedFor, Everywhere, Assign, PlusAssign, MinusAssign, StarAssign, Semicolon, LineEnd}
use Rattle.jd_grammar.specs.Frames.{Frame, Now, wanted, got, pending, State}
use Rattle.jd_grammar.specs.declared.token.Token.{Token}
use Rattle.jd_grammar.specs.Script.{bare, Opening, Before, Block, Lines}
use Rattle.jd_grammar.specs.Reader.{Outer, Context, Bottom, in_lead, at_expression, Config, go, end_block, elseif_block, else_block, catch_block}

-- what ends a statement or a block
abbrev pub is_ending : Kind → Bool
is_ending Semicolon = true
is_ending LineEnd = true
is_ending End = true
is_ending Elseif = true
is_ending Else = true
is_ending Catch = true
is_ending _ = false

-- what begins a statement and no expression
abbrev pub is_beginning : Kind → Bool
is_beginning While = true
is_beginning If = true
is_beginning For = true
is_beginning Try = true
is_beginning DistributedFor = true
is_beginning Function = true
is_beginning Everywhere = true
is_beginning Using = true
is_beginning Return = true
is_beginning Break = true
is_beginning Continue = true
is_beginning k = is_ending k

-- what stands behind the target of an assignment
abbrev pub is_assigning : Kind → Bool
is_assigning Assign = true
is_assigning PlusAssign = true
is_assigning MinusAssign = true
is_assigning StarAssign = true
is_assigning _ = false

abbrev pub are_none_open : List Frame → Bool
are_none_open [] = true
are_none_open _ = false

-- where the expression alone takes a token of this kind
abbrev pub is_inner : Kind → List Frame → Now → Bool
is_inner k fs wanted = not (are_none_open fs && is_beginning k)
is_inner k fs (got e) = not (is_ending k) && not (are_none_open fs && is_assigning k)
is_inner k fs (pending w) = true

-- nothing stands before the expression
abbrev pub is_bare : Bottom → Bool
is_bare (in_lead bare) = true
is_bare _ = false

-- how the statement round a block goes on at such a word
abbrev pub block_step : Kind → Token → List Outer → Lines → Before → Opening → Block → Option Config
block_step End t os ls x o b = end_block t os ls x o b
block_step Elseif t os ls x o b = elseif_block t os ls x o b
block_step Else t os ls x o b = else_block t os ls x o b
block_step Catch t os ls x o b = catch_block t os ls x o b
block_step _ t os ls x o b = None

-- the words of statements that stand at the top of a script alone
abbrev pub is_top_word : Kind → Bool
is_top_word Function = true
is_top_word Everywhere = true
is_top_word Using = true
is_top_word _ = false

-- the expression goes on so, or nothing does
abbrev pub goes : Option State → Context → Bottom → Option Config
goes None ctx b = None
goes (Some s) ctx b = Some (go ctx (at_expression b s))
