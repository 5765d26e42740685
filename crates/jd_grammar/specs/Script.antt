-- Statements and blocks as plain trees that keep every token, the tokens that a script is written with, and which
-- trees the grammar has.
use Rattle.std.specs.Prelude.{◌≡◌, Bool, true, false, ◌&&◌, not, IsTrue, List, ◌∷◌, Option, Some, None, if◌then◌else◌}
use Rattle.jd_grammar.specs.declared.token.Token.{Token}
use Rattle.jd_grammar.specs.declared.token.Word.TheVariants as word
use Rattle.jd_grammar.specs.declared.token.Kind.{Kind}
use Rattle.jd_grammar.specs.declared.token.Kind.TheVariants.{Function, If, Elseif, Else, While, For, In, Try, Catch, Return, Break, Continue, End, Using, DistributedFor, Everywhere, Comma, Assign, PlusAssign, MinusAssign, StarAssign, OpenParen, CloseParen, Semicolon, LineEnd}
use Rattle.jd_grammar.specs.Kinds.{is_name, is_comma, is_argument, is_word}
use Rattle.jd_grammar.specs.Grammar.{Syntax, leaf, bracket, called, Items, none, more, put, are_same, is_list_of_names, IsAt}

-- ---- the parts of a statement

-- `a, b, c`, in their order
pub data Parameters : Type 0 where
  no_parameters : Parameters
  first : (n : Token) → Parameters
  next : (ps : Parameters) (comma n : Token) → Parameters

-- `f(a, b)` of a definition
pub record Signature : Type 0 where
  pub name : Token
  pub opens : Token
  pub parameters : Parameters
  pub closes : Token

-- `using A, B`
pub data Packages : Type 0 where
  using_first : (t n : Token) → Packages
  using_next : (ns : Packages) (comma n : Token) → Packages

-- what stands before the expression that a statement ends with
pub data Lead : Type 0 where
  bare : Lead
  -- `x =`, and `x +=`, `x -=` or `x *=`
  assigned : (n t : Token) → Lead
  updated : (n t : Token) → Lead
  -- `f(a, b) =`, and the same behind `@everywhere`
  defined : (head : Syntax) (t : Token) → Lead
  defined_everywhere : (every : Token) (s : Signature) (t : Token) → Lead
  returned : (t : Token) → Lead

-- `x =` before `@distributed`, or nothing
pub data Target : Type 0 where
  no_target : Target
  target : (n t : Token) → Target

-- what stands before the expression that a block's header ends with
pub data Header : Type 0 where
  while_head : (t : Token) → Header
  if_head : (t : Token) → Header
  elseif_head : (t : Token) → Header
  for_head : (t n i : Token) → Header
  distributed_head : (g : Target) (t opens op closes f n i : Token) → Header

-- what stands before a block
pub data Opening : Type 0 where
  headed : (h : Header) (c : Syntax) (sep : Token) → Opening
  else_open : (t : Token) → Opening
  try_open : (t : Token) → Opening
  catch_open : (t sep : Token) → Opening
  catch_name : (t n sep : Token) → Opening
  function_open : (every : Option Token) (t : Token) (s : Signature) → Opening

mutual
  pub data Stmt : Type 0 where
    ended : (l : Lead) (e : Syntax) → Stmt
    -- `return`, `break` or `continue`
    alone : (t : Token) → Stmt
    packages : (ns : Packages) → Stmt
    packages_everywhere : (every t n : Token) → Stmt
    -- blocks, each behind its opening, and `end`
    blocks : (p : Prior) (b : Block) (ends : Token) → Stmt

  -- what stands before the last block of a statement
  pub data Prior : Type 0 where
    begun : (x : Before) (o : Opening) → Prior

  -- what stands before an opening
  pub data Before : Type 0 where
    fresh : Before
    behind : (p : Prior) (b : Block) → Before

  pub data Block : Type 0 where
    block : (ls : Lines) (m : Place) → Block

  -- places, each with the separator behind it
  pub data Lines : Type 0 where
    no_lines : Lines
    line : (ls : Lines) (m : Place) (t : Token) → Lines

  -- a statement, or none
  pub data Place : Type 0 where
    empty : Place
    stmt : (s : Stmt) → Place

-- ---- the tokens of a tree, in front of those of the rest

abbrev pub put_parameters : Parameters → List Token → List Token
put_parameters no_parameters rest = rest
put_parameters (first n) rest = n ∷ rest
put_parameters (next ps comma n) rest = put_parameters ps (comma ∷ n ∷ rest)

abbrev pub put_signature : Signature → List Token → List Token
put_signature s rest = s.name ∷ s.opens ∷ put_parameters s.parameters (s.closes ∷ rest)

abbrev pub put_packages : Packages → List Token → List Token
put_packages (using_first t n) rest = t ∷ n ∷ rest
put_packages (using_next ns comma n) rest = put_packages ns (comma ∷ n ∷ rest)

abbrev pub put_lead : Lead → List Token → List Token
put_lead bare rest = rest
put_lead (assigned n t) rest = n ∷ t ∷ rest
put_lead (updated n t) rest = n ∷ t ∷ rest
put_lead (defined head t) rest = put head (t ∷ rest)
put_lead (defined_everywhere every s t) rest = every ∷ put_signature s (t ∷ rest)
put_lead (returned t) rest = t ∷ rest

abbrev pub put_target : Target → List Token → List Token
put_target no_target rest = rest
put_target (target n t) rest = n ∷ t ∷ rest

abbrev pub put_header : Header → List Token → List Token
put_header (while_head t) rest = t ∷ rest
put_header (if_head t) rest = t ∷ rest
put_header (elseif_head t) rest = t ∷ rest
put_header (for_head t n i) rest = t ∷ n ∷ i ∷ rest
put_header (distributed_head g t o op c f n i) rest = put_target g (t ∷ o ∷ op ∷ c ∷ f ∷ n ∷ i ∷ rest)

abbrev pub put_every : Option Token → List Token → List Token
put_every None rest = rest
put_every (Some t) rest = t ∷ rest

abbrev pub put_opening : Opening → List Token → List Token
put_opening (headed h c sep) rest = put_header h (put c (sep ∷ rest))
put_opening (else_open t) rest = t ∷ rest
put_opening (try_open t) rest = t ∷ rest
put_opening (catch_open t sep) rest = t ∷ sep ∷ rest
put_opening (catch_name t n sep) rest = t ∷ n ∷ sep ∷ rest
put_opening (function_open every t s) rest = put_every every (t ∷ put_signature s rest)

abbrev mutual
  pub put_stmt : Stmt → List Token → List Token
  put_stmt (ended l e) rest = put_lead l (put e rest)
  put_stmt (alone t) rest = t ∷ rest
  put_stmt (packages ns) rest = put_packages ns rest
  put_stmt (packages_everywhere every t n) rest = every ∷ t ∷ n ∷ rest
  put_stmt (blocks p b ends) rest = put_prior p (put_block b (ends ∷ rest))

  pub put_prior : Prior → List Token → List Token
  put_prior (begun x o) rest = put_before x (put_opening o rest)

  pub put_before : Before → List Token → List Token
  put_before fresh rest = rest
  put_before (behind p b) rest = put_prior p (put_block b rest)

  pub put_block : Block → List Token → List Token
  put_block (block ls m) rest = put_lines ls (put_place m rest)

  pub put_lines : Lines → List Token → List Token
  put_lines no_lines rest = rest
  put_lines (line ls m t) rest = put_lines ls (put_place m (t ∷ rest))

  pub put_place : Place → List Token → List Token
  put_place empty rest = rest
  put_place (stmt s) rest = put_stmt s rest

-- ---- where a statement stands

pub record Scope : Type 0 where
  -- at the top level of the script
  pub top : Bool
  -- in a loop, where `break` and `continue` may stand
  pub loop : Bool
  -- in a function with a block, where `return` may stand
  pub function : Bool

abbrev pub outermost : Scope
outermost = record { top = true; loop = false; function = false }

-- the scope of the block behind an opening
abbrev pub within_header : Header → Scope → Scope
within_header (while_head t) sc = record { top = false; loop = true; function = sc.function }
within_header (if_head t) sc = record { top = false; loop = sc.loop; function = sc.function }
within_header (elseif_head t) sc = record { top = false; loop = sc.loop; function = sc.function }
within_header (for_head t n i) sc = record { top = false; loop = true; function = sc.function }
within_header (distributed_head g t o op c f n i) sc = record { top = false; loop = false; function = sc.function }

abbrev pub within : Opening → Scope → Scope
within (headed h c sep) sc = within_header h sc
within (else_open t) sc = record { top = false; loop = sc.loop; function = sc.function }
within (try_open t) sc = record { top = false; loop = sc.loop; function = sc.function }
within (catch_open t sep) sc = record { top = false; loop = sc.loop; function = sc.function }
within (catch_name t n sep) sc = record { top = false; loop = sc.loop; function = sc.function }
within (function_open every t s) sc = record { top = false; loop = false; function = true }

-- ---- which opening may follow which

pub data Role : Type 0 where
  starting : Role
  -- `elseif`, `else` and `end` may follow
  conditional : Role
  -- only `catch` may follow
  trying : Role
  -- only `end` may follow
  settled : Role

abbrev pub role_of_header : Header → Role
role_of_header (if_head t) = conditional
role_of_header (elseif_head t) = conditional
role_of_header _ = settled

abbrev pub role_of : Opening → Role
role_of (headed h c sep) = role_of_header h
role_of (try_open t) = trying
role_of _ = settled

abbrev pub role : Prior → Role
role (begun x o) = role_of o

abbrev pub role_before : Before → Role
role_before fresh = starting
role_before (behind p b) = role p

abbrev pub header_follows : Role → Header → Bool
header_follows conditional (elseif_head t) = true
header_follows starting (while_head t) = true
header_follows starting (if_head t) = true
header_follows starting (for_head t n i) = true
header_follows starting (distributed_head g t o op c f n i) = true
header_follows _ _ = false

abbrev pub follows : Role → Opening → Bool
follows r (headed h c sep) = header_follows r h
follows conditional (else_open t) = true
follows starting (try_open t) = true
follows trying (catch_open t sep) = true
follows trying (catch_name t n sep) = true
follows starting (function_open every t s) = true
follows _ _ = false

abbrev pub may_end : Role → Bool
may_end conditional = true
may_end settled = true
may_end _ = false

-- ---- the grammar's trees

abbrev pub is_separator : Kind → Bool
is_separator Semicolon = true
is_separator LineEnd = true
is_separator _ = false

abbrev pub is_update : Kind → Bool
is_update PlusAssign = true
is_update MinusAssign = true
is_update StarAssign = true
is_update _ = false

-- the word before a loop's collection
abbrev pub is_in : Kind → Bool
is_in In = true
is_in Assign = true
is_in _ = false

-- what `@distributed` reduces with
abbrev pub is_reducer : Kind → Bool
is_reducer k = if is_argument k then true else (if is_word word.Min k then true else (if is_word word.Max k then true else is_word word.Xor k))

abbrev pub is_package : Kind → Bool
is_package k = if is_word word.Distributed k then true else is_word word.DistributedArrays k

abbrev pub are_commas : Items → Bool
are_commas none = true
are_commas (more e t es) = is_comma t.kind && are_commas es

-- `f(a, b)` with names that are each there once
abbrev pub is_signature : Syntax → Bool
is_signature (bracket (called (leaf f)) o most last c) = is_name f.kind && (are_commas most && is_list_of_names most last)
is_signature _ = false

-- whether the name is none of these
abbrev pub is_fresh : Kind → Parameters → Bool
is_fresh n no_parameters = true
is_fresh n (first m) = not (are_same n m.kind)
is_fresh n (next ps comma m) = not (are_same n m.kind) && is_fresh n ps

abbrev pub AreParameters : Parameters → Type 0
AreParameters no_parameters = Unit {0}
AreParameters (first n) = IsTrue (is_name n.kind)
AreParameters (next no_parameters comma n) = ⊥
AreParameters (next ps comma n) = AreParameters ps × (comma.kind ≡ Comma) × IsTrue (is_name n.kind) × IsTrue (is_fresh n.kind ps)

abbrev pub IsSignature : Signature → Type 0
IsSignature s = IsTrue (is_name s.name.kind) × (s.opens.kind ≡ OpenParen) × AreParameters s.parameters × (s.closes.kind ≡ CloseParen)

abbrev pub ArePackages : Packages → Type 0
ArePackages (using_first t n) = (t.kind ≡ Using) × IsTrue (is_package n.kind)
ArePackages (using_next ns comma n) = ArePackages ns × (comma.kind ≡ Comma) × IsTrue (is_package n.kind)

abbrev pub IsLead : Scope → Lead → Type 0
IsLead sc bare = Unit {0}
IsLead sc (assigned n t) = IsTrue (is_name n.kind) × (t.kind ≡ Assign)
IsLead sc (updated n t) = IsTrue (is_name n.kind) × IsTrue (is_update t.kind)
IsLead sc (defined head t) = IsTrue sc.top × IsAt true false 10 head × IsTrue (is_signature head) × (t.kind ≡ Assign)
IsLead sc (defined_everywhere every s t) = IsTrue sc.top × (every.kind ≡ Everywhere) × IsSignature s × (t.kind ≡ Assign)
IsLead sc (returned t) = IsTrue sc.function × (t.kind ≡ Return)

-- where a statement of one word may stand
abbrev pub is_alone : Scope → Kind → Bool
is_alone sc Return = sc.function
is_alone sc Break = sc.loop
is_alone sc Continue = sc.loop
is_alone sc _ = false

abbrev pub IsTarget : Target → Type 0
IsTarget no_target = Unit {0}
IsTarget (target n t) = IsTrue (is_name n.kind) × (t.kind ≡ Assign)

abbrev pub IsHeader : Header → Type 0
IsHeader (while_head t) = t.kind ≡ While
IsHeader (if_head t) = t.kind ≡ If
IsHeader (elseif_head t) = t.kind ≡ Elseif
IsHeader (for_head t n i) = (t.kind ≡ For) × IsTrue (is_name n.kind) × IsTrue (is_in i.kind)
IsHeader (distributed_head g t o op c f n i) = IsTarget g × (t.kind ≡ DistributedFor) × (o.kind ≡ OpenParen) × IsTrue (is_reducer op.kind) × (c.kind ≡ CloseParen)
    × (f.kind ≡ For) × IsTrue (is_name n.kind) × IsTrue (is_in i.kind)

abbrev pub IsEvery : Option Token → Type 0
IsEvery None = Unit {0}
IsEvery (Some t) = t.kind ≡ Everywhere

abbrev pub IsOpening : Scope → Opening → Type 0
IsOpening sc (headed h c sep) = IsHeader h × IsAt true false 1 c × IsTrue (is_separator sep.kind)
IsOpening sc (else_open t) = t.kind ≡ Else
IsOpening sc (try_open t) = t.kind ≡ Try
IsOpening sc (catch_open t sep) = (t.kind ≡ Catch) × IsTrue (is_separator sep.kind)
IsOpening sc (catch_name t n sep) = (t.kind ≡ Catch) × IsTrue (is_name n.kind) × IsTrue (is_separator sep.kind)
IsOpening sc (function_open every t s) = IsTrue sc.top × IsEvery every × (t.kind ≡ Function) × IsSignature s

-- the scope of the last block
abbrev pub inside : Prior → Scope → Scope
inside (begun x o) sc = within o sc

abbrev mutual
  pub IsStmt : Scope → Stmt → Type 0
  IsStmt sc (ended l e) = IsLead sc l × IsAt true false 1 e
  IsStmt sc (alone t) = IsTrue (is_alone sc t.kind)
  IsStmt sc (packages ns) = IsTrue sc.top × ArePackages ns
  IsStmt sc (packages_everywhere every t n) = IsTrue sc.top × (every.kind ≡ Everywhere) × (t.kind ≡ Using) × IsTrue (is_package n.kind)
  IsStmt sc (blocks p b ends) = IsPrior sc p × IsBlock (inside p sc) b × IsTrue (may_end (role p)) × (ends.kind ≡ End)

  pub IsPrior : Scope → Prior → Type 0
  IsPrior sc (begun x o) = IsBefore sc x × IsTrue (follows (role_before x) o) × IsOpening sc o

  pub IsBefore : Scope → Before → Type 0
  IsBefore sc fresh = Unit {0}
  IsBefore sc (behind p b) = IsPrior sc p × IsBlock (inside p sc) b

  pub IsBlock : Scope → Block → Type 0
  IsBlock sc (block ls m) = AreLines sc ls × IsPlace sc m

  pub AreLines : Scope → Lines → Type 0
  AreLines sc no_lines = Unit {0}
  AreLines sc (line ls m t) = AreLines sc ls × IsPlace sc m × IsTrue (is_separator t.kind)

  pub IsPlace : Scope → Place → Type 0
  IsPlace sc empty = Unit {0}
  IsPlace sc (stmt s) = IsStmt sc s
