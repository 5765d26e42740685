-- The steps that a statement's own tokens lead to.
use Rattle.std.proofs.Common.{◌≡◌, Bool, true, false, ◌&&◌, IsTrue, List, [], ◌∷◌, Option, Some, None, refl, ap, ◌∙◌, arith}
use Rattle.jd_grammar.specs.declared.token.Token.{Token}
use Rattle.jd_grammar.specs.declared.token.Kind.{Kind}
use Rattle.jd_grammar.specs.declared.token.Kind.TheVariants.{Name, Function, If, Elseif, Else, While, For, Catch, Return, End, Using, DistributedFor, Everywhere, Comma, Assign, PlusAssign, MinusAssign, StarAssign, OpenParen, CloseParen, Semicolon, LineEnd}
use Rattle.jd_grammar.specs.Kinds.{is_name}
use Rattle.jd_grammar.specs.Grammar.{Syntax, leaf, bracket, called, put, IsAt}
use Rattle.jd_grammar.specs.Frames.{Frame, got, want, have}
use Rattle.jd_grammar.specs.Machine.{close, have_step, want_step, at_end}
use Rattle.jd_grammar.specs.Script.{Parameters, no_parameters, first, next, Signature, Packages, using_first, using_next, Lead, bare, assigned, updated, defined, defined_everywhere, returned, Target, no_target, target, Header, while_head, if_head, elseif_head, for_head, distributed_head, headed, function_open, Stmt, alone, packages, packages_everywhere, starting, header_follows, Before, fresh, line, Place, empty, stmt, put_parameters, put_signature, put_packages, put_lead, put_target, put_header, put_every, is_separator, is_update, is_in, is_reducer, is_package, is_signature, is_fresh, AreParameters, IsSignature, ArePackages, IsLead, IsTarget, IsHeader, IsEvery}
use Rattle.jd_grammar.specs.Reader.{Context, Bottom, in_lead, in_header, Owner, of_function, of_everywhere, for_name, for_in, distributed_open, distributed_reducer, distributed_close, distributed_for, distributed_name, distributed_in, function_name, signature_open, signature_first, signature_next, everywhere, package_first, Mode, at_expression, at_words, complete, Config, beginning, scope, Whole, a_place, a_header, with_expression, whole_at, at_line, open_block, separator_step, ending_step, go, only_if, begin_step, target_step, statement_step, close_signature, first_step, next_step, everywhere_step, is_open, is_close, is_for, is_assign, complete_step, either, step, and_then, run}
use Rattle.jd_grammar.proofs.Steps.{Follows, and_true}
use Rattle.jd_grammar.proofs.Reach.{no_sign, reach}
use Rattle.jd_grammar.proofs.Context.{are_some}
use Rattle.jd_grammar.proofs.Absurd.{no}

-- a run goes on with an expression as its machine does
abbrev pub follow : Context → Bottom → Follows
follow ctx b = record {
  to = Option Config;
  run = λ ts s. run ts (go ctx (at_expression b s));
  goes = λ t rest s d h. ap (λ o. and_then (either o t.kind t ctx b s) (run rest)) h;
}

-- a separator, or a word that ends a block
abbrev pub is_ending : Kind → Bool
is_ending Semicolon = true
is_ending LineEnd = true
is_ending End = true
is_ending Elseif = true
is_ending Else = true
is_ending Catch = true
is_ending _ = false

pub separator_ends : (k : Kind) → is_separator k ≡ true → is_ending k ≡ true
separator_ends Semicolon h = refl
separator_ends LineEnd h = refl
separator_ends _ h = no h

-- no expression takes it
have_none : (k : Kind) (t : Token) (fs : List Frame) (e x : Syntax) → is_ending k ≡ true → close 0 fs e ≡ ([], x) → have_step k t fs e ≡ None
have_none Semicolon t fs e x h c = ap (at_end Semicolon t) c
have_none LineEnd t fs e x h c = ap (at_end LineEnd t) c
have_none End t fs e x h c = ap (at_end End t) c
have_none Elseif t fs e x h c = ap (at_end Elseif t) c
have_none Else t fs e x h c = ap (at_end Else t) c
have_none Catch t fs e x h c = ap (at_end Catch t) c
have_none _ t fs e x h c = no h

want_none : (k : Kind) (t : Token) → is_ending k ≡ true → want_step k t [] ≡ None
want_none Semicolon t h = refl
want_none LineEnd t h = refl
want_none End t h = refl
want_none Elseif t h = refl
want_none Else t h = refl
want_none Catch t h = refl
want_none _ t h = no h

begin_ends : (k : Kind) (t : Token) (ctx : Context) (w : Whole) → is_ending k ≡ true → begin_step k t ctx w ≡ ending_step k t ctx w
begin_ends Semicolon t ctx w h = refl
begin_ends LineEnd t ctx w h = refl
begin_ends End t ctx w h = refl
begin_ends Elseif t ctx w h = refl
begin_ends Else t ctx w h = refl
begin_ends Catch t ctx w h = refl
begin_ends _ t ctx w h = no h

target_ends : (k : Kind) (t : Token) (ctx : Context) (e : Syntax) (w : Whole) → is_ending k ≡ true → target_step k t ctx e w ≡ ending_step k t ctx w
target_ends Semicolon t ctx e w h = refl
target_ends LineEnd t ctx e w h = refl
target_ends End t ctx e w h = refl
target_ends Elseif t ctx e w h = refl
target_ends Else t ctx e w h = refl
target_ends Catch t ctx e w h = refl
target_ends _ t ctx e w h = no h

got_ends : (k : Kind) (t : Token) (ctx : Context) (b : Bottom) (fs : List Frame) (e : Syntax) → is_ending k ≡ true → statement_step k t ctx b fs (got e) ≡ ending_step k t ctx (whole_at b fs (got e))
got_ends k t ctx (in_lead bare) [] e h = target_ends k t ctx e (whole_at (in_lead bare) [] (got e)) h
got_ends k t ctx (in_lead bare) (f ∷ fs) e h = refl
got_ends k t ctx (in_lead (assigned n q)) [] e h = refl
got_ends k t ctx (in_lead (assigned n q)) (f ∷ fs) e h = refl
got_ends k t ctx (in_lead (updated n q)) fs e h = refl
got_ends k t ctx (in_lead (defined d q)) fs e h = refl
got_ends k t ctx (in_lead (defined_everywhere u s q)) fs e h = refl
got_ends k t ctx (in_lead (returned q)) fs e h = refl
got_ends k t ctx (in_header x d) fs e h = refl

-- where an expression has been read to its end
pub expression_ends : (t : Token) (ctx : Context) (b : Bottom) (fs : List Frame) (e x : Syntax) → is_ending t.kind ≡ true → close 0 fs e ≡ ([], x)
    → step t (go ctx (at_expression b (have fs e))) ≡ ending_step t.kind t ctx (with_expression b ([], x))
expression_ends t ctx b fs e x h c =
    ap (λ o. either o t.kind t ctx b (have fs e)) (have_none t.kind t fs e x h c) ∙ got_ends t.kind t ctx b fs e h ∙ ap (λ r. ending_step t.kind t ctx (with_expression b r)) c

-- where no statement has begun
pub beginning_ends : (t : Token) (ctx : Context) → is_ending t.kind ≡ true → step t (go ctx beginning) ≡ ending_step t.kind t ctx (a_place empty)
beginning_ends t ctx h = ap (λ o. either o t.kind t ctx (in_lead bare) (want [])) (want_none t.kind t h) ∙ begin_ends t.kind t ctx (a_place empty) h

return_ends : (k : Kind) (t q : Token) (ctx : Context) → is_ending k ≡ true → either (want_step k t []) k t ctx (in_lead (returned q)) (want []) ≡ ending_step k t ctx (a_place (stmt (alone q)))
return_ends k t q ctx h = ap (λ o. either o k t ctx (in_lead (returned q)) (want [])) (want_none k t h)

pub returned_ends : (t q : Token) (ctx : Context) → is_ending t.kind ≡ true → step t (go ctx (at_expression (in_lead (returned q)) (want []))) ≡ ending_step t.kind t ctx (a_place (stmt (alone q)))
returned_ends t q ctx h = return_ends t.kind t q ctx h

complete_at : (k : Kind) (t : Token) (ctx : Context) (s : Stmt) → is_ending k ≡ true → complete_step k t ctx s ≡ ending_step k t ctx (a_place (stmt s))
complete_at Semicolon t ctx s h = refl
complete_at LineEnd t ctx s h = refl
complete_at End t ctx s h = refl
complete_at Elseif t ctx s h = refl
complete_at Else t ctx s h = refl
complete_at Catch t ctx s h = refl
complete_at _ t ctx s h = no h

pub complete_ends : (t : Token) (ctx : Context) (s : Stmt) → is_ending t.kind ≡ true → step t (go ctx (complete s)) ≡ ending_step t.kind t ctx (a_place (stmt s))
complete_ends t ctx s h = complete_at t.kind t ctx s h

separates : (k : Kind) (t : Token) (ctx : Context) (w : Whole) → is_separator k ≡ true → ending_step k t ctx w ≡ separator_step t ctx w
separates Semicolon t ctx w h = refl
separates LineEnd t ctx w h = refl
separates _ t ctx w h = no h

pub line_ends : (t : Token) (ctx : Context) (m : Place) → is_separator t.kind ≡ true → ending_step t.kind t ctx (a_place m) ≡ Some (at_line ctx (line ctx.lines m t))
line_ends t ctx m h = separates t.kind t ctx (a_place m) h

-- ---- a header, to its separator

pub header_runs : (ctx : Context) (x : Before) (h : Header) (c : Syntax) (sep : Token) (rest : List Token) → IsAt true false 1 c → is_separator sep.kind ≡ true
    → run (put c (sep ∷ rest)) (go ctx (at_expression (in_header x h) (want []))) ≡ run rest (open_block ctx x (headed h c sep))
header_runs ctx x h c sep rest w k =
    let r = reach (follow ctx (in_header x h)) 1 c [] w (no_sign true false 1 c w (omega arith)) (omega arith) (sep ∷ rest) in
    r.runs ∙ ap (λ o. and_then o (run rest)) (expression_ends sep ctx (in_header x h) r.frames r.operand c (separator_ends sep.kind k) (r.closes 0 (omega arith) (omega arith)) ∙ separates sep.kind sep ctx (a_header x h c) k)

-- ---- fixed words

pub only_runs : (b : Bool) (c : Config) (rest : List Token) → b ≡ true → and_then (only_if b c) (run rest) ≡ run rest c
only_runs b c rest h = ap (λ x. and_then (only_if x c) (run rest)) h

name_runs : (n : Token) (ctx : Context) (rest : List Token) → is_name n.kind ≡ true → run (n ∷ rest) (go ctx beginning) ≡ run rest (go ctx (at_expression (in_lead bare) (have [] (leaf n))))
name_runs n ctx rest h = elim n.kind as (λ k. is_name k ≡ true → and_then (either (want_step k n []) k n ctx (in_lead bare) (want [])) (run rest) ≡ run rest (go ctx (at_expression (in_lead bare) (have [] (leaf n))))) [
  | Name a ↦ λ h. refl
  | _ ↦ λ h. no h
] h

pub assigned_runs : (n t : Token) (ctx : Context) (rest : List Token) → is_name n.kind ≡ true → t.kind ≡ Assign → run (n ∷ t ∷ rest) (go ctx beginning) ≡ run rest (go ctx (at_expression (in_lead (assigned n t)) (want [])))
assigned_runs n t ctx rest h k = name_runs n ctx (t ∷ rest) h
    ∙ ap (λ x. and_then (either (have_step x t [] (leaf n)) x t ctx (in_lead bare) (have [] (leaf n))) (run rest)) k
    ∙ only_runs (is_name n.kind) (go ctx (at_expression (in_lead (assigned n t)) (want []))) rest h

pub updated_runs : (n t : Token) (ctx : Context) (rest : List Token) → is_name n.kind ≡ true → is_update t.kind ≡ true → run (n ∷ t ∷ rest) (go ctx beginning) ≡ run rest (go ctx (at_expression (in_lead (updated n t)) (want [])))
updated_runs n t ctx rest h k = name_runs n ctx (t ∷ rest) h
    ∙ elim t.kind as (λ x. is_update x ≡ true → and_then (either (have_step x t [] (leaf n)) x t ctx (in_lead bare) (have [] (leaf n))) (run rest) ≡ run rest (go ctx (at_expression (in_lead (updated n t)) (want [])))) [
      | PlusAssign ↦ λ k. only_runs (is_name n.kind) (go ctx (at_expression (in_lead (updated n t)) (want []))) rest h
      | MinusAssign ↦ λ k. only_runs (is_name n.kind) (go ctx (at_expression (in_lead (updated n t)) (want []))) rest h
      | StarAssign ↦ λ k. only_runs (is_name n.kind) (go ctx (at_expression (in_lead (updated n t)) (want []))) rest h
      | _ ↦ λ k. no k
    ] k

define_runs : (head : Syntax) (t : Token) (ctx : Context) (rest : List Token) → (scope ctx.outer).top ≡ true → is_signature head ≡ true → t.kind ≡ Assign
    → run (t ∷ rest) (go ctx (at_expression (in_lead bare) (have [] head))) ≡ run rest (go ctx (at_expression (in_lead (defined head t)) (want [])))
define_runs (bracket (called (leaf f)) o most last c) t ctx rest p h k =
    ap (λ x. and_then (either (have_step x t [] (bracket (called (leaf f)) o most last c)) x t ctx (in_lead bare) (have [] (bracket (called (leaf f)) o most last c))) (run rest)) k
    ∙ only_runs ((scope ctx.outer).top && is_signature (bracket (called (leaf f)) o most last c)) (go ctx (at_expression (in_lead (defined (bracket (called (leaf f)) o most last c) t)) (want []))) rest
    (and_true (scope ctx.outer).top (is_signature (bracket (called (leaf f)) o most last c)) p h)
define_runs _ t ctx rest p h k = no h

pub defined_runs : (head : Syntax) (t : Token) (ctx : Context) (rest : List Token) → (scope ctx.outer).top ≡ true → IsAt true false 10 head → is_signature head ≡ true → t.kind ≡ Assign
    → run (put head (t ∷ rest)) (go ctx beginning) ≡ run rest (go ctx (at_expression (in_lead (defined head t)) (want [])))
defined_runs head t ctx rest p w h k =
    let r = reach (follow ctx (in_lead bare)) 10 head [] w (no_sign true false 10 head w (omega arith)) (omega arith) (t ∷ rest) in
    r.runs ∙ ap (λ s. run (t ∷ rest) (go ctx (at_expression (in_lead bare) s))) (r.exact (omega arith)) ∙ define_runs head t ctx rest p h k

-- a statement's first word
pub word_runs : (k : Kind) (t : Token) (ctx : Context) (m : Mode) (rest : List Token) → t.kind ≡ k → either (want_step k t []) k t ctx (in_lead bare) (want []) ≡ Some (go ctx m)
    → run (t ∷ rest) (go ctx beginning) ≡ run rest (go ctx m)
word_runs k t ctx m rest h s = ap (λ x. and_then (either (want_step x t []) x t ctx (in_lead bare) (want [])) (run rest)) h ∙ ap (λ o. and_then o (run rest)) s

next_runs : (ps : Parameters) (comma n : Token) (w : Owner) (f o : Token) (ctx : Context) (rest : List Token) → comma.kind ≡ Comma → is_name n.kind ≡ true → is_fresh n.kind ps ≡ true
    → run (comma ∷ n ∷ rest) (go ctx (at_words (signature_next w f o ps))) ≡ run rest (go ctx (at_words (signature_next w f o (next ps comma n))))
next_runs ps comma n w f o ctx rest k a g = ap (λ x. and_then (next_step w f o ps x comma ctx) (run (n ∷ rest))) k
    ∙ only_runs (is_name n.kind && is_fresh n.kind ps) (go ctx (at_words (signature_next w f o (next ps comma n)))) rest (and_true (is_name n.kind) (is_fresh n.kind ps) a g)

parameters_run : (ps : Parameters) (w : Owner) (f o : Token) (ctx : Context) (rest : List Token) → AreParameters ps → are_some ps ≡ true
    → run (put_parameters ps rest) (go ctx (at_words (signature_first w f o))) ≡ run rest (go ctx (at_words (signature_next w f o ps)))
parameters_run no_parameters w f o ctx rest v s = cc
parameters_run (first n) w f o ctx rest v s = elim n.kind as (λ k. is_name k ≡ true → and_then (first_step w f o k n ctx) (run rest) ≡ run rest (go ctx (at_words (signature_next w f o (first n))))) [
  | Name a ↦ λ h. refl
  | _ ↦ λ h. no h
] v
parameters_run (next no_parameters comma n) w f o ctx rest v s = absurd v
parameters_run (next (first m) comma n) w f o ctx rest v s = parameters_run (first m) w f o ctx (comma ∷ n ∷ rest) v.0 refl ∙ next_runs (first m) comma n w f o ctx rest v.1 v.2 v.3
parameters_run (next (next ps q m) comma n) w f o ctx rest v s = parameters_run (next ps q m) w f o ctx (comma ∷ n ∷ rest) v.0 refl ∙ next_runs (next ps q m) comma n w f o ctx rest v.1 v.2 v.3

open_true : (k : Kind) → k ≡ OpenParen → is_open k ≡ true
open_true k h = ap is_open h

signature_end_runs : (ps : Parameters) (w : Owner) (f o c : Token) (ctx : Context) (rest : List Token) → AreParameters ps → c.kind ≡ CloseParen
    → run (put_parameters ps (c ∷ rest)) (go ctx (at_words (signature_first w f o))) ≡ run rest (close_signature w (record { name = f; opens = o; parameters = ps; closes = c }) ctx)
signature_end_runs no_parameters w f o c ctx rest v k = ap (λ x. and_then (first_step w f o x c ctx) (run rest)) k
signature_end_runs (first n) w f o c ctx rest v k = parameters_run (first n) w f o ctx (c ∷ rest) v refl ∙ ap (λ x. and_then (next_step w f o (first n) x c ctx) (run rest)) k
signature_end_runs (next ps q n) w f o c ctx rest v k = parameters_run (next ps q n) w f o ctx (c ∷ rest) v refl ∙ ap (λ x. and_then (next_step w f o (next ps q n) x c ctx) (run rest)) k

-- behind its name
signature_runs : (s : Signature) (w : Owner) (ctx : Context) (rest : List Token) → IsSignature s
    → run (s.opens ∷ put_parameters s.parameters (s.closes ∷ rest)) (go ctx (at_words (signature_open w s.name))) ≡ run rest (close_signature w s ctx)
signature_runs s w ctx rest v =
    only_runs (is_open s.opens.kind) (go ctx (at_words (signature_first w s.name s.opens))) (put_parameters s.parameters (s.closes ∷ rest)) (ap is_open v.1)
    ∙ signature_end_runs s.parameters w s.name s.opens s.closes ctx rest v.2 v.3

-- behind `function`
named_runs : (every : Option Token) (t : Token) (s : Signature) (ctx : Context) (rest : List Token) → IsSignature s
    → run (put_signature s rest) (go ctx (at_words (function_name every t))) ≡ run rest (open_block ctx fresh (function_open every t s))
named_runs every t s ctx rest v =
    only_runs (is_name s.name.kind) (go ctx (at_words (signature_open (of_function every t) s.name))) (s.opens ∷ put_parameters s.parameters (s.closes ∷ rest)) v.0
    ∙ signature_runs s (of_function every t) ctx rest v

pub only_some : (b : Bool) (c : Config) → b ≡ true → only_if b c ≡ Some c
only_some b c h = ap (λ x. only_if x c) h

pub function_runs : (every : Option Token) (t : Token) (s : Signature) (ctx : Context) (rest : List Token) → (scope ctx.outer).top ≡ true → IsEvery every → t.kind ≡ Function → IsSignature s
    → run (put_every every (t ∷ put_signature s rest)) (go ctx beginning) ≡ run rest (open_block ctx fresh (function_open every t s))
function_runs None t s ctx rest p e k v =
    word_runs Function t ctx (at_words (function_name None t)) (put_signature s rest) k (only_some (scope ctx.outer).top (go ctx (at_words (function_name None t))) p) ∙ named_runs None t s ctx rest v
function_runs (Some u) t s ctx rest p e k v =
    word_runs Everywhere u ctx (at_words (everywhere u)) (t ∷ put_signature s rest) e (only_some (scope ctx.outer).top (go ctx (at_words (everywhere u))) p)
    ∙ ap (λ x. and_then (everywhere_step u x t ctx) (run (put_signature s rest))) k ∙ named_runs (Some u) t s ctx rest v

everywhere_name : (u n : Token) (ctx : Context) (rest : List Token) → is_name n.kind ≡ true → run (n ∷ rest) (go ctx (at_words (everywhere u))) ≡ run rest (go ctx (at_words (signature_open (of_everywhere u) n)))
everywhere_name u n ctx rest h = elim n.kind as (λ k. is_name k ≡ true → and_then (everywhere_step u k n ctx) (run rest) ≡ run rest (go ctx (at_words (signature_open (of_everywhere u) n)))) [
  | Name a ↦ λ h. refl
  | _ ↦ λ h. no h
] h

everywhere_runs : (u : Token) (s : Signature) (t : Token) (ctx : Context) (rest : List Token) → (scope ctx.outer).top ≡ true → u.kind ≡ Everywhere → IsSignature s → t.kind ≡ Assign
    → run (u ∷ put_signature s (t ∷ rest)) (go ctx beginning) ≡ run rest (go ctx (at_expression (in_lead (defined_everywhere u s t)) (want [])))
everywhere_runs u s t ctx rest p e v k =
    word_runs Everywhere u ctx (at_words (everywhere u)) (put_signature s (t ∷ rest)) e (only_some (scope ctx.outer).top (go ctx (at_words (everywhere u))) p)
    ∙ everywhere_name u s.name ctx (s.opens ∷ put_parameters s.parameters (s.closes ∷ t ∷ rest)) v.0
    ∙ signature_runs s (of_everywhere u) ctx (t ∷ rest) v
    ∙ only_runs (is_assign t.kind) (go ctx (at_expression (in_lead (defined_everywhere u s t)) (want []))) rest (ap is_assign k)

-- ---- what stands before an expression

pub lead_runs : (l : Lead) (ctx : Context) (rest : List Token) → IsLead (scope ctx.outer) l → run (put_lead l rest) (go ctx beginning) ≡ run rest (go ctx (at_expression (in_lead l) (want [])))
lead_runs bare ctx rest w = refl
lead_runs (assigned n t) ctx rest w = assigned_runs n t ctx rest w.0 w.1
lead_runs (updated n t) ctx rest w = updated_runs n t ctx rest w.0 w.1
lead_runs (defined head t) ctx rest w = defined_runs head t ctx rest w.0 w.1 w.2 w.3
lead_runs (defined_everywhere u s t) ctx rest w = everywhere_runs u s t ctx rest w.0 w.1 w.2 w.3
lead_runs (returned t) ctx rest w = word_runs Return t ctx (at_expression (in_lead (returned t)) (want [])) rest w.1 (only_some (scope ctx.outer).function (go ctx (at_expression (in_lead (returned t)) (want []))) w.0)

distributed_begins : (g : Target) (t : Token) (ctx : Context) (rest : List Token) → IsTarget g → t.kind ≡ DistributedFor
    → run (put_target g (t ∷ rest)) (go ctx beginning) ≡ run rest (go ctx (at_words (distributed_open g t)))
distributed_begins no_target t ctx rest w k = word_runs DistributedFor t ctx (at_words (distributed_open no_target t)) rest k refl
distributed_begins (target n q) t ctx rest w k = assigned_runs n q ctx (t ∷ rest) w.0 w.1
    ∙ ap (λ x. and_then (either (want_step x t []) x t ctx (in_lead (assigned n q)) (want [])) (run rest)) k

-- the headers that a statement begins with
pub fresh_header_runs : (h : Header) (ctx : Context) (rest : List Token) → IsHeader h → IsTrue (header_follows starting h)
    → run (put_header h rest) (go ctx beginning) ≡ run rest (go ctx (at_expression (in_header fresh h) (want [])))
fresh_header_runs (while_head t) ctx rest w f = word_runs While t ctx (at_expression (in_header fresh (while_head t)) (want [])) rest w refl
fresh_header_runs (if_head t) ctx rest w f = word_runs If t ctx (at_expression (in_header fresh (if_head t)) (want [])) rest w refl
fresh_header_runs (elseif_head t) ctx rest w f = cc
fresh_header_runs (for_head t n i) ctx rest w f =
    word_runs For t ctx (at_words (for_name t)) (n ∷ i ∷ rest) w.0 refl
    ∙ only_runs (is_name n.kind) (go ctx (at_words (for_in t n))) (i ∷ rest) w.1
    ∙ only_runs (is_in i.kind) (go ctx (at_expression (in_header fresh (for_head t n i)) (want []))) rest w.2
fresh_header_runs (distributed_head g t o op c f n i) ctx rest w h =
    distributed_begins g t ctx (o ∷ op ∷ c ∷ f ∷ n ∷ i ∷ rest) w.0 w.1
    ∙ only_runs (is_open o.kind) (go ctx (at_words (distributed_reducer g t o))) (op ∷ c ∷ f ∷ n ∷ i ∷ rest) (ap is_open w.2)
    ∙ only_runs (is_reducer op.kind) (go ctx (at_words (distributed_close g t o op))) (c ∷ f ∷ n ∷ i ∷ rest) w.3
    ∙ only_runs (is_close c.kind) (go ctx (at_words (distributed_for g t o op c))) (f ∷ n ∷ i ∷ rest) (ap is_close w.4)
    ∙ only_runs (is_for f.kind) (go ctx (at_words (distributed_name g t o op c f))) (n ∷ i ∷ rest) (ap is_for w.5)
    ∙ only_runs (is_name n.kind) (go ctx (at_words (distributed_in g t o op c f n))) (i ∷ rest) w.6
    ∙ only_runs (is_in i.kind) (go ctx (at_expression (in_header fresh (distributed_head g t o op c f n i)) (want []))) rest w.7

-- ---- packages and statements of one word

pub packages_run : (ns : Packages) (ctx : Context) (rest : List Token) → (scope ctx.outer).top ≡ true → ArePackages ns → run (put_packages ns rest) (go ctx beginning) ≡ run rest (go ctx (complete (packages ns)))
packages_run (using_first t n) ctx rest p w =
    word_runs Using t ctx (at_words (package_first t)) (n ∷ rest) w.0 (only_some (scope ctx.outer).top (go ctx (at_words (package_first t))) p)
    ∙ only_runs (is_package n.kind) (go ctx (complete (packages (using_first t n)))) rest w.1
packages_run (using_next ns comma n) ctx rest p w =
    packages_run ns ctx (comma ∷ n ∷ rest) p w.0
    ∙ ap (λ x. and_then (complete_step x comma ctx (packages ns)) (run (n ∷ rest))) w.1
    ∙ only_runs (is_package n.kind) (go ctx (complete (packages (using_next ns comma n)))) rest w.2

pub packages_everywhere_run : (u t n : Token) (ctx : Context) (rest : List Token) → (scope ctx.outer).top ≡ true → u.kind ≡ Everywhere → t.kind ≡ Using → is_package n.kind ≡ true
    → run (u ∷ t ∷ n ∷ rest) (go ctx beginning) ≡ run rest (go ctx (complete (packages_everywhere u t n)))
packages_everywhere_run u t n ctx rest p e k a =
    word_runs Everywhere u ctx (at_words (everywhere u)) (t ∷ n ∷ rest) e (only_some (scope ctx.outer).top (go ctx (at_words (everywhere u))) p)
    ∙ ap (λ x. and_then (everywhere_step u x t ctx) (run (n ∷ rest))) k
    ∙ only_runs (is_package n.kind) (go ctx (complete (packages_everywhere u t n))) rest a
