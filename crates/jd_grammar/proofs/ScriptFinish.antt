-- Some end makes a script of what was read.
use Rattle.std.proofs.Common.{ℕ, ◌≡◌, ◌≤◌, ◌<◌, ◌+◌, max, true, false, ◌&&◌, not, IsTrue, List, [], ◌∷◌, refl, sym, ap, subst, ◌∙◌, arith}
use Rattle.std.proofs.lemmas.Bool.Decides.{nat_tests}
use Rattle.jd_grammar.specs.declared.token.Token.{Token}
use Rattle.jd_grammar.specs.declared.token.Word.TheVariants as word
use Rattle.jd_grammar.specs.declared.token.Name.TheVariants as name
use Rattle.jd_grammar.specs.declared.token.Kind.{Kind}
use Rattle.jd_grammar.specs.declared.token.Kind.TheVariants.{Number, Name, For, In, Catch, End, Using, Plus, Comma, Assign, OpenParen, CloseParen, LineEnd}
use Rattle.jd_grammar.specs.Grammar.{Syntax, are_same}
use Rattle.jd_grammar.specs.Frames.{Frame, Now, wanted, State, want}
use Rattle.jd_grammar.specs.Script.{Parameters, no_parameters, first, next, Signature, using_first, using_next, Lead, bare, assigned, updated, defined, defined_everywhere, returned, Target, Header, while_head, if_head, elseif_head, for_head, distributed_head, Opening, headed, else_open, try_open, catch_open, catch_name, function_open, Stmt, ended, alone, packages, packages_everywhere, blocks, begun, Before, fresh, behind, Block, block, Lines, no_lines, Place, empty, stmt, Scope, outermost, within, put_parameters, put_lead, put_header, put_opening, put_stmt, put_before, put_block, put_lines, put_place, Role, trying, role_of, role_before, follows, may_end, is_fresh, is_alone, AreParameters, IsSignature, IsLead, IsOpening, IsStmt, IsBefore, IsBlock, AreLines, IsPlace}
use Rattle.jd_grammar.specs.Reader.{Outer, Bottom, in_lead, in_header, Owner, of_function, of_everywhere, Awaited, for_name, for_in, distributed_open, distributed_reducer, distributed_close, distributed_for, distributed_name, distributed_in, function_name, signature_open, signature_first, signature_next, signature_name, signature_end, everywhere, everywhere_package, package_first, package_next, catch_words, catch_named, Mode, at_expression, at_words, complete, Config, scope, is_trying}
use Rattle.jd_grammar.proofs.Invariant.{IsState}
use Rattle.jd_grammar.specs.Shortest.{token, zero_leaf, a_name, whole, to_end}
use Rattle.jd_grammar.proofs.Finish.{whole_ok, whole_put}
use Rattle.jd_grammar.proofs.Context.{put_outer, put_context, put_owner, put_mode, put_config, AreOuter, IsBottom, IsOwner, are_some, IsAwaited, IsMode, IsConfig}
use Rattle.jd_grammar.proofs.Absurd.{no}

-- ---- a statement's end

-- a whole statement, or none, and the tokens that make it so
pub record Ended : Type 0 where
  pub place : Place
  pub ahead : List Token → List Token

abbrev ended_with : Stmt → (List Token → List Token) → Ended
ended_with s f = record { place = stmt s; ahead = f }

abbrev bare_block : Block
bare_block = block no_lines empty

abbrev end_token : Token
end_token = token End

abbrev separator : Token
separator = token LineEnd

-- a statement of one empty block
abbrev with_block : Before → Opening → Stmt
with_block x o = blocks (begun x o) bare_block end_token

abbrev header_end : Before → Header → State → Ended
header_end x h s = ended_with (with_block x (headed h (whole s) separator)) (λ rest. to_end s (separator ∷ end_token ∷ rest))

abbrev lead_end : Lead → State → Ended
lead_end l s = ended_with (ended l (whole s)) (to_end s)

abbrev pub bare_end : List Frame → Now → Ended
bare_end [] wanted = record { place = empty; ahead = λ rest. rest }
bare_end fs n = lead_end bare (record { frames = fs; now = n })

abbrev pub return_end : Token → List Frame → Now → Ended
return_end t [] wanted = ended_with (alone t) (λ rest. rest)
return_end t fs n = lead_end (returned t) (record { frames = fs; now = n })

abbrev pub expression_end : Bottom → State → Ended
expression_end (in_lead bare) s = bare_end s.frames s.now
expression_end (in_lead (returned t)) s = return_end t s.frames s.now
expression_end (in_lead l) s = lead_end l s
expression_end (in_header x h) s = header_end x h s

-- a name that stands nowhere in the list
abbrev number_of : Kind → ℕ
number_of (Name (name.Other n)) = n
number_of _ = 0

abbrev above : Parameters → ℕ
above no_parameters = 0
above (first n) = number_of n.kind + 1
above (next ps comma n) = max (number_of n.kind + 1) (above ps)

abbrev pub new_name : Parameters → Token
new_name ps = token (Name (name.Other (above ps)))

abbrev for_end : Token → Token → Token → Ended
for_end t n i = header_end fresh (for_head t n i) (want [])

abbrev distributed_end : Target → Token → Token → Token → Token → Token → Token → Token → Ended
distributed_end g t o op c f n i = header_end fresh (distributed_head g t o op c f n i) (want [])

abbrev pub owned : Owner → Signature → Stmt
owned (of_function every t) s = with_block fresh (function_open every t s)
owned (of_everywhere every) s = ended (defined_everywhere every s (token Assign)) zero_leaf

abbrev owner_end : Owner → List Token → List Token
owner_end (of_function every t) rest = end_token ∷ rest
owner_end (of_everywhere every) rest = token Assign ∷ token (Number 0) ∷ rest

abbrev pub a_signature : Token → Token → Parameters → Signature
a_signature f o ps = record { name = f; opens = o; parameters = ps; closes = token CloseParen }

abbrev signature_done : Owner → Token → Token → Parameters → (List Token → List Token) → Ended
signature_done w f o ps go = ended_with (owned w (a_signature f o ps)) (λ rest. go (token CloseParen ∷ owner_end w rest))

abbrev a_package : Token
a_package = token (Name (name.Word word.Distributed))

abbrev catch_end : Before → Opening → (List Token → List Token) → Ended
catch_end x o go = ended_with (with_block x o) (λ rest. go (end_token ∷ rest))

abbrev pub opens_with : Token
opens_with = token OpenParen

abbrev pub words_end : Awaited → Ended
words_end (for_name t) = ended_with (with_block fresh (headed (for_head t a_name (token In)) zero_leaf separator)) (λ rest. a_name ∷ token In ∷ token (Number 0) ∷ separator ∷ end_token ∷ rest)
words_end (for_in t n) = ended_with (with_block fresh (headed (for_head t n (token In)) zero_leaf separator)) (λ rest. token In ∷ token (Number 0) ∷ separator ∷ end_token ∷ rest)
words_end (distributed_open g t) = ended_with (with_block fresh (headed (distributed_head g t opens_with (token Plus) (token CloseParen) (token For) a_name (token In)) zero_leaf separator))
    (λ rest. opens_with ∷ token Plus ∷ token CloseParen ∷ token For ∷ a_name ∷ token In ∷ token (Number 0) ∷ separator ∷ end_token ∷ rest)
words_end (distributed_reducer g t o) = ended_with (with_block fresh (headed (distributed_head g t o (token Plus) (token CloseParen) (token For) a_name (token In)) zero_leaf separator))
    (λ rest. token Plus ∷ token CloseParen ∷ token For ∷ a_name ∷ token In ∷ token (Number 0) ∷ separator ∷ end_token ∷ rest)
words_end (distributed_close g t o op) = ended_with (with_block fresh (headed (distributed_head g t o op (token CloseParen) (token For) a_name (token In)) zero_leaf separator))
    (λ rest. token CloseParen ∷ token For ∷ a_name ∷ token In ∷ token (Number 0) ∷ separator ∷ end_token ∷ rest)
words_end (distributed_for g t o op c) = ended_with (with_block fresh (headed (distributed_head g t o op c (token For) a_name (token In)) zero_leaf separator))
    (λ rest. token For ∷ a_name ∷ token In ∷ token (Number 0) ∷ separator ∷ end_token ∷ rest)
words_end (distributed_name g t o op c f) = ended_with (with_block fresh (headed (distributed_head g t o op c f a_name (token In)) zero_leaf separator))
    (λ rest. a_name ∷ token In ∷ token (Number 0) ∷ separator ∷ end_token ∷ rest)
words_end (distributed_in g t o op c f n) = ended_with (with_block fresh (headed (distributed_head g t o op c f n (token In)) zero_leaf separator))
    (λ rest. token In ∷ token (Number 0) ∷ separator ∷ end_token ∷ rest)
words_end (function_name every t) = signature_done (of_function every t) a_name opens_with no_parameters (λ rest. a_name ∷ opens_with ∷ rest)
words_end (signature_open w f) = signature_done w f opens_with no_parameters (λ rest. opens_with ∷ rest)
words_end (signature_first w f o) = signature_done w f o no_parameters (λ rest. rest)
words_end (signature_next w f o ps) = signature_done w f o ps (λ rest. rest)
words_end (signature_name w f o ps comma) = signature_done w f o (next ps comma (new_name ps)) (λ rest. new_name ps ∷ rest)
words_end (signature_end every s) = ended_with (ended (defined_everywhere every s (token Assign)) zero_leaf) (λ rest. token Assign ∷ token (Number 0) ∷ rest)
words_end (everywhere every) = ended_with (packages_everywhere every (token Using) a_package) (λ rest. token Using ∷ a_package ∷ rest)
words_end (everywhere_package every t) = ended_with (packages_everywhere every t a_package) (λ rest. a_package ∷ rest)
words_end (package_first t) = ended_with (packages (using_first t a_package)) (λ rest. a_package ∷ rest)
words_end (package_next ns comma) = ended_with (packages (using_next ns comma a_package)) (λ rest. a_package ∷ rest)
words_end (catch_words x t) = catch_end x (catch_open t separator) (λ rest. separator ∷ rest)
words_end (catch_named x t n) = catch_end x (catch_name t n separator) (λ rest. separator ∷ rest)

abbrev pub mode_end : Mode → Ended
mode_end (at_expression b s) = expression_end b s
mode_end (at_words w) = words_end w
mode_end (complete s) = ended_with s (λ rest. rest)

pub record IsEnded (sc : Scope) (m : Mode) (r : Ended) : Type 0 where
  pub grammar : IsPlace sc r.place
  pub tokens : (rest : List Token) → put_place r.place rest ≡ put_mode m (r.ahead rest)

lead_ok : (sc : Scope) (l : Lead) (s : State) → IsLead sc l → IsState s → IsEnded sc (at_expression (in_lead l) s) (lead_end l s)
lead_ok sc l s w v = record { grammar = (w, whole_ok s v); tokens = λ rest. ap (put_lead l) (whole_put s v rest) }

bare_ok : (sc : Scope) (fs : List Frame) (n : Now) → IsState (record { frames = fs; now = n }) → IsEnded sc (at_expression (in_lead bare) (record { frames = fs; now = n })) (bare_end fs n)
bare_ok sc [] wanted v = record { grammar = tt; tokens = λ rest. refl }
bare_ok sc fs n v = lead_ok sc bare (record { frames = fs; now = n }) tt v

return_ok : (sc : Scope) (t : Token) (fs : List Frame) (n : Now) → IsLead sc (returned t) → IsState (record { frames = fs; now = n }) → IsEnded sc (at_expression (in_lead (returned t)) (record { frames = fs; now = n })) (return_end t fs n)
return_ok sc t [] wanted w v = record { grammar = subst (λ k. IsTrue (is_alone sc k)) (sym w.1) w.0; tokens = λ rest. refl }
return_ok sc t fs n w v = lead_ok sc (returned t) (record { frames = fs; now = n }) w v

header_may_end : (h : Header) (c : Syntax) (sep : Token) → IsTrue (may_end (role_of (headed h c sep)))
header_may_end (while_head t) c sep = refl
header_may_end (if_head t) c sep = refl
header_may_end (elseif_head t) c sep = refl
header_may_end (for_head t n i) c sep = refl
header_may_end (distributed_head g t o op q f n i) c sep = refl

header_ok : (sc : Scope) (x : Before) (h : Header) (s : State) → IsBottom sc (in_header x h) → IsState s → IsEnded sc (at_expression (in_header x h) s) (header_end x h s)
header_ok sc x h s w v = record {
  grammar = ((w.0, w.1, (w.2, whole_ok s v, refl)), (tt, tt), header_may_end h (whole s) separator, refl);
  tokens = λ rest. ap (λ ts. put_before x (put_header h ts)) (whole_put s v (separator ∷ end_token ∷ rest));
}

expression_ok : (sc : Scope) (b : Bottom) (s : State) → IsBottom sc b → IsState s → IsEnded sc (at_expression b s) (expression_end b s)
expression_ok sc (in_lead bare) s w v = bare_ok sc s.frames s.now v
expression_ok sc (in_lead (returned t)) s w v = return_ok sc t s.frames s.now w v
expression_ok sc (in_lead (assigned n t)) s w v = lead_ok sc (assigned n t) s w v
expression_ok sc (in_lead (updated n t)) s w v = lead_ok sc (updated n t) s w v
expression_ok sc (in_lead (defined d t)) s w v = lead_ok sc (defined d t) s w v
expression_ok sc (in_lead (defined_everywhere e g t)) s w v = lead_ok sc (defined_everywhere e g t) s w v
expression_ok sc (in_header x h) s w v = header_ok sc x h s w v

-- ---- fixed words

differs : (m : ℕ) (k : Kind) → number_of k < m → are_same (Name (name.Other m)) k ≡ false
differs m (Name (name.Other n)) h = grind (arith, nat_tests)
differs m (Name (name.Word w)) h = refl
differs m _ h = refl

new_from : (m : ℕ) (ps : Parameters) → above ps ≤ m → is_fresh (Name (name.Other m)) ps ≡ true
new_from m no_parameters h = refl
new_from m (first n) h = ap not (differs m n.kind (omega arith))
new_from m (next ps comma n) h = ap (λ b. not b && is_fresh (Name (name.Other m)) ps) (differs m n.kind (omega arith)) ∙ new_from m ps (omega arith)

more_parameters : (ps : Parameters) (comma : Token) → AreParameters ps → IsTrue (are_some ps) → comma.kind ≡ Comma → AreParameters (next ps comma (new_name ps))
more_parameters no_parameters comma w s k = cc
more_parameters (first m) comma w s k = (w, k, refl, new_from (above (first m)) (first m) (omega arith))
more_parameters (next ps q m) comma w s k = (w, k, refl, new_from (above (next ps q m)) (next ps q m) (omega arith))

owned_ok : (sc : Scope) (w : Owner) (s : Signature) → IsOwner sc w → IsSignature s → IsStmt sc (owned w s)
owned_ok sc (of_function every t) s w v = ((tt, refl, (w.0, w.1, w.2, v)), (tt, tt), refl, refl)
owned_ok sc (of_everywhere every) s w v = ((w.0, w.1, v, refl), refl)

owned_put : (w : Owner) (f o : Token) (ps : Parameters) (rest : List Token) → put_stmt (owned w (a_signature f o ps)) rest ≡ put_owner w (f ∷ o ∷ put_parameters ps (token CloseParen ∷ owner_end w rest))
owned_put (of_function every t) f o ps rest = refl
owned_put (of_everywhere every) f o ps rest = refl

trying_open : (r : Role) (t sep : Token) → is_trying r ≡ true → IsTrue (follows r (catch_open t sep))
trying_open trying t sep h = refl
trying_open _ t sep h = no h

trying_name : (r : Role) (t n sep : Token) → is_trying r ≡ true → IsTrue (follows r (catch_name t n sep))
trying_name trying t n sep h = refl
trying_name _ t n sep h = no h

words_ok : (sc : Scope) (x : Awaited) → IsAwaited sc x → IsEnded sc (at_words x) (words_end x)
words_ok sc (for_name t) w = record { grammar = ((tt, refl, ((w, refl, refl), refl, refl)), (tt, tt), refl, refl); tokens = λ rest. refl }
words_ok sc (for_in t n) w = record { grammar = ((tt, refl, ((w.0, w.1, refl), refl, refl)), (tt, tt), refl, refl); tokens = λ rest. refl }
words_ok sc (distributed_open g t) w = record { grammar = ((tt, refl, ((w.0, w.1, refl, refl, refl, refl, refl, refl), refl, refl)), (tt, tt), refl, refl); tokens = λ rest. refl }
words_ok sc (distributed_reducer g t o) w = record { grammar = ((tt, refl, ((w.0, w.1, w.2, refl, refl, refl, refl, refl), refl, refl)), (tt, tt), refl, refl); tokens = λ rest. refl }
words_ok sc (distributed_close g t o op) w = record { grammar = ((tt, refl, ((w.0, w.1, w.2, w.3, refl, refl, refl, refl), refl, refl)), (tt, tt), refl, refl); tokens = λ rest. refl }
words_ok sc (distributed_for g t o op c) w = record { grammar = ((tt, refl, ((w.0.0, w.0.1, w.0.2, w.0.3, w.1, refl, refl, refl), refl, refl)), (tt, tt), refl, refl); tokens = λ rest. refl }
words_ok sc (distributed_name g t o op c f) w = record { grammar = ((tt, refl, ((w.0.0, w.0.1, w.0.2, w.0.3, w.1, w.2, refl, refl), refl, refl)), (tt, tt), refl, refl); tokens = λ rest. refl }
words_ok sc (distributed_in g t o op c f n) w = record { grammar = ((tt, refl, ((w.0.0, w.0.1, w.0.2, w.0.3, w.1, w.2, w.3, refl), refl, refl)), (tt, tt), refl, refl); tokens = λ rest. refl }
words_ok sc (function_name every t) w = record { grammar = owned_ok sc (of_function every t) (a_signature a_name opens_with no_parameters) w (refl, refl, tt, refl); tokens = λ rest. refl }
words_ok sc (signature_open o f) w = record { grammar = owned_ok sc o (a_signature f opens_with no_parameters) w.0 (w.1, refl, tt, refl); tokens = λ rest. owned_put o f opens_with no_parameters rest }
words_ok sc (signature_first w f o) v = record { grammar = owned_ok sc w (a_signature f o no_parameters) v.0 (v.1, v.2, tt, refl); tokens = λ rest. owned_put w f o no_parameters rest }
words_ok sc (signature_next w f o ps) v = record { grammar = owned_ok sc w (a_signature f o ps) v.0.0 (v.0.1, v.0.2, v.1, refl); tokens = λ rest. owned_put w f o ps rest }
words_ok sc (signature_name w f o ps comma) v = record {
  grammar = owned_ok sc w (a_signature f o (next ps comma (new_name ps))) v.0.0 (v.0.1, v.0.2, more_parameters ps comma v.1 v.2 v.3, refl);
  tokens = λ rest. owned_put w f o (next ps comma (new_name ps)) rest;
}
words_ok sc (signature_end every s) v = record { grammar = ((v.0, v.1, v.2, refl), refl); tokens = λ rest. refl }
words_ok sc (everywhere every) v = record { grammar = (v.0, v.1, refl, refl); tokens = λ rest. refl }
words_ok sc (everywhere_package every t) v = record { grammar = (v.0, v.1, v.2, refl); tokens = λ rest. refl }
words_ok sc (package_first t) v = record { grammar = (v.0, (v.1, refl)); tokens = λ rest. refl }
words_ok sc (package_next ns comma) v = record { grammar = (v.0, (v.1, v.2, refl)); tokens = λ rest. refl }
words_ok sc (catch_words x t) v = record { grammar = ((v.0, trying_open (role_before x) t separator v.1, (v.2, refl)), (tt, tt), refl, refl); tokens = λ rest. refl }
words_ok sc (catch_named x t n) v = record { grammar = ((v.0, trying_name (role_before x) t n separator v.1, (v.2, v.3, refl)), (tt, tt), refl, refl); tokens = λ rest. refl }

mode_ok : (sc : Scope) (m : Mode) → IsMode sc m → IsEnded sc m (mode_end m)
mode_ok sc (at_expression b s) w = expression_ok sc b s w.0 w.1
mode_ok sc (at_words x) w = words_ok sc x w
mode_ok sc (complete s) w = record { grammar = w; tokens = λ rest. refl }

-- ---- the blocks' ends

-- `try` wants its `catch`
abbrev pub shut : Before → Opening → Block → Stmt
shut x (try_open t) b = with_block (behind (begun x (try_open t)) b) (catch_open (token Catch) separator)
shut x o b = blocks (begun x o) b end_token

abbrev shut_end : Opening → List Token → List Token
shut_end (try_open t) rest = token Catch ∷ separator ∷ end_token ∷ rest
shut_end o rest = end_token ∷ rest

abbrev pub shut_blocks : List Outer → Lines → Place → Block
shut_blocks [] ls p = block ls p
shut_blocks (o ∷ os) ls p = shut_blocks os o.lines (stmt (shut o.before o.opening (block ls p)))

abbrev pub blocks_end : List Outer → List Token → List Token
blocks_end [] rest = rest
blocks_end (o ∷ os) rest = shut_end o.opening (blocks_end os rest)

shut_ok : (sc : Scope) (x : Before) (o : Opening) (b : Block) → IsBefore sc x → IsTrue (follows (role_before x) o) → IsOpening sc o → IsBlock (within o sc) b → IsStmt sc (shut x o b)
shut_ok sc x (headed h c sep) b w f v u = ((w, f, v), u, header_may_end h c sep, refl)
shut_ok sc x (else_open t) b w f v u = ((w, f, v), u, refl, refl)
shut_ok sc x (try_open t) b w f v u = ((((w, f, v), u), refl, (refl, refl)), (tt, tt), refl, refl)
shut_ok sc x (catch_open t sep) b w f v u = ((w, f, v), u, refl, refl)
shut_ok sc x (catch_name t n sep) b w f v u = ((w, f, v), u, refl, refl)
shut_ok sc x (function_open every t s) b w f v u = ((w, f, v), u, refl, refl)

shut_put : (x : Before) (o : Opening) (b : Block) (rest : List Token) → put_stmt (shut x o b) rest ≡ put_before x (put_opening o (put_block b (shut_end o rest)))
shut_put x (headed h c sep) b rest = refl
shut_put x (else_open t) b rest = refl
shut_put x (try_open t) b rest = refl
shut_put x (catch_open t sep) b rest = refl
shut_put x (catch_name t n sep) b rest = refl
shut_put x (function_open every t s) b rest = refl

pub blocks_ok : (os : List Outer) (ls : Lines) (p : Place) → AreOuter os → AreLines (scope os) ls → IsPlace (scope os) p → IsBlock outermost (shut_blocks os ls p)
blocks_ok [] ls p w l v = (l, v)
blocks_ok (o ∷ os) ls p w l v = blocks_ok os o.lines (stmt (shut o.before o.opening (block ls p))) w.4 w.0 (shut_ok (scope os) o.before o.opening (block ls p) w.1 w.2 w.3 (l, v))

pub blocks_put : (os : List Outer) (ls : Lines) (p : Place) (rest : List Token) → put_block (shut_blocks os ls p) rest ≡ put_outer os (put_lines ls (put_place p (blocks_end os rest)))
blocks_put [] ls p rest = refl
blocks_put (o ∷ os) ls p rest = blocks_put os o.lines (stmt (shut o.before o.opening (block ls p))) rest
    ∙ ap (λ ts. put_outer os (put_lines o.lines ts)) (shut_put o.before o.opening (block ls p) (blocks_end os rest))

-- ---- the script that a configuration may become

abbrev pub script : Config → Block
script c = shut_blocks c.context.outer c.context.lines (mode_end c.mode).place

abbrev pub script_end : Config → List Token
script_end c = (mode_end c.mode).ahead (blocks_end c.context.outer [])

pub script_ok : (c : Config) → IsConfig c → IsBlock outermost (script c)
script_ok c w = let m = mode_ok (scope c.context.outer) c.mode w.mode in blocks_ok c.context.outer c.context.lines (mode_end c.mode).place w.context.outer w.context.lines m.grammar

pub script_put : (c : Config) → IsConfig c → put_block (script c) [] ≡ put_config c (script_end c)
script_put c w =
    let m = mode_ok (scope c.context.outer) c.mode w.mode in
    blocks_put c.context.outer c.context.lines (mode_end c.mode).place [] ∙ ap (put_context c.context) (m.tokens (blocks_end c.context.outer []))
