-- What has been read of a script is what the configuration is written with, and each part of it is in the grammar.
use Rattle.std.proofs.Common.{ℕ, ◌≡◌, Bool, true, false, ◌&&◌, IsTrue, List, [], ◌∷◌, ◌++◌, Option, Some, None, refl, sym, ap, subst, ◌∙◌, arith}
use Rattle.jd_grammar.specs.declared.token.Token.{Token}
use Rattle.jd_grammar.specs.declared.token.Kind.{Kind}
use Rattle.jd_grammar.specs.declared.token.Kind.TheVariants.{Name, Function, If, Elseif, Else, While, For, Try, Catch, Return, Break, Continue, End, Using, DistributedFor, Everywhere, Comma, Assign, PlusAssign, MinusAssign, StarAssign, OpenParen, CloseParen, Semicolon, LineEnd}
use Rattle.jd_grammar.specs.Kinds.{is_name}
use Rattle.jd_grammar.specs.Grammar.{Syntax, leaf, put, IsAt}
use Rattle.jd_grammar.specs.Frames.{Frame, Now, wanted, got, pending, State, want, have}
use Rattle.jd_grammar.specs.Machine as expression
use Rattle.jd_grammar.specs.Machine.{close}
use Rattle.jd_grammar.specs.Script.{Parameters, no_parameters, first, next, using_first, using_next, bare, assigned, updated, defined, defined_everywhere, returned, no_target, target, Header, while_head, if_head, elseif_head, for_head, distributed_head, Opening, headed, else_open, try_open, catch_open, catch_name, function_open, Stmt, ended, alone, packages, packages_everywhere, blocks, begun, Before, fresh, behind, Block, block, Lines, Place, stmt, Scope, outermost, within, put_parameters, put_lines, put_place, put_before, put_opening, put_block, Role, conditional, trying, role_of, role_before, header_follows, follows, may_end, is_separator, is_update, is_in, is_reducer, is_package, is_signature, is_fresh, is_alone, AreParameters, IsLead, IsOpening, IsStmt, IsPrior, IsBefore, IsBlock, AreLines, IsPlace}
use Rattle.jd_grammar.specs.Reader.{Outer, Context, Bottom, in_lead, in_header, Owner, of_function, of_everywhere, Awaited, for_name, for_in, distributed_open, distributed_reducer, distributed_close, distributed_for, distributed_name, distributed_in, function_name, signature_open, signature_first, signature_next, signature_name, signature_end, everywhere, everywhere_package, package_first, package_next, catch_words, catch_named, Mode, at_expression, at_words, complete, Config, beginning, start, scope, Whole, nothing_whole, a_place, a_header, with_expression, without_expression, whole_at, open_block, leave, in_outer, end_block, is_conditional, is_trying, elseif_block, else_block, catch_block, separator_step, at_place, ending_step, go, only_if, begin_step, value_step, assign_step, update_step, target_step, statement_step, close_signature, first_step, next_step, everywhere_step, catch_step, is_open, is_close, is_for, is_assign, words_step, complete_step, either, mode_step, step, and_then, run, whole_of, finish_place, finish}
use Rattle.jd_grammar.proofs.Invariant.{put_frames, put_state, IsState, MayStep, both}
use Rattle.jd_grammar.proofs.Close.{weaken, close_put, IsClosed, closed}
use Rattle.jd_grammar.proofs.Sound.{step_ok}
use Rattle.jd_grammar.proofs.Context.{put_outer, put_context, put_bottom, put_owner, put_mode, put_config, AreOuter, IsBottom, IsOwned, are_some, IsAwaited, IsMode, IsContext, IsConfig, IsWhole, IsNext, MayGo, may_go_if}
use Rattle.jd_grammar.proofs.Absurd.{no}

-- ---- what is whole

with_ok : (sc : Scope) (b : Bottom) (p : ℕ) (gs : List Frame) (r : List Frame × Syntax) (f : List Token → List Token) → IsBottom sc b → IsClosed p gs r → ((rest : List Token) → put_bottom b (put_frames r.0 (put r.1 rest)) ≡ f rest)
    → IsWhole sc f (with_expression b r)
with_ok sc (in_lead l) p gs ([], e) f w c h = ((w, weaken true false c.level 1 e c.fits c.operand), h)
with_ok sc (in_header x d) p gs ([], e) f w c h = (w.0, w.1, w.2, weaken true false c.level 1 e c.fits c.operand, h)
with_ok sc (in_lead l) p gs (_ ∷ fs, e) f w c h = tt
with_ok sc (in_header x d) p gs (_ ∷ fs, e) f w c h = tt

return_alone : (sc : Scope) (t : Token) → IsLead sc (returned t) → IsTrue (is_alone sc t.kind)
return_alone sc t w = subst (λ k. IsTrue (is_alone sc k)) (sym w.1) w.0

without_ok : (sc : Scope) (b : Bottom) (fs : List Frame) → IsBottom sc b → IsWhole sc (λ rest. put_bottom b (put_frames fs rest)) (without_expression b fs)
without_ok sc (in_lead bare) [] w = (tt, λ rest. refl)
without_ok sc (in_lead (returned t)) [] w = (return_alone sc t w, λ rest. refl)
without_ok sc (in_lead (assigned n t)) fs w = tt
without_ok sc (in_lead (updated n t)) fs w = tt
without_ok sc (in_lead (defined d t)) fs w = tt
without_ok sc (in_lead (defined_everywhere e s t)) fs w = tt
without_ok sc (in_lead bare) (_ ∷ fs) w = tt
without_ok sc (in_lead (returned t)) (_ ∷ fs) w = tt
without_ok sc (in_header x h) fs w = tt

whole_ok : (sc : Scope) (b : Bottom) (fs : List Frame) (n : Now) → IsBottom sc b → IsState (record { frames = fs; now = n }) → IsWhole sc (λ rest. put_bottom b (put_state (record { frames = fs; now = n }) rest)) (whole_at b fs n)
whole_ok sc b fs wanted w v = without_ok sc b fs w
whole_ok sc b fs (got e) w v = with_ok sc b 0 fs (close 0 fs e) (λ rest. put_bottom b (put_frames fs (put e rest))) w (closed 0 fs e (omega arith) v) (λ rest. ap (put_bottom b) (close_put 0 fs e rest))
whole_ok sc b fs (pending x) w v = tt

-- ---- separators and words that end a block

header_opens : (r : Role) (h : Header) (c : Syntax) (t : Token) → IsTrue (header_follows r h) → IsTrue (follows r (headed h c t))
header_opens r h c t k = k

separator_ok : (t : Token) (ctx : Context) (m : Mode) (w : Whole) → IsContext ctx → IsTrue (is_separator t.kind) → IsWhole (scope ctx.outer) (put_mode m) w → MayGo t (go ctx m) (separator_step t ctx w)
separator_ok t ctx m nothing_whole c k v = tt
separator_ok t ctx m (a_place p) c k v = record {
  config = record { context = record { outer = c.outer; lines = (c.lines, v.0, k) }; mode = (tt, record { frames = tt; now = tt }) };
  tokens = λ rest. ap (put_context ctx) (v.1 (t ∷ rest));
}
separator_ok t ctx m (a_header x h e) c k v = record {
  config = record { context = record { outer = (c.lines, v.0, v.1, (v.2, v.3, k), c.outer); lines = tt }; mode = (tt, record { frames = tt; now = tt }) };
  tokens = λ rest. ap (put_context ctx) (v.4 (t ∷ rest));
}

-- the innermost block, with what stands before it
pub record IsLeft (sc : Scope) (ls : Lines) (x : Before) (o : Opening) (b : Block) : Type 0 where
  pub lines : AreLines sc ls
  pub prior : IsPrior sc (begun x o)
  pub inner : IsBlock (within o sc) b

abbrev Leaves : Token → Config → (List Outer → Lines → Before → Opening → Block → Option Config) → Type 0
Leaves t c f = (os : List Outer) (ls : Lines) (x : Before) (o : Opening) (b : Block) → AreOuter os → IsLeft (scope os) ls x o b
    → ((rest : List Token) → put_outer os (put_lines ls (put_before x (put_opening o (put_block b rest)))) ≡ put_config c rest) → MayGo t c (f os ls x o b)

leave_ok : (t : Token) (ctx : Context) (m : Mode) (p : Place) (f : List Outer → Lines → Before → Opening → Block → Option Config) → IsContext ctx → IsWhole (scope ctx.outer) (put_mode m) (a_place p)
    → Leaves t (go ctx m) f → MayGo t (go ctx m) (leave ctx p f)
leave_ok t ctx m p f c v g = on ctx.outer c.outer c.lines v.0 (λ rest. ap (put_context ctx) (v.1 rest))
  where
    on : (os : List Outer) → AreOuter os → AreLines (scope os) ctx.lines → IsPlace (scope os) p → ((rest : List Token) → put_outer os (put_lines ctx.lines (put_place p rest)) ≡ put_config (go ctx m) rest)
        → MayGo t (go ctx m) (elim os as (λ _. Option Config) [ [] ↦ None | o ∷ os ↦ f os o.lines o.before o.opening (block ctx.lines p) ])
    on [] w l q h = tt
    on (o ∷ os) w l q h = g os o.lines o.before o.opening (block ctx.lines p) w.4 (record { lines = w.0; prior = (w.1, w.2, w.3); inner = (l, q) }) h

end_ok : (t : Token) (c : Config) → t.kind ≡ End → Leaves t c (end_block t)
end_ok t c k os ls x o b w v h = may_go_if t c (in_outer os ls (complete (blocks (begun x o) b t))) (may_end (role_of o)) (λ e. record {
  config = record { context = record { outer = w; lines = v.lines }; mode = (v.prior, v.inner, e, k) };
  tokens = λ rest. h (t ∷ rest);
})

conditional_elseif : (r : Role) (t : Token) → is_conditional r ≡ true → IsTrue (header_follows r (elseif_head t))
conditional_elseif conditional t h = refl
conditional_elseif _ t h = no h

elseif_ok : (t : Token) (c : Config) → t.kind ≡ Elseif → Leaves t c (elseif_block t)
elseif_ok t c k os ls x o b w v h = may_go_if t c (in_outer os ls (at_expression (in_header (behind (begun x o) b) (elseif_head t)) (want []))) (is_conditional (role_of o)) (λ e. record {
  config = record { context = record { outer = w; lines = v.lines }; mode = (((v.prior, v.inner), conditional_elseif (role_of o) t e, k), record { frames = tt; now = tt }) };
  tokens = λ rest. h (t ∷ rest);
})

conditional_else : (r : Role) (t : Token) → is_conditional r ≡ true → IsTrue (follows r (else_open t))
conditional_else conditional t h = refl
conditional_else _ t h = no h

else_ok : (t : Token) (c : Config) → t.kind ≡ Else → Leaves t c (else_block t)
else_ok t c k os ls x o b w v h = may_go_if t c (open_block (record { outer = os; lines = ls }) (behind (begun x o) b) (else_open t)) (is_conditional (role_of o)) (λ e. record {
  config = record { context = record { outer = (v.lines, (v.prior, v.inner), conditional_else (role_of o) t e, k, w); lines = tt }; mode = (tt, record { frames = tt; now = tt }) };
  tokens = λ rest. h (t ∷ rest);
})

catch_ok : (t : Token) (c : Config) → t.kind ≡ Catch → Leaves t c (catch_block t)
catch_ok t c k os ls x o b w v h = may_go_if t c (in_outer os ls (at_words (catch_words (behind (begun x o) b) t))) (is_trying (role_of o)) (λ e. record {
  config = record { context = record { outer = w; lines = v.lines }; mode = ((v.prior, v.inner), e, k) };
  tokens = λ rest. h (t ∷ rest);
})

at_place_ok : (t : Token) (ctx : Context) (m : Mode) (w : Whole) (f : List Outer → Lines → Before → Opening → Block → Option Config) → IsContext ctx → IsWhole (scope ctx.outer) (put_mode m) w
    → Leaves t (go ctx m) f → MayGo t (go ctx m) (at_place w (λ p. leave ctx p f))
at_place_ok t ctx m nothing_whole f c v g = tt
at_place_ok t ctx m (a_header x h e) f c v g = tt
at_place_ok t ctx m (a_place p) f c v g = leave_ok t ctx m p f c v g

ending_ok : (t : Token) (ctx : Context) (m : Mode) (w : Whole) → IsContext ctx → IsWhole (scope ctx.outer) (put_mode m) w → MayGo t (go ctx m) (ending_step t.kind t ctx w)
ending_ok t ctx m w c v = elim t.kind as (λ k. t.kind ≡ k → MayGo t (go ctx m) (ending_step k t ctx w)) [
  | Semicolon ↦ λ k. separator_ok t ctx m w c (ap is_separator k) v
  | LineEnd ↦ λ k. separator_ok t ctx m w c (ap is_separator k) v
  | End ↦ λ k. at_place_ok t ctx m w (end_block t) c v (end_ok t (go ctx m) k)
  | Elseif ↦ λ k. at_place_ok t ctx m w (elseif_block t) c v (elseif_ok t (go ctx m) k)
  | Else ↦ λ k. at_place_ok t ctx m w (else_block t) c v (else_ok t (go ctx m) k)
  | Catch ↦ λ k. at_place_ok t ctx m w (catch_block t) c v (catch_ok t (go ctx m) k)
  | _ ↦ λ k. tt
] refl

-- ---- a step within a statement

-- the mode goes on with one token more
pub record IsGoing (sc : Scope) (t : Token) (m n : Mode) : Type 0 where
  pub mode : IsMode sc n
  pub tokens : (rest : List Token) → put_mode n rest ≡ put_mode m (t ∷ rest)

goes : (t : Token) (ctx : Context) (m n : Mode) → IsContext ctx → IsGoing (scope ctx.outer) t m n → IsNext t (go ctx m) (go ctx n)
goes t ctx m n c g = record { config = record { context = c; mode = g.mode }; tokens = λ rest. ap (put_context ctx) (g.tokens rest) }

only_ok : (t : Token) (ctx : Context) (m n : Mode) (b : Bool) → IsContext ctx → (b ≡ true → IsGoing (scope ctx.outer) t m n) → MayGo t (go ctx m) (only_if b (go ctx n))
only_ok t ctx m n b c h = may_go_if t (go ctx m) (go ctx n) b (λ k. goes t ctx m n c (h k))

-- a block that is opened where a statement is read
opens_block : (t : Token) (ctx : Context) (m : Mode) (x : Before) (o : Opening) → IsContext ctx → IsBefore (scope ctx.outer) x → IsTrue (follows (role_before x) o) → IsOpening (scope ctx.outer) o
    → ((rest : List Token) → put_before x (put_opening o rest) ≡ put_mode m (t ∷ rest)) → IsNext t (go ctx m) (open_block ctx x o)
opens_block t ctx m x o c w f v h = record {
  config = record { context = record { outer = (c.lines, w, f, v, c.outer); lines = tt }; mode = (tt, record { frames = tt; now = tt }) };
  tokens = λ rest. ap (put_context ctx) (h rest);
}

fresh_state : IsState (want [])
fresh_state = record { frames = tt; now = tt }

begin_ok : (t : Token) (ctx : Context) (w : Whole) → IsContext ctx → IsWhole (scope ctx.outer) (put_mode beginning) w → MayGo t (go ctx beginning) (begin_step t.kind t ctx w)
begin_ok t ctx w c v = elim t.kind as (λ k. t.kind ≡ k → MayGo t (go ctx beginning) (ending_step k t ctx w) → MayGo t (go ctx beginning) (begin_step k t ctx w)) [
  | While ↦ λ k z. goes t ctx beginning (at_expression (in_header fresh (while_head t)) (want [])) c (record { mode = ((tt, refl, k), fresh_state); tokens = λ rest. refl })
  | If ↦ λ k z. goes t ctx beginning (at_expression (in_header fresh (if_head t)) (want [])) c (record { mode = ((tt, refl, k), fresh_state); tokens = λ rest. refl })
  | For ↦ λ k z. goes t ctx beginning (at_words (for_name t)) c (record { mode = k; tokens = λ rest. refl })
  | Try ↦ λ k z. opens_block t ctx beginning fresh (try_open t) c tt refl k (λ rest. refl)
  | DistributedFor ↦ λ k z. goes t ctx beginning (at_words (distributed_open no_target t)) c (record { mode = (tt, k); tokens = λ rest. refl })
  | Function ↦ λ k z. only_ok t ctx beginning (at_words (function_name None t)) (scope ctx.outer).top c (λ h. record { mode = (h, tt, k); tokens = λ rest. refl })
  | Everywhere ↦ λ k z. only_ok t ctx beginning (at_words (everywhere t)) (scope ctx.outer).top c (λ h. record { mode = (h, k); tokens = λ rest. refl })
  | Using ↦ λ k z. only_ok t ctx beginning (at_words (package_first t)) (scope ctx.outer).top c (λ h. record { mode = (h, k); tokens = λ rest. refl })
  | Return ↦ λ k z. only_ok t ctx beginning (at_expression (in_lead (returned t)) (want [])) (scope ctx.outer).function c (λ h. record { mode = ((h, k), fresh_state); tokens = λ rest. refl })
  | Break ↦ λ k z. only_ok t ctx beginning (complete (alone t)) (scope ctx.outer).loop c (λ h. record { mode = ap (is_alone (scope ctx.outer)) k ∙ h; tokens = λ rest. refl })
  | Continue ↦ λ k z. only_ok t ctx beginning (complete (alone t)) (scope ctx.outer).loop c (λ h. record { mode = ap (is_alone (scope ctx.outer)) k ∙ h; tokens = λ rest. refl })
  | _ ↦ λ k z. z
] refl (ending_ok t ctx beginning w c v)

value_ok : (n q t : Token) (ctx : Context) (w : Whole) → IsContext ctx → IsLead (scope ctx.outer) (assigned n q) → IsWhole (scope ctx.outer) (put_mode (at_expression (in_lead (assigned n q)) (want []))) w
    → MayGo t (go ctx (at_expression (in_lead (assigned n q)) (want []))) (value_step n q t.kind t ctx w)
value_ok n q t ctx w c a v = elim t.kind as (λ k. t.kind ≡ k → MayGo t (go ctx m) (ending_step k t ctx w) → MayGo t (go ctx m) (value_step n q k t ctx w)) [
  | DistributedFor ↦ λ k z. goes t ctx m (at_words (distributed_open (target n q) t)) c (record { mode = (a, k); tokens = λ rest. refl })
  | _ ↦ λ k z. z
] refl (ending_ok t ctx m w c v)
  where
    m : Mode
    m = at_expression (in_lead (assigned n q)) (want [])

assign_ok : (t : Token) (ctx : Context) (e : Syntax) → IsContext ctx → IsAt true false 10 e → t.kind ≡ Assign → MayGo t (go ctx (at_expression (in_lead bare) (have [] e))) (assign_step t ctx e)
assign_ok t ctx (leaf n) c u k = only_ok t ctx (at_expression (in_lead bare) (have [] (leaf n))) (at_expression (in_lead (assigned n t)) (want [])) (is_name n.kind) c
    (λ h. record { mode = ((h, k), fresh_state); tokens = λ rest. refl })
assign_ok t ctx e c u k = only_ok t ctx (at_expression (in_lead bare) (have [] e)) (at_expression (in_lead (defined e t)) (want [])) ((scope ctx.outer).top && is_signature e) c
    (λ h. let b = both (scope ctx.outer).top (is_signature e) h in record { mode = ((b.0, u, b.1, k), fresh_state); tokens = λ rest. refl })

update_ok : (t : Token) (ctx : Context) (e : Syntax) → IsContext ctx → IsTrue (is_update t.kind) → MayGo t (go ctx (at_expression (in_lead bare) (have [] e))) (update_step t ctx e)
update_ok t ctx (leaf n) c k = only_ok t ctx (at_expression (in_lead bare) (have [] (leaf n))) (at_expression (in_lead (updated n t)) (want [])) (is_name n.kind) c
    (λ h. record { mode = ((h, k), fresh_state); tokens = λ rest. refl })
update_ok t ctx _ c k = tt

target_ok : (t : Token) (ctx : Context) (e : Syntax) (w : Whole) → IsContext ctx → IsAt true false 10 e → IsWhole (scope ctx.outer) (put_mode (at_expression (in_lead bare) (have [] e))) w
    → MayGo t (go ctx (at_expression (in_lead bare) (have [] e))) (target_step t.kind t ctx e w)
target_ok t ctx e w c u v = elim t.kind as (λ k. t.kind ≡ k → MayGo t (go ctx m) (ending_step k t ctx w) → MayGo t (go ctx m) (target_step k t ctx e w)) [
  | Assign ↦ λ k z. assign_ok t ctx e c u k
  | PlusAssign ↦ λ k z. update_ok t ctx e c (ap is_update k)
  | MinusAssign ↦ λ k z. update_ok t ctx e c (ap is_update k)
  | StarAssign ↦ λ k z. update_ok t ctx e c (ap is_update k)
  | _ ↦ λ k z. z
] refl (ending_ok t ctx m w c v)
  where
    m : Mode
    m = at_expression (in_lead bare) (have [] e)

statement_ok : (t : Token) (ctx : Context) (b : Bottom) (fs : List Frame) (n : Now) → IsContext ctx → IsBottom (scope ctx.outer) b → IsState (record { frames = fs; now = n })
    → MayGo t (go ctx (at_expression b (record { frames = fs; now = n }))) (statement_step t.kind t ctx b fs n)
statement_ok t ctx (in_lead bare) [] wanted c w v = begin_ok t ctx (whole_at (in_lead bare) [] wanted) c (whole_ok (scope ctx.outer) (in_lead bare) [] wanted w v)
statement_ok t ctx (in_lead (assigned n q)) [] wanted c w v = value_ok n q t ctx (whole_at (in_lead (assigned n q)) [] wanted) c w (whole_ok (scope ctx.outer) (in_lead (assigned n q)) [] wanted w v)
statement_ok t ctx (in_lead bare) [] (got e) c w v = target_ok t ctx e (whole_at (in_lead bare) [] (got e)) c v.now (whole_ok (scope ctx.outer) (in_lead bare) [] (got e) w v)
statement_ok t ctx b fs n c w v = ending_ok t ctx (at_expression b (record { frames = fs; now = n })) (whole_at b fs n) c (whole_ok (scope ctx.outer) b fs n w v)

-- ---- words

close_kind : (k : Kind) → is_close k ≡ true → k ≡ CloseParen
close_kind CloseParen h = refl
close_kind _ h = no h

open_kind : (k : Kind) → is_open k ≡ true → k ≡ OpenParen
open_kind OpenParen h = refl
open_kind _ h = no h

for_kind : (k : Kind) → is_for k ≡ true → k ≡ For
for_kind For h = refl
for_kind _ h = no h

assign_kind : (k : Kind) → is_assign k ≡ true → k ≡ Assign
assign_kind Assign h = refl
assign_kind _ h = no h

signature_ok : (w : Owner) (f o t : Token) (ps : Parameters) (ctx : Context) (m : Mode) → IsContext ctx → IsOwned (scope ctx.outer) w f o → AreParameters ps → t.kind ≡ CloseParen
    → ((rest : List Token) → put_owner w (f ∷ o ∷ put_parameters ps (t ∷ rest)) ≡ put_mode m (t ∷ rest)) → IsNext t (go ctx m) (close_signature w (record { name = f; opens = o; parameters = ps; closes = t }) ctx)
signature_ok (of_function every u) f o t ps ctx m c w p k h = opens_block t ctx m fresh (function_open every u (record { name = f; opens = o; parameters = ps; closes = t })) c tt refl (w.0.0, w.0.1, w.0.2, (w.1, w.2, p, k)) h
signature_ok (of_everywhere every) f o t ps ctx m c w p k h = goes t ctx m (at_words (signature_end every (record { name = f; opens = o; parameters = ps; closes = t }))) c (record { mode = (w.0.0, w.0.1, (w.1, w.2, p, k)); tokens = h })

first_ok : (w : Owner) (f o t : Token) (ctx : Context) → IsContext ctx → IsOwned (scope ctx.outer) w f o → MayGo t (go ctx (at_words (signature_first w f o))) (first_step w f o t.kind t ctx)
first_ok w f o t ctx c v = elim t.kind as (λ k. t.kind ≡ k → MayGo t (go ctx (at_words (signature_first w f o))) (first_step w f o k t ctx)) [
  | Name n ↦ λ k. goes t ctx (at_words (signature_first w f o)) (at_words (signature_next w f o (first t))) c (record { mode = (v, ap is_name k, refl); tokens = λ rest. refl })
  | CloseParen ↦ λ k. signature_ok w f o t no_parameters ctx (at_words (signature_first w f o)) c v tt k (λ rest. refl)
  | _ ↦ λ k. tt
] refl

next_ok : (w : Owner) (f o : Token) (ps : Parameters) (t : Token) (ctx : Context) → IsContext ctx → IsAwaited (scope ctx.outer) (signature_next w f o ps) → MayGo t (go ctx (at_words (signature_next w f o ps))) (next_step w f o ps t.kind t ctx)
next_ok w f o ps t ctx c v = elim t.kind as (λ k. t.kind ≡ k → MayGo t (go ctx (at_words (signature_next w f o ps))) (next_step w f o ps k t ctx)) [
  | Comma ↦ λ k. goes t ctx (at_words (signature_next w f o ps)) (at_words (signature_name w f o ps t)) c (record { mode = (v.0, v.1, v.2, k); tokens = λ rest. refl })
  | CloseParen ↦ λ k. signature_ok w f o t ps ctx (at_words (signature_next w f o ps)) c v.0 v.1 k (λ rest. refl)
  | _ ↦ λ k. tt
] refl

more_parameters : (ps : Parameters) (comma n : Token) → AreParameters ps → IsTrue (are_some ps) → comma.kind ≡ Comma → IsTrue (is_name n.kind) → IsTrue (is_fresh n.kind ps) → AreParameters (next ps comma n)
more_parameters no_parameters comma n w s k a f = cc
more_parameters (first m) comma n w s k a f = (w, k, a, f)
more_parameters (next ps q m) comma n w s k a f = (w, k, a, f)

everywhere_ok : (every t : Token) (ctx : Context) → IsContext ctx → IsAwaited (scope ctx.outer) (everywhere every) → MayGo t (go ctx (at_words (everywhere every))) (everywhere_step every t.kind t ctx)
everywhere_ok every t ctx c v = elim t.kind as (λ k. t.kind ≡ k → MayGo t (go ctx (at_words (everywhere every))) (everywhere_step every k t ctx)) [
  | Using ↦ λ k. goes t ctx (at_words (everywhere every)) (at_words (everywhere_package every t)) c (record { mode = (v.0, v.1, k); tokens = λ rest. refl })
  | Function ↦ λ k. goes t ctx (at_words (everywhere every)) (at_words (function_name (Some every) t)) c (record { mode = (v.0, v.1, k); tokens = λ rest. refl })
  | Name n ↦ λ k. goes t ctx (at_words (everywhere every)) (at_words (signature_open (of_everywhere every) t)) c (record { mode = ((v.0, v.1), ap is_name k); tokens = λ rest. refl })
  | _ ↦ λ k. tt
] refl

trying_catch : (r : Role) (t sep : Token) → is_trying r ≡ true → IsTrue (follows r (catch_open t sep))
trying_catch trying t sep h = refl
trying_catch _ t sep h = no h

trying_named : (r : Role) (t n sep : Token) → is_trying r ≡ true → IsTrue (follows r (catch_name t n sep))
trying_named trying t n sep h = refl
trying_named _ t n sep h = no h

catch_step_ok : (x : Before) (q t : Token) (ctx : Context) → IsContext ctx → IsAwaited (scope ctx.outer) (catch_words x q) → MayGo t (go ctx (at_words (catch_words x q))) (catch_step x q t.kind t ctx)
catch_step_ok x q t ctx c v = elim t.kind as (λ k. t.kind ≡ k → MayGo t (go ctx (at_words (catch_words x q))) (catch_step x q k t ctx)) [
  | Name n ↦ λ k. goes t ctx (at_words (catch_words x q)) (at_words (catch_named x q t)) c (record { mode = (v.0, v.1, v.2, ap is_name k); tokens = λ rest. refl })
  | Semicolon ↦ λ k. opens_block t ctx (at_words (catch_words x q)) x (catch_open q t) c v.0 (trying_catch (role_before x) q t v.1) (v.2, ap is_separator k) (λ rest. refl)
  | LineEnd ↦ λ k. opens_block t ctx (at_words (catch_words x q)) x (catch_open q t) c v.0 (trying_catch (role_before x) q t v.1) (v.2, ap is_separator k) (λ rest. refl)
  | _ ↦ λ k. tt
] refl

words_ok : (x : Awaited) (t : Token) (ctx : Context) → IsContext ctx → IsAwaited (scope ctx.outer) x → MayGo t (go ctx (at_words x)) (words_step x t ctx)
words_ok (for_name f) t ctx c w = only_ok t ctx (at_words (for_name f)) (at_words (for_in f t)) (is_name t.kind) c (λ h. record { mode = (w, h); tokens = λ rest. refl })
words_ok (for_in f n) t ctx c w = only_ok t ctx (at_words (for_in f n)) (at_expression (in_header fresh (for_head f n t)) (want [])) (is_in t.kind) c (λ h. record { mode = ((tt, refl, (w.0, w.1, h)), fresh_state); tokens = λ rest. refl })
words_ok (distributed_open g d) t ctx c w = only_ok t ctx (at_words (distributed_open g d)) (at_words (distributed_reducer g d t)) (is_open t.kind) c (λ h. record { mode = (w.0, w.1, open_kind t.kind h); tokens = λ rest. refl })
words_ok (distributed_reducer g d o) t ctx c w = only_ok t ctx (at_words (distributed_reducer g d o)) (at_words (distributed_close g d o t)) (is_reducer t.kind) c (λ h. record { mode = (w.0, w.1, w.2, h); tokens = λ rest. refl })
words_ok (distributed_close g d o op) t ctx c w = only_ok t ctx (at_words (distributed_close g d o op)) (at_words (distributed_for g d o op t)) (is_close t.kind) c (λ h. record { mode = (w, close_kind t.kind h); tokens = λ rest. refl })
words_ok (distributed_for g d o op q) t ctx c w = only_ok t ctx (at_words (distributed_for g d o op q)) (at_words (distributed_name g d o op q t)) (is_for t.kind) c (λ h. record { mode = (w.0, w.1, for_kind t.kind h); tokens = λ rest. refl })
words_ok (distributed_name g d o op q f) t ctx c w = only_ok t ctx (at_words (distributed_name g d o op q f)) (at_words (distributed_in g d o op q f t)) (is_name t.kind) c (λ h. record { mode = (w.0, w.1, w.2, h); tokens = λ rest. refl })
words_ok (distributed_in g d o op q f n) t ctx c w = only_ok t ctx (at_words (distributed_in g d o op q f n)) (at_expression (in_header fresh (distributed_head g d o op q f n t)) (want [])) (is_in t.kind) c
    (λ h. record { mode = ((tt, refl, (w.0.0, w.0.1, w.0.2, w.0.3, w.1, w.2, w.3, h)), fresh_state); tokens = λ rest. refl })
words_ok (function_name every f) t ctx c w = only_ok t ctx (at_words (function_name every f)) (at_words (signature_open (of_function every f) t)) (is_name t.kind) c (λ h. record { mode = (w, h); tokens = λ rest. refl })
words_ok (signature_open w f) t ctx c v = only_ok t ctx (at_words (signature_open w f)) (at_words (signature_first w f t)) (is_open t.kind) c (λ h. record { mode = (v.0, v.1, open_kind t.kind h); tokens = λ rest. refl })
words_ok (signature_first w f o) t ctx c v = first_ok w f o t ctx c v
words_ok (signature_next w f o ps) t ctx c v = next_ok w f o ps t ctx c v
words_ok (signature_name w f o ps comma) t ctx c v = only_ok t ctx (at_words (signature_name w f o ps comma)) (at_words (signature_next w f o (next ps comma t))) (is_name t.kind && is_fresh t.kind ps) c
    (λ h. let b = both (is_name t.kind) (is_fresh t.kind ps) h in record { mode = (v.0, more_parameters ps comma t v.1 v.2 v.3 b.0 b.1, refl); tokens = λ rest. refl })
words_ok (signature_end every s) t ctx c v = only_ok t ctx (at_words (signature_end every s)) (at_expression (in_lead (defined_everywhere every s t)) (want [])) (is_assign t.kind) c
    (λ h. record { mode = ((v.0, v.1, v.2, assign_kind t.kind h), fresh_state); tokens = λ rest. refl })
words_ok (everywhere every) t ctx c v = everywhere_ok every t ctx c v
words_ok (everywhere_package every u) t ctx c v = only_ok t ctx (at_words (everywhere_package every u)) (complete (packages_everywhere every u t)) (is_package t.kind) c (λ h. record { mode = (v.0, v.1, v.2, h); tokens = λ rest. refl })
words_ok (package_first u) t ctx c v = only_ok t ctx (at_words (package_first u)) (complete (packages (using_first u t))) (is_package t.kind) c (λ h. record { mode = (v.0, (v.1, h)); tokens = λ rest. refl })
words_ok (package_next ns comma) t ctx c v = only_ok t ctx (at_words (package_next ns comma)) (complete (packages (using_next ns comma t))) (is_package t.kind) c (λ h. record { mode = (v.0, (v.1, v.2, h)); tokens = λ rest. refl })
words_ok (catch_words x q) t ctx c v = catch_step_ok x q t ctx c v
words_ok (catch_named x q n) t ctx c v = may_go_if t (go ctx (at_words (catch_named x q n))) (open_block ctx x (catch_name q n t)) (is_separator t.kind)
    (λ h. opens_block t ctx (at_words (catch_named x q n)) x (catch_name q n t) c v.0 (trying_named (role_before x) q n t v.1) (v.2, v.3, h) (λ rest. refl))

complete_ok : (t : Token) (ctx : Context) (s : Stmt) → IsContext ctx → IsStmt (scope ctx.outer) s → MayGo t (go ctx (complete s)) (complete_step t.kind t ctx s)
complete_ok t ctx s c w = elim t.kind as (λ k. t.kind ≡ k → MayGo t (go ctx (complete s)) (ending_step k t ctx (a_place (stmt s))) → MayGo t (go ctx (complete s)) (complete_step k t ctx s)) [
  | Comma ↦ λ k z. comma s w k z
  | _ ↦ λ k z. z
] refl (ending_ok t ctx (complete s) (a_place (stmt s)) c (w, λ rest. refl))
  where
    comma : (s : Stmt) → IsStmt (scope ctx.outer) s → t.kind ≡ Comma → MayGo t (go ctx (complete s)) (ending_step Comma t ctx (a_place (stmt s))) → MayGo t (go ctx (complete s)) (complete_step Comma t ctx s)
    comma (packages ns) w k z = goes t ctx (complete (packages ns)) (at_words (package_next ns t)) c (record { mode = (w.0, w.1, k); tokens = λ rest. refl })
    comma (ended l e) w k z = z
    comma (alone u) w k z = z
    comma (packages_everywhere e u n) w k z = z
    comma (blocks p b u) w k z = z

-- ---- a step

either_ok : (t : Token) (ctx : Context) (b : Bottom) (s : State) (d : Option State) → IsContext ctx → IsBottom (scope ctx.outer) b → IsState s → MayStep t s d → MayGo t (go ctx (at_expression b s)) (either d t.kind t ctx b s)
either_ok t ctx b s None c w v x = statement_ok t ctx b s.frames s.now c w v
either_ok t ctx b s (Some d) c w v x = goes t ctx (at_expression b s) (at_expression b d) c (record { mode = (w, x.state); tokens = λ rest. ap (put_bottom b) (x.tokens rest) })

mode_ok : (t : Token) (ctx : Context) (m : Mode) → IsContext ctx → IsMode (scope ctx.outer) m → MayGo t (go ctx m) (mode_step m t ctx)
mode_ok t ctx (at_expression b s) c w = either_ok t ctx b s (expression.step t s) c w.0 w.1 (step_ok t s w.1)
mode_ok t ctx (at_words x) c w = words_ok x t ctx c w
mode_ok t ctx (complete s) c w = complete_ok t ctx s c w

pub next_config : (t : Token) (c : Config) → IsConfig c → MayGo t c (step t c)
next_config t c w = mode_ok t c.context c.mode w.context w.mode

-- ---- a whole run, and the end

pub record IsRun (ts : List Token) (c d : Config) : Type 0 where
  pub config : IsConfig d
  pub tokens : (rest : List Token) → put_config d rest ≡ put_config c (ts ++ rest)

abbrev pub MayRun : List Token → Config → Option Config → Type 0
MayRun ts c None = Unit {0}
MayRun ts c (Some d) = IsRun ts c d

run_more : (t : Token) (ts : List Token) (c d : Config) → IsNext t c d → (r : Option Config) → MayRun ts d r → MayRun (t ∷ ts) c r
run_more t ts c d v None u = tt
run_more t ts c d v (Some r) u = record { config = u.config; tokens = λ rest. u.tokens rest ∙ v.tokens (ts ++ rest) }

run_on : (t : Token) (ts : List Token) (c : Config) → ((d : Config) → IsConfig d → MayRun ts d (run ts d)) → (d : Option Config) → MayGo t c d → MayRun (t ∷ ts) c (and_then d (run ts))
run_on t ts c f None v = tt
run_on t ts c f (Some d) v = run_more t ts c d v (run ts d) (f d v.config)

pub run_ok : (ts : List Token) (c : Config) → IsConfig c → MayRun ts c (run ts c)
run_ok [] c w = record { config = w; tokens = λ rest. refl }
run_ok (t ∷ ts) c w = run_on t ts c (run_ok ts) (step t c) (next_config t c w)

mode_whole : (sc : Scope) (m : Mode) → IsMode sc m → IsWhole sc (put_mode m) (whole_of m)
mode_whole sc (at_expression b s) w = whole_ok sc b s.frames s.now w.0 w.1
mode_whole sc (at_words x) w = tt
mode_whole sc (complete s) w = (w, λ rest. refl)

-- what the end gives is a script of the grammar, written with what was read
abbrev pub HasScript : Config → Option Block → Type 0
HasScript c None = Unit {0}
HasScript c (Some s) = IsBlock outermost s × (put_block s [] ≡ put_config c [])

place_ok : (os : List Outer) (ls : Lines) (m : Mode) (w : Whole) → AreLines (scope os) ls → IsWhole (scope os) (put_mode m) w
    → HasScript (record { context = record { outer = os; lines = ls }; mode = m }) (finish_place os ls w)
place_ok [] ls m nothing_whole l v = tt
place_ok [] ls m (a_place p) l v = ((l, v.0), ap (put_lines ls) (v.1 []))
place_ok [] ls m (a_header x h e) l v = tt
place_ok (o ∷ os) ls m w l v = tt

pub finish_ok : (c : Config) → IsConfig c → HasScript c (finish c)
finish_ok c w = place_ok c.context.outer c.context.lines c.mode (whole_of c.mode) w.context.lines (mode_whole (scope c.context.outer) c.mode w.mode)

pub start_ok : IsConfig start
start_ok = record { context = record { outer = tt; lines = tt }; mode = (tt, fresh_state) }
