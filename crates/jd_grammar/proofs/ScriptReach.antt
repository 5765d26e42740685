-- The machine reads each script of the grammar.
use Rattle.std.proofs.Common.{◌≡◌, Bool, true, false, IsTrue, List, [], ◌∷◌, Some, refl, ap, ◌∙◌, arith}
use Rattle.jd_grammar.specs.declared.token.Token.{Token}
use Rattle.jd_grammar.specs.declared.token.Kind.{Kind}
use Rattle.jd_grammar.specs.declared.token.Kind.TheVariants.{Name, Elseif, Else, Catch, Return, Break, Continue, End, Semicolon, LineEnd}
use Rattle.jd_grammar.specs.Kinds.{is_name}
use Rattle.jd_grammar.specs.Grammar.{Syntax, put, IsAt}
use Rattle.jd_grammar.specs.Frames.{want, have}
use Rattle.jd_grammar.specs.Machine.{close, want_step}
use Rattle.jd_grammar.specs.Script.{Lead, bare, returned, while_head, if_head, elseif_head, for_head, distributed_head, Opening, headed, else_open, try_open, catch_open, catch_name, function_open, Stmt, ended, alone, packages, packages_everywhere, blocks, Prior, begun, Before, fresh, behind, Block, block, Lines, no_lines, line, Place, empty, stmt, outermost, put_opening, put_stmt, put_prior, put_block, put_lines, put_place, Role, starting, conditional, trying, role_of, header_follows, follows, may_end, is_separator, is_alone, IsLead, IsOpening, IsStmt, IsPrior, IsBlock, AreLines, IsPlace}
use Rattle.jd_grammar.specs.Reader.{Outer, Context, in_lead, in_header, catch_words, catch_named, Mode, at_expression, at_words, complete, Config, beginning, start, scope, a_place, with_expression, open_block, in_outer, is_conditional, is_trying, ending_step, go, catch_step, either, step, and_then, run, whole_of, finish_place, finish}
use Rattle.jd_grammar.proofs.Reach.{no_sign, reach}
use Rattle.jd_grammar.proofs.ScriptSteps.{follow, is_ending, separator_ends, expression_ends, beginning_ends, returned_ends, complete_ends, line_ends, header_runs, only_runs, only_some, word_runs, function_runs, lead_runs, fresh_header_runs, packages_run, packages_everywhere_run}
use Rattle.jd_grammar.proofs.Absurd.{no}

-- A place has been read: whatever ends it finds it whole.
pub record IsRead (ctx : Context) (p : Place) (rest : List Token) : Type 0 where
  pub mode : Mode
  pub runs : run (put_place p rest) (go ctx beginning) ≡ run rest (go ctx mode)
  pub ends : (t : Token) → is_ending t.kind ≡ true → step t (go ctx mode) ≡ ending_step t.kind t ctx (a_place p)
  pub last : whole_of mode ≡ a_place p

read_empty : (ctx : Context) (rest : List Token) → IsRead ctx empty rest
read_empty ctx rest = record { mode = beginning; runs = refl; ends = λ t h. beginning_ends t ctx h; last = refl }

read_complete : (ctx : Context) (s : Stmt) (rest : List Token) → run (put_stmt s rest) (go ctx beginning) ≡ run rest (go ctx (complete s)) → IsRead ctx (stmt s) rest
read_complete ctx s rest h = record { mode = complete s; runs = h; ends = λ t k. complete_ends t ctx s k; last = refl }

read_ended : (l : Lead) (e : Syntax) (ctx : Context) (rest : List Token) → IsLead (scope ctx.outer) l → IsAt true false 1 e → IsRead ctx (stmt (ended l e)) rest
read_ended l e ctx rest w u =
    let r = reach (follow ctx (in_lead l)) 1 e [] u (no_sign true false 1 e u (omega arith)) (omega arith) rest in
    let c : close 0 r.frames r.operand ≡ ([], e) = r.closes 0 (omega arith) (omega arith) in
    record {
      mode = at_expression (in_lead l) (have r.frames r.operand);
      runs = lead_runs l ctx (put e rest) w ∙ r.runs;
      ends = λ t k. expression_ends t ctx (in_lead l) r.frames r.operand e k c;
      last = ap (with_expression (in_lead l)) c;
    }

read_alone : (t : Token) (ctx : Context) (rest : List Token) → is_alone (scope ctx.outer) t.kind ≡ true → IsRead ctx (stmt (alone t)) rest
read_alone t ctx rest w = elim t.kind as (λ k. t.kind ≡ k → is_alone (scope ctx.outer) k ≡ true → IsRead ctx (stmt (alone t)) rest) [
  | Return ↦ λ k h. record {
    mode = at_expression (in_lead (returned t)) (want []);
    runs = word_runs Return t ctx (at_expression (in_lead (returned t)) (want [])) rest k (only_some (scope ctx.outer).function (go ctx (at_expression (in_lead (returned t)) (want []))) h);
    ends = λ u e. returned_ends u t ctx e;
    last = refl;
  }
  | Break ↦ λ k h. read_complete ctx (alone t) rest (word_runs Break t ctx (complete (alone t)) rest k (only_some (scope ctx.outer).loop (go ctx (complete (alone t))) h))
  | Continue ↦ λ k h. read_complete ctx (alone t) rest (word_runs Continue t ctx (complete (alone t)) rest k (only_some (scope ctx.outer).loop (go ctx (complete (alone t))) h))
  | _ ↦ λ k h. no h
] refl w

-- ---- the openings that a statement begins with

fresh_runs : (o : Opening) (ctx : Context) (rest : List Token) → IsOpening (scope ctx.outer) o → IsTrue (follows starting o) → run (put_opening o rest) (go ctx beginning) ≡ run rest (open_block ctx fresh o)
fresh_runs (headed h c sep) ctx rest w f = fresh_header_runs h ctx (put c (sep ∷ rest)) w.0 f ∙ header_runs ctx fresh h c sep rest w.1 w.2
fresh_runs (try_open t) ctx rest w f = ap (λ x. and_then (either (want_step x t []) x t ctx (in_lead bare) (want [])) (run rest)) w
fresh_runs (function_open every t s) ctx rest w f = function_runs every t s ctx rest w.0 w.1 w.2 w.3
fresh_runs (else_open t) ctx rest w f = no f
fresh_runs (catch_open t sep) ctx rest w f = no f
fresh_runs (catch_name t n sep) ctx rest w f = no f

-- ---- the openings behind a block

place_step : (k : Kind) (t : Token) (ctx : Context) (m : Mode) (p : Place) (rest : List Token) → t.kind ≡ k → step t (go ctx m) ≡ ending_step t.kind t ctx (a_place p)
    → run (t ∷ rest) (go ctx m) ≡ and_then (ending_step k t ctx (a_place p)) (run rest)
place_step k t ctx m p rest h s = ap (λ d. and_then d (run rest)) (s ∙ ap (λ x. ending_step x t ctx (a_place p)) h)

abbrev inner : List Outer → Lines → Before → Opening → Lines → Context
inner os ls x o ms = record { outer = record { lines = ls; before = x; opening = o } ∷ os; lines = ms }

abbrev outside : List Outer → Lines → Context
outside os ls = record { outer = os; lines = ls }

abbrev is_starting : Role → Bool
is_starting starting = true
is_starting _ = false

not_starting : (o : Opening) → is_starting (role_of o) ≡ false
not_starting (headed (while_head t) c sep) = refl
not_starting (headed (if_head t) c sep) = refl
not_starting (headed (elseif_head t) c sep) = refl
not_starting (headed (for_head t n i) c sep) = refl
not_starting (headed (distributed_head g t u op q f n i) c sep) = refl
not_starting _ = refl

-- what begins a statement doesn't go on with one
apart : (r : Role) (q : Opening) → is_starting r ≡ false → follows r q ≡ true → follows starting q ≡ true → ⊥
apart starting q s f g = cc
apart _ (headed (while_head t) c sep) s f g = no f
apart _ (headed (if_head t) c sep) s f g = no f
apart _ (headed (elseif_head t) c sep) s f g = no g
apart _ (headed (for_head t n i) c sep) s f g = no f
apart _ (headed (distributed_head h t u op q v n i) c sep) s f g = no f
apart _ (else_open t) s f g = no g
apart _ (try_open t) s f g = no f
apart _ (catch_open t sep) s f g = no g
apart _ (catch_name t n sep) s f g = no g
apart _ (function_open every t s) a f g = no f

conditional_of : (r : Role) (t : Token) → header_follows r (elseif_head t) ≡ true → is_conditional r ≡ true
conditional_of conditional t f = refl
conditional_of _ t f = no f

conditional_else : (r : Role) (t : Token) → follows r (else_open t) ≡ true → is_conditional r ≡ true
conditional_else conditional t f = refl
conditional_else _ t f = no f

trying_of : (r : Role) (t sep : Token) → follows r (catch_open t sep) ≡ true → is_trying r ≡ true
trying_of trying t sep f = refl
trying_of _ t sep f = no f

trying_name : (r : Role) (t n sep : Token) → follows r (catch_name t n sep) ≡ true → is_trying r ≡ true
trying_name trying t n sep f = refl
trying_name _ t n sep f = no f

catch_runs : (x : Before) (t sep : Token) (ctx : Context) (rest : List Token) → is_separator sep.kind ≡ true → run (sep ∷ rest) (go ctx (at_words (catch_words x t))) ≡ run rest (open_block ctx x (catch_open t sep))
catch_runs x t sep ctx rest h = elim sep.kind as (λ k. is_separator k ≡ true → and_then (catch_step x t k sep ctx) (run rest) ≡ run rest (open_block ctx x (catch_open t sep))) [
  | Semicolon ↦ λ h. refl
  | LineEnd ↦ λ h. refl
  | _ ↦ λ h. no h
] h

catch_name_runs : (x : Before) (t n sep : Token) (ctx : Context) (rest : List Token) → is_name n.kind ≡ true → is_separator sep.kind ≡ true
    → run (n ∷ sep ∷ rest) (go ctx (at_words (catch_words x t))) ≡ run rest (open_block ctx x (catch_name t n sep))
catch_name_runs x t n sep ctx rest a h =
    elim n.kind as (λ k. is_name k ≡ true → and_then (catch_step x t k n ctx) (run (sep ∷ rest)) ≡ run (sep ∷ rest) (go ctx (at_words (catch_named x t n)))) [
      | Name b ↦ λ h. refl
      | _ ↦ λ h. no h
    ] a
    ∙ only_runs (is_separator sep.kind) (open_block ctx x (catch_name t n sep)) rest h

-- a place in the block has been read, and what goes on with the statement
behind_runs : (os : List Outer) (ls : Lines) (x : Before) (o : Opening) (ms : Lines) (p : Place) (m : Mode) (q : Opening) (rest : List Token)
    → ((t : Token) → is_ending t.kind ≡ true → step t (go (inner os ls x o ms) m) ≡ ending_step t.kind t (inner os ls x o ms) (a_place p))
    → IsOpening (scope os) q → IsTrue (follows (role_of o) q)
    → run (put_opening q rest) (go (inner os ls x o ms) m) ≡ run rest (open_block (outside os ls) (behind (begun x o) (block ms p)) q)
behind_runs os ls x o ms p m (headed (elseif_head t) c sep) rest e w f =
    place_step Elseif t (inner os ls x o ms) m p (put c (sep ∷ rest)) w.0 (e t (ap is_ending w.0))
    ∙ only_runs (is_conditional (role_of o)) (in_outer os ls (at_expression (in_header (behind (begun x o) (block ms p)) (elseif_head t)) (want []))) (put c (sep ∷ rest)) (conditional_of (role_of o) t f)
    ∙ header_runs (outside os ls) (behind (begun x o) (block ms p)) (elseif_head t) c sep rest w.1 w.2
behind_runs os ls x o ms p m (else_open t) rest e w f =
    place_step Else t (inner os ls x o ms) m p rest w (e t (ap is_ending w))
    ∙ only_runs (is_conditional (role_of o)) (open_block (outside os ls) (behind (begun x o) (block ms p)) (else_open t)) rest (conditional_else (role_of o) t f)
behind_runs os ls x o ms p m (catch_open t sep) rest e w f =
    place_step Catch t (inner os ls x o ms) m p (sep ∷ rest) w.0 (e t (ap is_ending w.0))
    ∙ only_runs (is_trying (role_of o)) (in_outer os ls (at_words (catch_words (behind (begun x o) (block ms p)) t))) (sep ∷ rest) (trying_of (role_of o) t sep f)
    ∙ catch_runs (behind (begun x o) (block ms p)) t sep (outside os ls) rest w.1
behind_runs os ls x o ms p m (catch_name t n sep) rest e w f =
    place_step Catch t (inner os ls x o ms) m p (n ∷ sep ∷ rest) w.0 (e t (ap is_ending w.0))
    ∙ only_runs (is_trying (role_of o)) (in_outer os ls (at_words (catch_words (behind (begun x o) (block ms p)) t))) (n ∷ sep ∷ rest) (trying_name (role_of o) t n sep f)
    ∙ catch_name_runs (behind (begun x o) (block ms p)) t n sep (outside os ls) rest w.1 w.2
behind_runs os ls x o ms p m (headed (while_head t) c sep) rest e w f = absurd (apart (role_of o) (headed (while_head t) c sep) (not_starting o) f refl)
behind_runs os ls x o ms p m (headed (if_head t) c sep) rest e w f = absurd (apart (role_of o) (headed (if_head t) c sep) (not_starting o) f refl)
behind_runs os ls x o ms p m (headed (for_head t n i) c sep) rest e w f = absurd (apart (role_of o) (headed (for_head t n i) c sep) (not_starting o) f refl)
behind_runs os ls x o ms p m (headed (distributed_head g t u op z v n i) c sep) rest e w f = absurd (apart (role_of o) (headed (distributed_head g t u op z v n i) c sep) (not_starting o) f refl)
behind_runs os ls x o ms p m (try_open t) rest e w f = absurd (apart (role_of o) (try_open t) (not_starting o) f refl)
behind_runs os ls x o ms p m (function_open every t s) rest e w f = absurd (apart (role_of o) (function_open every t s) (not_starting o) f refl)

-- the block behind what stands before it
abbrev opened : Prior → Context → Config
opened (begun x o) ctx = open_block ctx x o

mutual
  read_place : (p : Place) (ctx : Context) → IsPlace (scope ctx.outer) p → (rest : List Token) → IsRead ctx p rest
  read_place empty ctx w rest = read_empty ctx rest
  read_place (stmt s) ctx w rest = read_stmt s ctx w rest

  read_stmt : (s : Stmt) (ctx : Context) → IsStmt (scope ctx.outer) s → (rest : List Token) → IsRead ctx (stmt s) rest
  read_stmt (ended l e) ctx w rest = read_ended l e ctx rest w.0 w.1
  read_stmt (alone t) ctx w rest = read_alone t ctx rest w
  read_stmt (packages ns) ctx w rest = read_complete ctx (packages ns) rest (packages_run ns ctx rest w.0 w.1)
  read_stmt (packages_everywhere u t n) ctx w rest = read_complete ctx (packages_everywhere u t n) rest (packages_everywhere_run u t n ctx rest w.0 w.1 w.2 w.3)
  read_stmt (blocks (begun x o) (block ms p) t) ctx w rest =
      let r = read_place p (inner ctx.outer ctx.lines x o ms) w.1.1 (t ∷ rest) in
      read_complete ctx (blocks (begun x o) (block ms p) t) rest
      (read_prior (begun x o) ctx w.0 (put_lines ms (put_place p (t ∷ rest)))
      ∙ read_lines ms (record { lines = ctx.lines; before = x; opening = o } ∷ ctx.outer) w.1.0 (put_place p (t ∷ rest))
      ∙ r.runs ∙ place_step End t (inner ctx.outer ctx.lines x o ms) r.mode p rest w.3 (r.ends t (ap is_ending w.3))
      ∙ only_runs (may_end (role_of o)) (in_outer ctx.outer ctx.lines (complete (blocks (begun x o) (block ms p) t))) rest w.2)

  read_prior : (p : Prior) (ctx : Context) → IsPrior (scope ctx.outer) p → (rest : List Token) → run (put_prior p rest) (go ctx beginning) ≡ run rest (opened p ctx)
  read_prior (begun fresh o) ctx w rest = fresh_runs o ctx rest w.2 w.1
  read_prior (begun (behind (begun x o) (block ms p)) q) ctx w rest =
      let r = read_place p (inner ctx.outer ctx.lines x o ms) w.0.1.1 (put_opening q rest) in
      read_prior (begun x o) ctx w.0.0 (put_lines ms (put_place p (put_opening q rest)))
      ∙ read_lines ms (record { lines = ctx.lines; before = x; opening = o } ∷ ctx.outer) w.0.1.0 (put_place p (put_opening q rest))
      ∙ r.runs ∙ behind_runs ctx.outer ctx.lines x o ms p r.mode q rest r.ends w.2 w.1

  read_lines : (ls : Lines) (os : List Outer) → AreLines (scope os) ls → (rest : List Token) → run (put_lines ls rest) (go (outside os no_lines) beginning) ≡ run rest (go (outside os ls) beginning)
  read_lines no_lines os w rest = refl
  read_lines (line ls p t) os w rest =
      let r = read_place p (outside os ls) w.1 (t ∷ rest) in
      read_lines ls os w.0 (put_place p (t ∷ rest)) ∙ r.runs
      ∙ ap (λ d. and_then d (run rest)) (r.ends t (separator_ends t.kind w.2) ∙ line_ends t (outside os ls) p w.2)

-- each script of the grammar is read, as itself
pub complete_script : (b : Block) → IsBlock outermost b → (d : Config) × (run (put_block b []) start ≡ Some d) × (finish d ≡ Some b)
complete_script (block ls p) w =
    let r = read_place p (outside [] ls) w.1 [] in
    (go (outside [] ls) r.mode, read_lines ls [] w.0 (put_place p []) ∙ r.runs, ap (finish_place [] ls) r.last)
