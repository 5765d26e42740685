-- The least depth of a script that begins with what was read never falls, and some end has it.
use Rattle.std.proofs.Common.{ℕ, ◌≡◌, ◌≤◌, ◌+◌, max, Bool, true, false, ◌&&◌, not, List, [], ◌∷◌, Option, Some, None, if◌then◌else◌, refl, sym, ap, subst, ◌∙◌, arith}
use Rattle.jd_grammar.specs.declared.token.Token.{Token}
use Rattle.jd_grammar.specs.declared.token.Kind.{Kind}
use Rattle.jd_grammar.specs.declared.token.Kind.TheVariants.{Name, Function, If, Elseif, Else, While, For, Try, Catch, Return, Break, Continue, End, Using, DistributedFor, Everywhere, Comma, Assign, PlusAssign, MinusAssign, StarAssign, CloseParen, Semicolon, LineEnd}
use Rattle.jd_grammar.specs.Kinds.{is_name}
use Rattle.jd_grammar.specs.Grammar.{Syntax, leaf, bracket, called, Items, none, more, Maybe, nothing, just, is_name_leaf, are_names, are_distinct, name_of, is_list_of_names}
use Rattle.jd_grammar.specs.Frames.{Frame, Now, wanted, got, pending, State, want, have}
use Rattle.jd_grammar.specs.Machine as expression
use Rattle.jd_grammar.specs.Machine.{close}
use Rattle.jd_grammar.specs.Depth.{height, height_items, height_maybe}
use Rattle.jd_grammar.specs.Shortest as least
use Rattle.jd_grammar.specs.Shortest.{wrap, whole}
use Rattle.jd_grammar.specs.Script.{is_fresh as is_fresh_name}
use Rattle.jd_grammar.specs.Script.{no_parameters, next, Signature, using_first, using_next, bare, assigned, updated, defined, defined_everywhere, returned, while_head, if_head, elseif_head, for_head, distributed_head, Opening, headed, else_open, try_open, catch_open, catch_name, function_open, Stmt, ended, alone, packages, packages_everywhere, blocks, begun, Before, fresh, behind, Block, block, Lines, no_lines, line, Place, empty, stmt, role_of, may_end, is_separator, is_in, is_reducer, is_package, is_signature, are_commas, Scope}
use Rattle.jd_grammar.specs.Reader.{is_open, is_close, is_for, is_assign, Outer, Context, Bottom, in_lead, in_header, Owner, of_function, of_everywhere, Awaited, for_name, for_in, distributed_open, distributed_reducer, distributed_close, distributed_for, distributed_name, distributed_in, function_name, signature_open, signature_first, signature_next, signature_name, signature_end, everywhere, everywhere_package, package_first, package_next, catch_words, catch_named, Mode, at_expression, at_words, complete, Config, scope, Whole, nothing_whole, a_place, a_header, with_expression, without_expression, whole_at, open_block, leave, in_outer, end_block, is_conditional, is_trying, elseif_block, else_block, catch_block, separator_step, at_place, ending_step, go, only_if, begin_step, value_step, assign_step, update_step, target_step, statement_step, close_signature, first_step, next_step, everywhere_step, catch_step, words_step, complete_step, either, mode_step, step, and_then, run, whole_of, finish_place, finish}
use Rattle.jd_grammar.specs.ScriptDepth.{lead_weight, target_weight, header_weight, weight, height_opening, depth_stmt, height_before, depth_inner, depth_lines, depth_place, depth, is_fresh, awaited_needs, mode_needs, has_begun, has_token, outer_needs, round_needs, needs}
use Rattle.jd_grammar.proofs.Invariant.{IsState, MayStep, both}
use Rattle.jd_grammar.proofs.Sound.{step_ok}
use Rattle.jd_grammar.proofs.Nesting as least_needs
use Rattle.jd_grammar.proofs.Nesting.{step_needs}
use Rattle.jd_grammar.proofs.Under.{close_wrap}
use Rattle.jd_grammar.proofs.Begun as begun_lemmas
use Rattle.jd_grammar.proofs.Context.{IsMode, IsConfig, MayGo}
use Rattle.jd_grammar.proofs.ScriptSound.{next_config}
use Rattle.jd_grammar.proofs.ScriptFinish.{bare_end, return_end, expression_end, owned, a_signature, opens_with, new_name, words_end, mode_end, shut, shut_blocks, script}
use Rattle.jd_grammar.proofs.Absurd.{no}

-- ---- depths grow with what stands inside

always : (ls : Lines) → has_token ls true ≡ true
always no_lines = refl
always (line ls m t) = refl

inner_le : (ls : Lines) (b : Bool) (h g : ℕ) → h ≤ g → (if has_token ls b then 1 + max (depth_lines ls) h else 0) ≤ (if has_token ls true then 1 + max (depth_lines ls) g else 0)
inner_le no_lines true h g k = omega arith
inner_le no_lines false h g k = omega arith
inner_le (line ls m t) b h g k = omega arith

round_grows : (os : List Outer) (ls : Lines) (b : Bool) (h g : ℕ) → h ≤ g → round_needs os ls b h ≤ round_needs os ls true g
round_grows [] ls b h g k = omega arith
round_grows (o ∷ os) ls b h g k = let i = inner_le ls b h g k in
    round_grows os o.lines true (outer_needs o (if has_token ls b then 1 + max (depth_lines ls) h else 0)) (outer_needs o (if has_token ls true then 1 + max (depth_lines ls) g else 0)) (omega arith)

-- ---- what is whole has the depth of what was read

abbrev is_stmt : Place → Bool
is_stmt empty = false
is_stmt (stmt s) = true

abbrev WholeNeeds : ℕ → Bool → Whole → Type 0
WholeNeeds n b nothing_whole = Unit {0}
WholeNeeds n b (a_place p) = (n ≤ depth_place p) × (b ≡ true → is_stmt p ≡ true)
WholeNeeds n b (a_header x h c) = n ≤ header_weight h + max (height_before x) (height c)

-- the depth of a statement whose expression has this height
abbrev pub over : Bottom → ℕ → ℕ
over (in_lead l) h = lead_weight l + h
over (in_header x d) h = header_weight d + max (height_before x) h

over_grows : (b : Bottom) (g h : ℕ) → g ≤ h → over b g ≤ over b h
over_grows (in_lead l) g h k = omega arith
over_grows (in_header x d) g h k = omega arith

below_over : (b : Bottom) (s : State) → mode_needs (at_expression b s) ≤ over b (least.needs s)
below_over (in_lead bare) s = omega arith
below_over (in_lead (assigned n t)) s = omega arith
below_over (in_lead (updated n t)) s = omega arith
below_over (in_lead (defined d t)) s = omega arith
below_over (in_lead (defined_everywhere e g t)) s = omega arith
below_over (in_lead (returned t)) s = elim (is_fresh s.frames s.now) as (λ b. (if b then 0 else 1 + least.needs s) ≤ 1 + least.needs s) [ true ↦ omega arith | false ↦ omega arith ]
below_over (in_header x h) s = omega arith

pub over_below : (b : Bottom) (s : State) → is_fresh s.frames s.now ≡ false → over b (least.needs s) ≤ mode_needs (at_expression b s)
over_below (in_lead bare) s h = omega arith
over_below (in_lead (assigned n t)) s h = omega arith
over_below (in_lead (updated n t)) s h = omega arith
over_below (in_lead (defined d t)) s h = omega arith
over_below (in_lead (defined_everywhere e g t)) s h = omega arith
over_below (in_lead (returned t)) s h = subst (λ b. 1 + least.needs s ≤ (if b then 0 else 1 + least.needs s)) (sym h) (omega arith)
over_below (in_header x d) s h = omega arith

with_needs : (n : ℕ) (b : Bool) (t : Bottom) (r : List Frame × Syntax) → n ≤ over t (height (wrap r.0 r.1)) → WholeNeeds n b (with_expression t r)
with_needs n b (in_lead l) ([], e) h = (h, λ k. refl)
with_needs n b (in_header x d) ([], e) h = h
with_needs n b (in_lead l) (_ ∷ fs, e) h = tt
with_needs n b (in_header x d) (_ ∷ fs, e) h = tt

without_needs : (b : Bottom) (fs : List Frame) → WholeNeeds (mode_needs (at_expression b (want fs))) (has_begun (at_expression b (want fs))) (without_expression b fs)
without_needs (in_lead bare) [] = (omega arith, λ k. cc)
without_needs (in_lead (returned t)) [] = (omega arith, λ k. refl)
without_needs (in_lead (assigned n t)) fs = tt
without_needs (in_lead (updated n t)) fs = tt
without_needs (in_lead (defined d t)) fs = tt
without_needs (in_lead (defined_everywhere e s t)) fs = tt
without_needs (in_lead bare) (_ ∷ fs) = tt
without_needs (in_lead (returned t)) (_ ∷ fs) = tt
without_needs (in_header x h) fs = tt

whole_needs : (b : Bottom) (fs : List Frame) (n : Now) → WholeNeeds (mode_needs (at_expression b (record { frames = fs; now = n }))) (has_begun (at_expression b (record { frames = fs; now = n }))) (whole_at b fs n)
whole_needs b fs wanted = without_needs b fs
whole_needs b fs (got e) = with_needs (mode_needs (at_expression b (have fs e))) (has_begun (at_expression b (have fs e))) b (close 0 fs e)
    (omega (arith, below_over b (have fs e), over_grows b (height (wrap fs e)) (height (wrap (close 0 fs e).0 (close 0 fs e).1)) (omega (arith, ap height (close_wrap 0 fs e)))))
whole_needs b fs (pending x) = tt

-- ---- no step lowers it

abbrev pub NoLess : ℕ → Option Config → Type 0
NoLess n None = Unit {0}
NoLess n (Some d) = n ≤ needs d

only_needs : (n : ℕ) (b : Bool) (c : Config) → (b ≡ true → n ≤ needs c) → NoLess n (only_if b c)
only_needs n true c h = h refl
only_needs n false c h = tt

inner_bound : (c : Bool) (x y : ℕ) → x ≤ y → (if c then 1 + x else 0) ≤ 1 + y
inner_bound true x y h = omega arith
inner_bound false x y h = omega arith

line_needs : (os : List Outer) (ls : Lines) (p : Place) (t : Token) (b : Bool) (h : ℕ) → h ≤ depth_place p → round_needs os ls b h ≤ round_needs os (line ls p t) false 0
line_needs [] ls p t b h k = omega arith
line_needs (o ∷ os) ls p t b h k =
    let i = inner_bound (has_token ls b) (max (depth_lines ls) h) (max (max (depth_lines ls) (depth_place p)) 0) (omega arith) in
    round_grows os o.lines true (outer_needs o (if has_token ls b then 1 + max (depth_lines ls) h else 0)) (outer_needs o (1 + max (max (depth_lines ls) (depth_place p)) 0)) (omega arith)

separator_needs : (t : Token) (ctx : Context) (b : Bool) (h : ℕ) (w : Whole) → WholeNeeds h b w → NoLess (round_needs ctx.outer ctx.lines b h) (separator_step t ctx w)
separator_needs t ctx b h nothing_whole v = tt
separator_needs t ctx b h (a_place p) v = line_needs ctx.outer ctx.lines p t b h v.0
separator_needs t ctx b h (a_header x d c) v = round_grows ctx.outer ctx.lines b h (header_weight d + max (max (height_before x) (height c)) 0) (omega arith)

inner_block : (ls : Lines) (b : Bool) (h : ℕ) (p : Place) → h ≤ depth_place p → (b ≡ true → is_stmt p ≡ true) → (if has_token ls b then 1 + max (depth_lines ls) h else 0) ≤ depth_inner (block ls p)
inner_block no_lines true h empty k s = let e = s refl in cc
inner_block no_lines true h (stmt x) k s = omega arith
inner_block no_lines false h p k s = omega arith
inner_block (line ls m t) b h p k s = omega arith

-- what goes on with a statement round its innermost block
abbrev LeaveNeeds : (List Outer → Lines → Before → Opening → Block → Option Config) → Type 0
LeaveNeeds f = (n : ℕ) (os : List Outer) (ls : Lines) (x : Before) (o : Opening) (b : Block) → n ≤ round_needs os ls true (weight o + max (max (height_before x) (height_opening o)) (depth_inner b)) → NoLess n (f os ls x o b)

leave_needs : (ctx : Context) (b : Bool) (h : ℕ) (p : Place) (f : List Outer → Lines → Before → Opening → Block → Option Config) → h ≤ depth_place p → (b ≡ true → is_stmt p ≡ true) → LeaveNeeds f
    → NoLess (round_needs ctx.outer ctx.lines b h) (leave ctx p f)
leave_needs ctx b h p f k s g = on ctx.outer
  where
    on : (os : List Outer) → NoLess (round_needs os ctx.lines b h) (elim os as (λ _. Option Config) [ [] ↦ None | o ∷ os ↦ f os o.lines o.before o.opening (block ctx.lines p) ])
    on [] = tt
    on (o ∷ os) =
        let i = inner_block ctx.lines b h p k s in
        g (round_needs (o ∷ os) ctx.lines b h) os o.lines o.before o.opening (block ctx.lines p)
        (round_grows os o.lines true (outer_needs o (if has_token ctx.lines b then 1 + max (depth_lines ctx.lines) h else 0)) (outer_needs o (depth_inner (block ctx.lines p))) (omega arith))

end_needs : (t : Token) → LeaveNeeds (end_block t)
end_needs t n os ls x o b h = only_needs n (may_end (role_of o)) (in_outer os ls (complete (blocks (begun x o) b t))) (λ k. h)

conditional_weight : (o : Opening) → is_conditional (role_of o) ≡ true → weight o ≤ 1
conditional_weight (headed (while_head t) c sep) k = omega arith
conditional_weight (headed (if_head t) c sep) k = omega arith
conditional_weight (headed (elseif_head t) c sep) k = omega arith
conditional_weight (headed (for_head t n i) c sep) k = omega arith
conditional_weight (headed (distributed_head g t u op q f n i) c sep) k = cc
conditional_weight _ k = omega arith

trying_weight : (o : Opening) → is_trying (role_of o) ≡ true → weight o ≤ 1
trying_weight (headed (while_head t) c sep) k = omega arith
trying_weight (headed (if_head t) c sep) k = omega arith
trying_weight (headed (elseif_head t) c sep) k = omega arith
trying_weight (headed (for_head t n i) c sep) k = omega arith
trying_weight (headed (distributed_head g t u op q f n i) c sep) k = cc
trying_weight _ k = omega arith

elseif_needs : (t : Token) → LeaveNeeds (elseif_block t)
elseif_needs t n os ls x o b h = only_needs n (is_conditional (role_of o)) (in_outer os ls (at_expression (in_header (behind (begun x o) b) (elseif_head t)) (want []))) (λ k.
    let g = round_grows os ls true (weight o + max (max (height_before x) (height_opening o)) (depth_inner b)) (1 + max (max (max (height_before x) (height_opening o)) (depth_inner b)) 0) (omega (arith, conditional_weight o k)) in omega arith)

else_needs : (t : Token) → LeaveNeeds (else_block t)
else_needs t n os ls x o b h = only_needs n (is_conditional (role_of o)) (open_block (record { outer = os; lines = ls }) (behind (begun x o) b) (else_open t)) (λ k.
    let g = round_grows os ls true (weight o + max (max (height_before x) (height_opening o)) (depth_inner b)) (1 + max (max (max (max (height_before x) (height_opening o)) (depth_inner b)) 0) 0) (omega (arith, conditional_weight o k)) in omega arith)

catch_needs : (t : Token) → LeaveNeeds (catch_block t)
catch_needs t n os ls x o b h = only_needs n (is_trying (role_of o)) (in_outer os ls (at_words (catch_words (behind (begun x o) b) t))) (λ k.
    let g = round_grows os ls true (weight o + max (max (height_before x) (height_opening o)) (depth_inner b)) (1 + max (max (height_before x) (height_opening o)) (depth_inner b)) (omega (arith, trying_weight o k)) in omega arith)

place_needs : (ctx : Context) (b : Bool) (h : ℕ) (w : Whole) (f : List Outer → Lines → Before → Opening → Block → Option Config) → WholeNeeds h b w → LeaveNeeds f
    → NoLess (round_needs ctx.outer ctx.lines b h) (at_place w (λ p. leave ctx p f))
place_needs ctx b h nothing_whole f v g = tt
place_needs ctx b h (a_header x d c) f v g = tt
place_needs ctx b h (a_place p) f v g = leave_needs ctx b h p f v.0 v.1 g

ending_needs : (k : Kind) (t : Token) (ctx : Context) (b : Bool) (h : ℕ) (w : Whole) → WholeNeeds h b w → NoLess (round_needs ctx.outer ctx.lines b h) (ending_step k t ctx w)
ending_needs Semicolon t ctx b h w v = separator_needs t ctx b h w v
ending_needs LineEnd t ctx b h w v = separator_needs t ctx b h w v
ending_needs End t ctx b h w v = place_needs ctx b h w (end_block t) v (end_needs t)
ending_needs Elseif t ctx b h w v = place_needs ctx b h w (elseif_block t) v (elseif_needs t)
ending_needs Else t ctx b h w v = place_needs ctx b h w (else_block t) v (else_needs t)
ending_needs Catch t ctx b h w v = place_needs ctx b h w (catch_block t) v (catch_needs t)
ending_needs _ t ctx b h w v = tt

-- a statement goes on, in its block
on_needs : (ctx : Context) (b : Bool) (h g : ℕ) → h ≤ g → round_needs ctx.outer ctx.lines b h ≤ round_needs ctx.outer ctx.lines true g
on_needs ctx b h g k = round_grows ctx.outer ctx.lines b h g k

begin_needs : (k : Kind) (t : Token) (ctx : Context) (w : Whole) → WholeNeeds 0 false w → NoLess (round_needs ctx.outer ctx.lines false 0) (begin_step k t ctx w)
begin_needs k t ctx w v = elim k as (λ k. NoLess (round_needs ctx.outer ctx.lines false 0) (ending_step k t ctx w) → NoLess (round_needs ctx.outer ctx.lines false 0) (begin_step k t ctx w)) [
  | While ↦ λ z. some (1 + max 0 0)
  | If ↦ λ z. some (1 + max 0 0)
  | For ↦ λ z. some 1
  | Try ↦ λ z. some (1 + max (max 0 0) 0)
  | DistributedFor ↦ λ z. some 1
  | Function ↦ λ z. only_needs n (scope ctx.outer).top (go ctx (at_words (function_name None t))) (λ k. some 1)
  | Everywhere ↦ λ z. only_needs n (scope ctx.outer).top (go ctx (at_words (everywhere t))) (λ k. some 0)
  | Using ↦ λ z. only_needs n (scope ctx.outer).top (go ctx (at_words (package_first t))) (λ k. some 0)
  | Return ↦ λ z. only_needs n (scope ctx.outer).function (go ctx (at_expression (in_lead (returned t)) (want []))) (λ k. some 0)
  | Break ↦ λ z. only_needs n (scope ctx.outer).loop (go ctx (complete (alone t))) (λ k. some 0)
  | Continue ↦ λ z. only_needs n (scope ctx.outer).loop (go ctx (complete (alone t))) (λ k. some 0)
  | _ ↦ λ z. z
] (ending_needs k t ctx false 0 w v)
  where
    n : ℕ
    n = round_needs ctx.outer ctx.lines false 0

    some : (g : ℕ) → round_needs ctx.outer ctx.lines false 0 ≤ round_needs ctx.outer ctx.lines true g
    some g = on_needs ctx false 0 g (omega arith)

value_needs : (n q : Token) (k : Kind) (t : Token) (ctx : Context) (w : Whole) → WholeNeeds 1 true w → NoLess (round_needs ctx.outer ctx.lines true 1) (value_step n q k t ctx w)
value_needs n q k t ctx w v = elim k as (λ k. NoLess (round_needs ctx.outer ctx.lines true 1) (ending_step k t ctx w) → NoLess (round_needs ctx.outer ctx.lines true 1) (value_step n q k t ctx w)) [
  | DistributedFor ↦ λ z. on_needs ctx true 1 2 (omega arith)
  | _ ↦ λ z. z
] (ending_needs k t ctx true 1 w v)

-- ---- a definition's head is no deeper than its own parentheses

name_flat : (e : Syntax) → is_name_leaf e ≡ true → height e ≡ 0
name_flat (leaf t) h = refl
name_flat _ h = no h

names_flat : (es : Items) → are_names es ≡ true → height_items es ≡ 0
names_flat none h = refl
names_flat (more e t es) h = let b = both (is_name_leaf e) (are_names es) h in omega (arith, name_flat e b.0, names_flat es b.1)

list_flat : (es : Items) (last : Maybe) → is_list_of_names es last ≡ true → max (height_items es) (height_maybe last) ≡ 0
list_flat none nothing h = refl
list_flat (more e t es) nothing h = cc
list_flat none (just e) h = omega (arith, name_flat e (both (is_name_leaf e) (are_distinct none (name_of e)) h).0)
list_flat (more x t es) (just e) h =
    let a = both (are_names (more x t es) && is_name_leaf e) (are_distinct (more x t es) (name_of e)) h in
    let b = both (are_names (more x t es)) (is_name_leaf e) a.0 in
    omega (arith, names_flat (more x t es) b.0, name_flat e b.1)

signature_flat : (e : Syntax) → is_signature e ≡ true → height e ≤ 1
signature_flat (bracket (called (leaf f)) o most last c) h =
    let a = both (is_name f.kind) (are_commas most && is_list_of_names most last) h in
    let b = both (are_commas most) (is_list_of_names most last) a.1 in
    omega (arith, list_flat most last b.1)
signature_flat _ h = no h

assign_needs : (t : Token) (ctx : Context) (e : Syntax) → NoLess (round_needs ctx.outer ctx.lines true (0 + height e)) (assign_step t ctx e)
assign_needs t ctx (leaf n) = only_needs (round_needs ctx.outer ctx.lines true 0) (is_name n.kind) (go ctx (at_expression (in_lead (assigned n t)) (want []))) (λ k. on_needs ctx true 0 1 (omega arith))
assign_needs t ctx e = only_needs (round_needs ctx.outer ctx.lines true (0 + height e)) ((scope ctx.outer).top && is_signature e) (go ctx (at_expression (in_lead (defined e t)) (want [])))
    (λ k. on_needs ctx true (0 + height e) 1 (omega (arith, signature_flat e (both (scope ctx.outer).top (is_signature e) k).1)))

update_needs : (t : Token) (ctx : Context) (e : Syntax) → NoLess (round_needs ctx.outer ctx.lines true (0 + height e)) (update_step t ctx e)
update_needs t ctx (leaf n) = only_needs (round_needs ctx.outer ctx.lines true 0) (is_name n.kind) (go ctx (at_expression (in_lead (updated n t)) (want []))) (λ k. on_needs ctx true 0 1 (omega arith))
update_needs t ctx _ = tt

target_needs : (k : Kind) (t : Token) (ctx : Context) (e : Syntax) (w : Whole) → WholeNeeds (0 + height e) true w → NoLess (round_needs ctx.outer ctx.lines true (0 + height e)) (target_step k t ctx e w)
target_needs k t ctx e w v = elim k as (λ k. NoLess (round_needs ctx.outer ctx.lines true (0 + height e)) (ending_step k t ctx w) → NoLess (round_needs ctx.outer ctx.lines true (0 + height e)) (target_step k t ctx e w)) [
  | Assign ↦ λ z. assign_needs t ctx e
  | PlusAssign ↦ λ z. update_needs t ctx e
  | MinusAssign ↦ λ z. update_needs t ctx e
  | StarAssign ↦ λ z. update_needs t ctx e
  | _ ↦ λ z. z
] (ending_needs k t ctx true (0 + height e) w v)

abbrev at_state : Bottom → List Frame → Now → Mode
at_state b fs n = at_expression b (record { frames = fs; now = n })

statement_needs : (k : Kind) (t : Token) (ctx : Context) (b : Bottom) (fs : List Frame) (n : Now) → NoLess (needs (go ctx (at_state b fs n))) (statement_step k t ctx b fs n)
statement_needs k t ctx (in_lead bare) [] wanted = begin_needs k t ctx (whole_at (in_lead bare) [] wanted) (whole_needs (in_lead bare) [] wanted)
statement_needs k t ctx (in_lead (assigned n q)) [] wanted = value_needs n q k t ctx (whole_at (in_lead (assigned n q)) [] wanted) (whole_needs (in_lead (assigned n q)) [] wanted)
statement_needs k t ctx (in_lead bare) [] (got e) = target_needs k t ctx e (whole_at (in_lead bare) [] (got e)) (whole_needs (in_lead bare) [] (got e))
statement_needs k t ctx b fs n = ending_needs k t ctx (has_begun (at_state b fs n)) (mode_needs (at_state b fs n)) (whole_at b fs n) (whole_needs b fs n)

-- ---- words

signature_needs : (w : Owner) (g : Signature) (ctx : Context) → round_needs ctx.outer ctx.lines true 1 ≤ needs (close_signature w g ctx)
signature_needs (of_function every t) g ctx = on_needs ctx true 1 (1 + max (max 0 0) 0) (omega arith)
signature_needs (of_everywhere every) g ctx = omega arith

words_needs : (x : Awaited) (t : Token) (ctx : Context) → NoLess (round_needs ctx.outer ctx.lines true (awaited_needs x)) (words_step x t ctx)
words_needs (for_name f) t ctx = only_needs (round_needs ctx.outer ctx.lines true 1) (is_name t.kind) (go ctx (at_words (for_in f t))) (λ k. omega arith)
words_needs (for_in f n) t ctx = only_needs (round_needs ctx.outer ctx.lines true 1) (is_in t.kind) (go ctx (at_expression (in_header fresh (for_head f n t)) (want []))) (λ k. on_needs ctx true 1 (1 + max 0 0) (omega arith))
words_needs (distributed_open g d) t ctx = only_needs (round_needs ctx.outer ctx.lines true (target_weight g)) (is_open t.kind) (go ctx (at_words (distributed_reducer g d t))) (λ k. omega arith)
words_needs (distributed_reducer g d o) t ctx = only_needs (round_needs ctx.outer ctx.lines true (target_weight g)) (is_reducer t.kind) (go ctx (at_words (distributed_close g d o t))) (λ k. omega arith)
words_needs (distributed_close g d o op) t ctx = only_needs (round_needs ctx.outer ctx.lines true (target_weight g)) (is_close t.kind) (go ctx (at_words (distributed_for g d o op t))) (λ k. omega arith)
words_needs (distributed_for g d o op c) t ctx = only_needs (round_needs ctx.outer ctx.lines true (target_weight g)) (is_for t.kind) (go ctx (at_words (distributed_name g d o op c t))) (λ k. omega arith)
words_needs (distributed_name g d o op c f) t ctx = only_needs (round_needs ctx.outer ctx.lines true (target_weight g)) (is_name t.kind) (go ctx (at_words (distributed_in g d o op c f t))) (λ k. omega arith)
words_needs (distributed_in g d o op c f n) t ctx = only_needs (round_needs ctx.outer ctx.lines true (target_weight g)) (is_in t.kind) (go ctx (at_expression (in_header fresh (distributed_head g d o op c f n t)) (want [])))
    (λ k. on_needs ctx true (target_weight g) (target_weight g + max 0 0) (omega arith))
words_needs (function_name every f) t ctx = only_needs (round_needs ctx.outer ctx.lines true 1) (is_name t.kind) (go ctx (at_words (signature_open (of_function every f) t))) (λ k. omega arith)
words_needs (signature_open w f) t ctx = only_needs (round_needs ctx.outer ctx.lines true 1) (is_open t.kind) (go ctx (at_words (signature_first w f t))) (λ k. omega arith)
words_needs (signature_first w f o) t ctx = elim t.kind as (λ k. NoLess (round_needs ctx.outer ctx.lines true 1) (first_step w f o k t ctx)) [
  | Name n ↦ omega arith
  | CloseParen ↦ signature_needs w (record { name = f; opens = o; parameters = no_parameters; closes = t }) ctx
  | _ ↦ tt
]
words_needs (signature_next w f o ps) t ctx = elim t.kind as (λ k. NoLess (round_needs ctx.outer ctx.lines true 1) (next_step w f o ps k t ctx)) [
  | Comma ↦ omega arith
  | CloseParen ↦ signature_needs w (record { name = f; opens = o; parameters = ps; closes = t }) ctx
  | _ ↦ tt
]
words_needs (signature_name w f o ps comma) t ctx = only_needs (round_needs ctx.outer ctx.lines true 1) (is_name t.kind && is_fresh_name t.kind ps) (go ctx (at_words (signature_next w f o (next ps comma t)))) (λ k. omega arith)
words_needs (signature_end every g) t ctx = only_needs (round_needs ctx.outer ctx.lines true 1) (is_assign t.kind) (go ctx (at_expression (in_lead (defined_everywhere every g t)) (want []))) (λ k. omega arith)
words_needs (everywhere every) t ctx = elim t.kind as (λ k. NoLess (round_needs ctx.outer ctx.lines true 0) (everywhere_step every k t ctx)) [
  | Using ↦ omega arith
  | Function ↦ on_needs ctx true 0 1 (omega arith)
  | Name n ↦ on_needs ctx true 0 1 (omega arith)
  | _ ↦ tt
]
words_needs (everywhere_package every u) t ctx = only_needs (round_needs ctx.outer ctx.lines true 0) (is_package t.kind) (go ctx (complete (packages_everywhere every u t))) (λ k. omega arith)
words_needs (package_first u) t ctx = only_needs (round_needs ctx.outer ctx.lines true 0) (is_package t.kind) (go ctx (complete (packages (using_first u t)))) (λ k. omega arith)
words_needs (package_next ns comma) t ctx = only_needs (round_needs ctx.outer ctx.lines true 0) (is_package t.kind) (go ctx (complete (packages (using_next ns comma t)))) (λ k. omega arith)
words_needs (catch_words x q) t ctx = elim t.kind as (λ k. NoLess (round_needs ctx.outer ctx.lines true (1 + height_before x)) (catch_step x q k t ctx)) [
  | Name n ↦ omega arith
  | Semicolon ↦ caught
  | LineEnd ↦ caught
  | _ ↦ tt
]
  where
    caught : round_needs ctx.outer ctx.lines true (1 + height_before x) ≤ round_needs ctx.outer ctx.lines true (1 + max (max (height_before x) 0) 0)
    caught = on_needs ctx true (1 + height_before x) (1 + max (max (height_before x) 0) 0) (omega arith)
words_needs (catch_named x q n) t ctx = only_needs (round_needs ctx.outer ctx.lines true (1 + height_before x)) (is_separator t.kind) (open_block ctx x (catch_name q n t))
    (λ k. on_needs ctx true (1 + height_before x) (1 + max (max (height_before x) 0) 0) (omega arith))

complete_needs : (k : Kind) (t : Token) (ctx : Context) (s : Stmt) → NoLess (round_needs ctx.outer ctx.lines true (depth_stmt s)) (complete_step k t ctx s)
complete_needs k t ctx s = elim k as (λ k. NoLess (round_needs ctx.outer ctx.lines true (depth_stmt s)) (ending_step k t ctx (a_place (stmt s))) → NoLess (round_needs ctx.outer ctx.lines true (depth_stmt s)) (complete_step k t ctx s)) [
  | Comma ↦ comma s
  | _ ↦ λ z. z
] (ending_needs k t ctx true (depth_stmt s) (a_place (stmt s)) (omega arith, λ k. refl))
  where
    comma : (s : Stmt) → NoLess (round_needs ctx.outer ctx.lines true (depth_stmt s)) (ending_step Comma t ctx (a_place (stmt s))) → NoLess (round_needs ctx.outer ctx.lines true (depth_stmt s)) (complete_step Comma t ctx s)
    comma (packages ns) z = omega arith
    comma (ended l e) z = z
    comma (alone u) z = z
    comma (packages_everywhere e u n) z = z
    comma (blocks p b u) z = z

-- ---- a step

begun_mode : (b : Bottom) (s : State) → is_fresh s.frames s.now ≡ false → has_begun (at_expression b s) ≡ true
begun_mode (in_lead bare) s h = ap not h
begun_mode (in_lead (assigned n t)) s h = refl
begun_mode (in_lead (updated n t)) s h = refl
begun_mode (in_lead (defined d t)) s h = refl
begun_mode (in_lead (defined_everywhere e g t)) s h = refl
begun_mode (in_lead (returned t)) s h = refl
begun_mode (in_header x d) s h = refl

expression_needs : (ctx : Context) (b : Bottom) (s d : State) → least.needs s ≤ least.needs d → is_fresh d.frames d.now ≡ false → needs (go ctx (at_expression b s)) ≤ needs (go ctx (at_expression b d))
expression_needs ctx b s d h f =
    subst (λ x. needs (go ctx (at_expression b s)) ≤ round_needs ctx.outer ctx.lines x (mode_needs (at_expression b d))) (sym (begun_mode b d f))
    (on_needs ctx (has_begun (at_expression b s)) (mode_needs (at_expression b s)) (mode_needs (at_expression b d))
    (omega (arith, below_over b s, over_grows b (least.needs s) (least.needs d) h, over_below b d f)))

either_needs : (t : Token) (ctx : Context) (b : Bottom) (s : State) (d : Option State) → least_needs.NoLess (least.needs s) d → MayStep t s d → NoLess (needs (go ctx (at_expression b s))) (either d t.kind t ctx b s)
either_needs t ctx b s None h v = statement_needs t.kind t ctx b s.frames s.now
either_needs t ctx b s (Some d) h v = expression_needs ctx b s d h (begun_lemmas.begun t s d v)

mode_step_needs : (t : Token) (ctx : Context) (m : Mode) → IsMode (scope ctx.outer) m → NoLess (needs (go ctx m)) (mode_step m t ctx)
mode_step_needs t ctx (at_expression b s) w = either_needs t ctx b s (expression.step t s) (step_needs t s w.1) (step_ok t s w.1)
mode_step_needs t ctx (at_words x) w = words_needs x t ctx
mode_step_needs t ctx (complete s) w = complete_needs t.kind t ctx s

pub next_needs : (t : Token) (c : Config) → IsConfig c → NoLess (needs c) (step t c)
next_needs t c w = mode_step_needs t c.context c.mode w.mode

-- ---- a run, and the end

run_on : (t : Token) (ts : List Token) (c : Config) (n : ℕ) → ((c : Config) → IsConfig c → NoLess (needs c) (run ts c)) → (d : Option Config) → NoLess n d → MayGo t c d → NoLess n (and_then d (run ts))
run_on t ts c n f None h v = tt
run_on t ts c n f (Some d) h v = up (run ts d) (f d v.config)
  where
    up : (r : Option Config) → NoLess (needs d) r → NoLess n r
    up None u = tt
    up (Some r) u = omega arith

pub run_needs : (ts : List Token) (c : Config) → IsConfig c → NoLess (needs c) (run ts c)
run_needs [] c w = omega arith
run_needs (t ∷ ts) c w = run_on t ts c (needs c) (run_needs ts) (step t c) (next_needs t c w) (next_config t c w)

mode_whole : (m : Mode) → WholeNeeds (mode_needs m) (has_begun m) (whole_of m)
mode_whole (at_expression b s) = whole_needs b s.frames s.now
mode_whole (at_words x) = tt
mode_whole (complete s) = (omega arith, λ k. refl)

finish_at : (os : List Outer) (ls : Lines) (b : Bool) (h : ℕ) (w : Whole) (s : Block) → WholeNeeds h b w → finish_place os ls w ≡ Some s → round_needs os ls b h ≤ depth s
finish_at [] ls b h (a_place p) s v e = let q : block ls p ≡ s = cc in subst (λ x. max (depth_lines ls) h ≤ depth x) q (omega (arith, v.0))
finish_at [] ls b h nothing_whole s v e = cc
finish_at [] ls b h (a_header x d c) s v e = cc
finish_at (o ∷ os) ls b h w s v e = cc

pub finish_depth : (c : Config) (s : Block) → finish c ≡ Some s → needs c ≤ depth s
finish_depth c s h = finish_at c.context.outer c.context.lines (has_begun c.mode) (mode_needs c.mode) (whole_of c.mode) s (mode_whole c.mode) h

-- ---- the shortest end adds nothing

shut_depth : (x : Before) (o : Opening) (b : Block) → depth_stmt (shut x o b) ≡ weight o + max (max (height_before x) (height_opening o)) (depth_inner b)
shut_depth x (headed h c sep) b = refl
shut_depth x (else_open t) b = refl
shut_depth x (try_open t) b = omega arith
shut_depth x (catch_open t sep) b = refl
shut_depth x (catch_name t n sep) b = refl
shut_depth x (function_open every t g) b = refl

inner_depth : (ls : Lines) (p : Place) → depth_inner (block ls p) ≡ (if has_token ls (is_stmt p) then 1 + max (depth_lines ls) (depth_place p) else 0)
inner_depth no_lines empty = refl
inner_depth no_lines (stmt s) = omega arith
inner_depth (line ls m t) p = refl

blocks_depth : (os : List Outer) (ls : Lines) (p : Place) → depth (shut_blocks os ls p) ≡ round_needs os ls (is_stmt p) (depth_place p)
blocks_depth [] ls p = refl
blocks_depth (o ∷ os) ls p = blocks_depth os o.lines (stmt (shut o.before o.opening (block ls p)))
    ∙ ap (round_needs os o.lines true) (shut_depth o.before o.opening (block ls p) ∙ ap (outer_needs o) (inner_depth ls p))

-- an end has this depth, and is a statement where one has begun
record IsExact (m : Mode) (p : Place) : Type 0 where
  depth : depth_place p ≡ mode_needs m
  begun : is_stmt p ≡ has_begun m

bare_exact : (fs : List Frame) (n : Now) → IsState (record { frames = fs; now = n }) → IsExact (at_state (in_lead bare) fs n) (bare_end fs n).place
bare_exact [] wanted w = record { depth = refl; begun = refl }
bare_exact fs n w = record { depth = refl; begun = refl }

return_exact : (t : Token) (fs : List Frame) (n : Now) → IsState (record { frames = fs; now = n }) → IsExact (at_state (in_lead (returned t)) fs n) (return_end t fs n).place
return_exact t [] wanted w = record { depth = refl; begun = refl }
return_exact t fs n w = record { depth = refl; begun = refl }

expression_exact : (b : Bottom) (s : State) → IsState s → IsExact (at_expression b s) (expression_end b s).place
expression_exact (in_lead bare) s w = bare_exact s.frames s.now w
expression_exact (in_lead (returned t)) s w = return_exact t s.frames s.now w
expression_exact (in_lead (assigned n t)) s w = record { depth = refl; begun = refl }
expression_exact (in_lead (updated n t)) s w = record { depth = refl; begun = refl }
expression_exact (in_lead (defined d t)) s w = record { depth = refl; begun = refl }
expression_exact (in_lead (defined_everywhere e g t)) s w = record { depth = refl; begun = refl }
expression_exact (in_header x h) s w = record { depth = omega arith; begun = refl }

owned_exact : (w : Owner) (g : Signature) → depth_stmt (owned w g) ≡ 1
owned_exact (of_function every t) g = refl
owned_exact (of_everywhere every) g = refl

words_exact : (x : Awaited) → IsExact (at_words x) (words_end x).place
words_exact (for_name t) = record { depth = refl; begun = refl }
words_exact (for_in t n) = record { depth = refl; begun = refl }
words_exact (distributed_open g t) = record { depth = omega arith; begun = refl }
words_exact (distributed_reducer g t o) = record { depth = omega arith; begun = refl }
words_exact (distributed_close g t o op) = record { depth = omega arith; begun = refl }
words_exact (distributed_for g t o op c) = record { depth = omega arith; begun = refl }
words_exact (distributed_name g t o op c f) = record { depth = omega arith; begun = refl }
words_exact (distributed_in g t o op c f n) = record { depth = omega arith; begun = refl }
words_exact (function_name every t) = record { depth = refl; begun = refl }
words_exact (signature_open w f) = record { depth = owned_exact w (a_signature f opens_with no_parameters); begun = refl }
words_exact (signature_first w f o) = record { depth = owned_exact w (a_signature f o no_parameters); begun = refl }
words_exact (signature_next w f o ps) = record { depth = owned_exact w (a_signature f o ps); begun = refl }
words_exact (signature_name w f o ps comma) = record { depth = owned_exact w (a_signature f o (next ps comma (new_name ps))); begun = refl }
words_exact (signature_end every g) = record { depth = refl; begun = refl }
words_exact (everywhere every) = record { depth = refl; begun = refl }
words_exact (everywhere_package every t) = record { depth = refl; begun = refl }
words_exact (package_first t) = record { depth = refl; begun = refl }
words_exact (package_next ns comma) = record { depth = refl; begun = refl }
words_exact (catch_words x t) = record { depth = omega arith; begun = refl }
words_exact (catch_named x t n) = record { depth = omega arith; begun = refl }

mode_exact : (sc : Scope) (m : Mode) → IsMode sc m → IsExact m (mode_end m).place
mode_exact sc (at_expression b s) w = expression_exact b s w.1
mode_exact sc (at_words x) w = words_exact x
mode_exact sc (complete s) w = record { depth = refl; begun = refl }

-- some script that begins with what was read has the least depth
pub script_depth : (c : Config) → IsConfig c → depth (script c) ≡ needs c
script_depth c w =
    let e = mode_exact (scope c.context.outer) c.mode w.mode in
    blocks_depth c.context.outer c.context.lines (mode_end c.mode).place
    ∙ ap (λ b. round_needs c.context.outer c.context.lines b (depth_place (mode_end c.mode).place)) e.begun
    ∙ ap (round_needs c.context.outer c.context.lines (has_begun c.mode)) e.depth
