-- What an expression doesn't take, and what a statement doesn't.
use Rattle.std.proofs.Common.{◌≡◌, Bool, true, false, not, ◌&&◌, List, [], ◌∷◌, Option, Some, None, refl, sym, ap, ◌∙◌}
use Rattle.jd_grammar.specs.declared.token.Token.{Token}
use Rattle.jd_grammar.specs.declared.token.Kind.{Kind}
use Rattle.jd_grammar.specs.declared.token.Kind.TheVariants.{Function, If, Elseif, Else, While, For, Try, Catch, Return, Break, Continue, End, Using, DistributedFor, Everywhere, Assign, PlusAssign, MinusAssign, StarAssign, Semicolon, LineEnd}
use Rattle.jd_grammar.specs.Grammar.{Syntax, leaf}
use Rattle.jd_grammar.specs.Frames.{Frame, Now, Words, wanted, got, pending, State, want, have, await}
use Rattle.jd_grammar.specs.Machine.{close, at_end, at_keyword, want_step, have_step, words_step, step_at}
use Rattle.jd_grammar.specs.Script.{bare, assigned, updated, defined, defined_everywhere, returned}
use Rattle.jd_grammar.specs.Reader.{Context, Bottom, in_lead, in_header, Whole, nothing_whole, with_expression, without_expression, whole_at, ending_step, begin_step, value_step, target_step, statement_step, either, at_expression, mode_step}
use Rattle.jd_reader.specs.Routes.{is_ending, is_beginning, is_assigning, is_inner, are_none_open, is_bare, goes}

-- no operand begins so
pub want_none : (k : Kind) (t : Token) → is_beginning k ≡ true → want_step k t [] ≡ None
want_none While t h = refl
want_none If t h = refl
want_none For t h = refl
want_none Try t h = refl
want_none DistributedFor t h = refl
want_none Function t h = refl
want_none Everywhere t h = refl
want_none Using t h = refl
want_none Return t h = refl
want_none Break t h = refl
want_none Continue t h = refl
want_none Semicolon t h = refl
want_none LineEnd t h = refl
want_none End t h = refl
want_none Elseif t h = refl
want_none Else t h = refl
want_none Catch t h = refl
want_none k t h = cc

-- a statement doesn't end so
pub ending_none : (k : Kind) (t : Token) (ctx : Context) (w : Whole) → is_ending k ≡ false → ending_step k t ctx w ≡ None
ending_none Semicolon t ctx w h = cc
ending_none LineEnd t ctx w h = cc
ending_none End t ctx w h = cc
ending_none Elseif t ctx w h = cc
ending_none Else t ctx w h = cc
ending_none Catch t ctx w h = cc
ending_none k t ctx w h = refl

-- where nothing is whole no statement ends
pub nothing_ends : (k : Kind) (t : Token) (ctx : Context) → ending_step k t ctx nothing_whole ≡ None
nothing_ends Semicolon t ctx = refl
nothing_ends LineEnd t ctx = refl
nothing_ends End t ctx = refl
nothing_ends Elseif t ctx = refl
nothing_ends Else t ctx = refl
nothing_ends Catch t ctx = refl
nothing_ends k t ctx = refl

without_nothing : (b : Bottom) (f : Frame) (fs : List Frame) → without_expression b (f ∷ fs) ≡ nothing_whole
without_nothing (in_lead bare) f fs = refl
without_nothing (in_lead (assigned n q)) f fs = refl
without_nothing (in_lead (updated n q)) f fs = refl
without_nothing (in_lead (defined e q)) f fs = refl
without_nothing (in_lead (defined_everywhere every s q)) f fs = refl
without_nothing (in_lead (returned q)) f fs = refl
without_nothing (in_header x h) f fs = refl

pub with_nothing : (b : Bottom) (f : Frame) (fs : List Frame) (e : Syntax) → with_expression b (f ∷ fs, e) ≡ nothing_whole
with_nothing (in_lead l) f fs e = refl
with_nothing (in_header x h) f fs e = refl

-- ---- where a statement takes nothing

-- within what has been begun of an expression, where an operand is wanted
inner_none : (k : Kind) (t : Token) (ctx : Context) (b : Bottom) (f : Frame) (fs : List Frame) → statement_step k t ctx b (f ∷ fs) wanted ≡ None
inner_none k t ctx (in_lead bare) f fs = nothing_ends k t ctx
inner_none k t ctx (in_lead (assigned n q)) f fs = nothing_ends k t ctx
inner_none k t ctx (in_lead (updated n q)) f fs = nothing_ends k t ctx
inner_none k t ctx (in_lead (defined e q)) f fs = nothing_ends k t ctx
inner_none k t ctx (in_lead (defined_everywhere every s q)) f fs = nothing_ends k t ctx
inner_none k t ctx (in_lead (returned q)) f fs = nothing_ends k t ctx
inner_none k t ctx (in_header x h) f fs = nothing_ends k t ctx

begin_none : (k : Kind) (t : Token) (ctx : Context) (w : Whole) → is_beginning k ≡ false → begin_step k t ctx w ≡ None
begin_none While t ctx w h = cc
begin_none If t ctx w h = cc
begin_none For t ctx w h = cc
begin_none Try t ctx w h = cc
begin_none DistributedFor t ctx w h = cc
begin_none Function t ctx w h = cc
begin_none Everywhere t ctx w h = cc
begin_none Using t ctx w h = cc
begin_none Return t ctx w h = cc
begin_none Break t ctx w h = cc
begin_none Continue t ctx w h = cc
begin_none Semicolon t ctx w h = cc
begin_none LineEnd t ctx w h = cc
begin_none End t ctx w h = cc
begin_none Elseif t ctx w h = cc
begin_none Else t ctx w h = cc
begin_none Catch t ctx w h = cc
begin_none k t ctx w h = refl

value_none : (n q : Token) (k : Kind) (t : Token) (ctx : Context) (w : Whole) → is_beginning k ≡ false → value_step n q k t ctx w ≡ None
value_none n q DistributedFor t ctx w h = cc
value_none n q Semicolon t ctx w h = cc
value_none n q LineEnd t ctx w h = cc
value_none n q End t ctx w h = cc
value_none n q Elseif t ctx w h = cc
value_none n q Else t ctx w h = cc
value_none n q Catch t ctx w h = cc
value_none n q k t ctx w h = refl

not_ending : (k : Kind) → is_beginning k ≡ false → is_ending k ≡ false
not_ending Semicolon h = cc
not_ending LineEnd h = cc
not_ending End h = cc
not_ending Elseif h = cc
not_ending Else h = cc
not_ending Catch h = cc
not_ending k h = refl

-- where an expression may begin
outer_none : (k : Kind) (t : Token) (ctx : Context) (b : Bottom) → is_beginning k ≡ false → statement_step k t ctx b [] wanted ≡ None
outer_none k t ctx (in_lead bare) h = begin_none k t ctx (whole_at (in_lead bare) [] wanted) h
outer_none k t ctx (in_lead (assigned n q)) h = value_none n q k t ctx (whole_at (in_lead (assigned n q)) [] wanted) h
outer_none k t ctx (in_lead (updated n q)) h = ending_none k t ctx nothing_whole (not_ending k h)
outer_none k t ctx (in_lead (defined e q)) h = ending_none k t ctx nothing_whole (not_ending k h)
outer_none k t ctx (in_lead (defined_everywhere every s q)) h = ending_none k t ctx nothing_whole (not_ending k h)
outer_none k t ctx (in_lead (returned q)) h = ending_none k t ctx (whole_at (in_lead (returned q)) [] wanted) (not_ending k h)
outer_none k t ctx (in_header x d) h = ending_none k t ctx nothing_whole (not_ending k h)

-- where an operand is wanted
pub wanted_none : (k : Kind) (t : Token) (ctx : Context) (b : Bottom) (fs : List Frame) → (are_none_open fs && is_beginning k) ≡ false → statement_step k t ctx b fs wanted ≡ None
wanted_none k t ctx b [] h = outer_none k t ctx b h
wanted_none k t ctx b (f ∷ fs) h = inner_none k t ctx b f fs

-- behind what only some tokens may follow
pub pending_none : (k : Kind) (t : Token) (ctx : Context) (b : Bottom) (fs : List Frame) (w : Words) → statement_step k t ctx b fs (pending w) ≡ None
pending_none k t ctx (in_lead bare) [] w = nothing_ends k t ctx
pending_none k t ctx (in_lead bare) (f ∷ fs) w = nothing_ends k t ctx
pending_none k t ctx (in_lead (assigned n q)) [] w = nothing_ends k t ctx
pending_none k t ctx (in_lead (assigned n q)) (f ∷ fs) w = nothing_ends k t ctx
pending_none k t ctx (in_lead (updated n q)) fs w = nothing_ends k t ctx
pending_none k t ctx (in_lead (defined e q)) fs w = nothing_ends k t ctx
pending_none k t ctx (in_lead (defined_everywhere every s q)) fs w = nothing_ends k t ctx
pending_none k t ctx (in_lead (returned q)) fs w = nothing_ends k t ctx
pending_none k t ctx (in_header x h) fs w = nothing_ends k t ctx

-- ---- behind an operand

target_is : (k : Kind) (t : Token) (ctx : Context) (e : Syntax) (w : Whole) → is_assigning k ≡ false → target_step k t ctx e w ≡ ending_step k t ctx w
target_is Assign t ctx e w h = cc
target_is PlusAssign t ctx e w h = cc
target_is MinusAssign t ctx e w h = cc
target_is StarAssign t ctx e w h = cc
target_is k t ctx e w h = refl

-- what is no sign of an assignment ends the statement, or nothing
pub got_ends : (k : Kind) (t : Token) (ctx : Context) (b : Bottom) (fs : List Frame) (e : Syntax) → is_assigning k ≡ false →
    statement_step k t ctx b fs (got e) ≡ ending_step k t ctx (with_expression b (close 0 fs e))
got_ends k t ctx (in_lead bare) [] e h = target_is k t ctx e (whole_at (in_lead bare) [] (got e)) h
got_ends k t ctx (in_lead bare) (f ∷ fs) e h = refl
got_ends k t ctx (in_lead (assigned n q)) [] e h = refl
got_ends k t ctx (in_lead (assigned n q)) (f ∷ fs) e h = refl
got_ends k t ctx (in_lead (updated n q)) fs e h = refl
got_ends k t ctx (in_lead (defined x q)) fs e h = refl
got_ends k t ctx (in_lead (defined_everywhere every s q)) fs e h = refl
got_ends k t ctx (in_lead (returned q)) fs e h = refl
got_ends k t ctx (in_header x d) fs e h = refl

assigning_ends : (k : Kind) → is_assigning k ≡ true → is_ending k ≡ false
assigning_ends Semicolon h = cc
assigning_ends LineEnd h = cc
assigning_ends End h = cc
assigning_ends Elseif h = cc
assigning_ends Else h = cc
assigning_ends Catch h = cc
assigning_ends k h = refl

-- a sign of an assignment is no end
inner_assigning : (k : Kind) (t : Token) (ctx : Context) (b : Bottom) (f : Frame) (fs : List Frame) (e : Syntax) → is_ending k ≡ false → statement_step k t ctx b (f ∷ fs) (got e) ≡ None
inner_assigning k t ctx (in_lead bare) f fs e h = ending_none k t ctx (with_expression (in_lead bare) (close 0 (f ∷ fs) e)) h
inner_assigning k t ctx (in_lead (assigned n q)) f fs e h = ending_none k t ctx (with_expression (in_lead (assigned n q)) (close 0 (f ∷ fs) e)) h
inner_assigning k t ctx (in_lead (updated n q)) f fs e h = ending_none k t ctx (with_expression (in_lead (updated n q)) (close 0 (f ∷ fs) e)) h
inner_assigning k t ctx (in_lead (defined x q)) f fs e h = ending_none k t ctx (with_expression (in_lead (defined x q)) (close 0 (f ∷ fs) e)) h
inner_assigning k t ctx (in_lead (defined_everywhere every s q)) f fs e h = ending_none k t ctx (with_expression (in_lead (defined_everywhere every s q)) (close 0 (f ∷ fs) e)) h
inner_assigning k t ctx (in_lead (returned q)) f fs e h = ending_none k t ctx (with_expression (in_lead (returned q)) (close 0 (f ∷ fs) e)) h
inner_assigning k t ctx (in_header x d) f fs e h = ending_none k t ctx (with_expression (in_header x d) (close 0 (f ∷ fs) e)) h

-- where the expression alone takes a token
pub got_none : (k : Kind) (t : Token) (ctx : Context) (b : Bottom) (fs : List Frame) (e : Syntax) → is_ending k ≡ false → (are_none_open fs && is_assigning k) ≡ false → statement_step k t ctx b fs (got e) ≡ None
got_none k t ctx b [] e g h = got_ends k t ctx b [] e h ∙ ending_none k t ctx (with_expression b (close 0 [] e)) g
got_none k t ctx b (f ∷ fs) e g h = inner_assigning k t ctx b f fs e g

-- where the statement alone does
keyword_none : (t : Token) (e : Syntax) → at_keyword t [] e ≡ None
keyword_none t (leaf n) = refl
keyword_none t e = refl

pub assigning_none : (k : Kind) (t : Token) (e : Syntax) → is_assigning k ≡ true → have_step k t [] e ≡ None
assigning_none Assign t e h = keyword_none t e
assigning_none PlusAssign t e h = refl
assigning_none MinusAssign t e h = refl
assigning_none StarAssign t e h = refl
assigning_none k t e h = cc

-- an end of a statement ends what is open
pub ending_at : (k : Kind) (t : Token) (fs : List Frame) (e : Syntax) → is_ending k ≡ true → have_step k t fs e ≡ at_end k t (close 0 fs e)
ending_at Semicolon t fs e h = refl
ending_at LineEnd t fs e h = refl
ending_at End t fs e h = refl
ending_at Elseif t fs e h = refl
ending_at Else t fs e h = refl
ending_at Catch t fs e h = refl
ending_at k t fs e h = cc

pub ending_assigning : (k : Kind) → is_ending k ≡ true → is_assigning k ≡ false
ending_assigning Assign h = cc
ending_assigning PlusAssign h = cc
ending_assigning MinusAssign h = cc
ending_assigning StarAssign h = cc
ending_assigning k h = refl

-- behind another target nothing is assigned
pub header_assigning : (k : Kind) (t : Token) (ctx : Context) (b : Bottom) (e : Syntax) → is_bare b ≡ false → is_assigning k ≡ true → statement_step k t ctx b [] (got e) ≡ None
header_assigning k t ctx (in_lead bare) e g h = cc
header_assigning k t ctx (in_lead (assigned n q)) e g h = ending_none k t ctx (with_expression (in_lead (assigned n q)) ([], e)) (assigning_ends k h)
header_assigning k t ctx (in_lead (updated n q)) e g h = ending_none k t ctx (with_expression (in_lead (updated n q)) ([], e)) (assigning_ends k h)
header_assigning k t ctx (in_lead (defined x q)) e g h = ending_none k t ctx (with_expression (in_lead (defined x q)) ([], e)) (assigning_ends k h)
header_assigning k t ctx (in_lead (defined_everywhere every s q)) e g h = ending_none k t ctx (with_expression (in_lead (defined_everywhere every s q)) ([], e)) (assigning_ends k h)
header_assigning k t ctx (in_lead (returned q)) e g h = ending_none k t ctx (with_expression (in_lead (returned q)) ([], e)) (assigning_ends k h)
header_assigning k t ctx (in_header x d) e g h = ending_none k t ctx (with_expression (in_header x d) ([], e)) (assigning_ends k h)

-- ---- both together

-- where a statement takes nothing, the expression goes on or nothing does
pub either_goes : (x : Option State) (k : Kind) (t : Token) (ctx : Context) (b : Bottom) (s : State) → statement_step k t ctx b s.frames s.now ≡ None → goes x ctx b ≡ either x k t ctx b s
either_goes None k t ctx b s h = sym h
either_goes (Some d) k t ctx b s h = refl

-- where an expression takes nothing, the statement goes on
pub either_none : (x : Option State) (k : Kind) (t : Token) (ctx : Context) (b : Bottom) (s : State) → x ≡ None → statement_step k t ctx b s.frames s.now ≡ either x k t ctx b s
either_none None k t ctx b s h = refl
either_none (Some d) k t ctx b s h = cc

-- an end behind an operand where no construct is left open
pub outer_end : (k : Kind) (t : Token) (ctx : Context) (b : Bottom) (fs : List Frame) (e d : Syntax) → is_ending k ≡ true → ([], d) ≡ close 0 fs e →
    ending_step k t ctx (with_expression b ([], d)) ≡ either (have_step k t fs e) k t ctx b (have fs e)
outer_end k t ctx b fs e d h c =
    ap (λ r. ending_step k t ctx (with_expression b r)) c ∙ sym (got_ends k t ctx b fs e (ending_assigning k h))
    ∙ either_none (have_step k t fs e) k t ctx b (have fs e) (ending_at k t fs e h ∙ ap (at_end k t) (sym c))

-- and where one is
pub inner_end : (k : Kind) (t : Token) (ctx : Context) (b : Bottom) (fs : List Frame) (e : Syntax) (f : Frame) (gs : List Frame) (d : Syntax) → is_ending k ≡ true → (f ∷ gs, d) ≡ close 0 fs e →
    goes (at_end k t (f ∷ gs, d)) ctx b ≡ either (have_step k t fs e) k t ctx b (have fs e)
inner_end k t ctx b fs e f gs d h c =
    ap (λ x. goes x ctx b) (ap (at_end k t) c ∙ sym (ending_at k t fs e h))
    ∙ either_goes (have_step k t fs e) k t ctx b (have fs e)
    (got_ends k t ctx b fs e (ending_assigning k h) ∙ ap (λ r. ending_step k t ctx (with_expression b r)) (sym c) ∙ ap (ending_step k t ctx) (with_nothing b f gs d) ∙ nothing_ends k t ctx)

-- whether nothing is open
pub open_none : (fs : List Frame) → are_none_open fs ≡ true → fs ≡ []
open_none [] h = refl
open_none (f ∷ fs) h = cc

-- ---- what the code asks first

-- a statement begins, or the expression goes on
pub outer_begins : (k : Kind) (t : Token) (ctx : Context) (b : Bottom) (fs : List Frame) → (are_none_open fs && is_beginning k) ≡ true →
    statement_step k t ctx b [] wanted ≡ either (want_step k t fs) k t ctx b (want fs)
outer_begins k t ctx b [] h = either_none (want_step k t []) k t ctx b (want []) (want_none k t h)
outer_begins k t ctx b (f ∷ fs) h = cc

pub wanted_goes : (k : Kind) (t : Token) (ctx : Context) (b : Bottom) (fs : List Frame) → (are_none_open fs && is_beginning k) ≡ false →
    goes (want_step k t fs) ctx b ≡ either (want_step k t fs) k t ctx b (want fs)
wanted_goes k t ctx b fs h = either_goes (want_step k t fs) k t ctx b (want fs) (wanted_none k t ctx b fs h)

-- something is assigned, or the expression goes on
pub outer_assigns : (k : Kind) (t : Token) (ctx : Context) (b : Bottom) (fs : List Frame) (e : Syntax) → (are_none_open fs && is_assigning k) ≡ true →
    statement_step k t ctx b [] (got e) ≡ either (have_step k t fs e) k t ctx b (have fs e)
outer_assigns k t ctx b [] e h = either_none (have_step k t [] e) k t ctx b (have [] e) (assigning_none k t e h)
outer_assigns k t ctx b (f ∷ fs) e h = cc

pub got_goes : (k : Kind) (t : Token) (ctx : Context) (b : Bottom) (fs : List Frame) (e : Syntax) → is_ending k ≡ false → (are_none_open fs && is_assigning k) ≡ false →
    goes (have_step k t fs e) ctx b ≡ either (have_step k t fs e) k t ctx b (have fs e)
got_goes k t ctx b fs e g h = either_goes (have_step k t fs e) k t ctx b (have fs e) (got_none k t ctx b fs e g h)

-- behind what only some tokens may follow the expression goes on
pub pending_goes : (x : Option State) (k : Kind) (t : Token) (ctx : Context) (b : Bottom) (fs : List Frame) (w : Words) → goes x ctx b ≡ either x k t ctx b (await fs w)
pending_goes x k t ctx b fs w = either_goes x k t ctx b (await fs w) (pending_none k t ctx b fs w)

-- where only the expression takes a token, it goes on or nothing does
not_true : (a : Bool) → not a ≡ true → a ≡ false
not_true false h = refl
not_true true h = cc

both_false : (a b : Bool) → (not a && not b) ≡ true → (a ≡ false) × (b ≡ false)
both_false false false h = (refl, refl)
both_false false true h = cc
both_false true b h = cc

pub inner_goes : (t : Token) (ctx : Context) (b : Bottom) (fs : List Frame) (n : Now) → is_inner t.kind fs n ≡ true →
    goes (step_at t fs n) ctx b ≡ mode_step (at_expression b (record { frames = fs; now = n })) t ctx
inner_goes t ctx b fs wanted h = wanted_goes t.kind t ctx b fs (not_true (are_none_open fs && is_beginning t.kind) h)
inner_goes t ctx b fs (got e) h =
    let both = both_false (is_ending t.kind) (are_none_open fs && is_assigning t.kind) h in
    got_goes t.kind t ctx b fs e both.0 both.1
inner_goes t ctx b fs (pending w) h = pending_goes (words_step w t fs) t.kind t ctx b fs w

-- all is closed, or a construct is left open
pub outer_closed : (k : Kind) (t : Token) (ctx : Context) (b : Bottom) (fs : List Frame) (e : Syntax) (gs : List Frame) (d : Syntax) → is_ending k ≡ true → are_none_open gs ≡ true → (gs, d) ≡ close 0 fs e →
    ending_step k t ctx (with_expression b ([], d)) ≡ either (have_step k t fs e) k t ctx b (have fs e)
outer_closed k t ctx b fs e [] d h g c = outer_end k t ctx b fs e d h c
outer_closed k t ctx b fs e (f ∷ gs) d h g c = cc

pub inner_closed : (k : Kind) (t : Token) (ctx : Context) (b : Bottom) (fs : List Frame) (e : Syntax) (gs : List Frame) (d : Syntax) → is_ending k ≡ true → are_none_open gs ≡ false → (gs, d) ≡ close 0 fs e →
    goes (at_end k t (gs, d)) ctx b ≡ either (have_step k t fs e) k t ctx b (have fs e)
inner_closed k t ctx b fs e [] d h g c = cc
inner_closed k t ctx b fs e (f ∷ gs) d h g c = inner_end k t ctx b fs e f gs d h c
