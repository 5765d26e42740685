-- What has been read of an expression is what the state is written with, and each part of it is in the grammar.
use Rattle.std.proofs.Common.{ℕ, ◌≡◌, ◌≤◌, Bool, true, false, ◌&&◌, IsTrue, List, [], ◌∷◌, None, nat_le, if◌then◌else◌, refl, sym, ap, ◌∙◌, arith}
use Rattle.jd_grammar.specs.declared.token.Token.{Token}
use Rattle.jd_grammar.specs.declared.token.Word.TheVariants as word
use Rattle.jd_grammar.specs.declared.token.Kind.{Kind}
use Rattle.jd_grammar.specs.declared.token.Kind.TheVariants.{Number, Wide, Text, Name, True, False, Nothing, OrElse, AndAlso, Colon, SpawnAt, FetchFrom, Plus, Minus, Star, And, Or, Xor, Not, Complement, Question, Arrow, Assign, OpenParen, OpenBracket, OpenBrace}
use Rattle.jd_grammar.specs.Kinds.{is_leaf, is_least, is_name, is_number, is_unary, is_minus, is_argument, is_spawn, strength, left, stands, is_word}
use Rattle.jd_grammar.specs.Grammar.{Syntax, leaf, sign, ending, bracket, unary, binary, lambda, keyword, grouped, called, itemed, none, nothing, put, are_parameters, is_tight, IsAt}
use Rattle.jd_grammar.specs.Rows.{is_chain, first_of, cells_of, with_cell, are_begun}
use Rattle.jd_grammar.specs.Frames.{spawning, rows, Fixed, in_bracket, in_middle, in_group, in_generator, in_size, in_place, Frame, open_end, fixed, Words, operator, atoms, minus, generator_name, generator_in, element_type, type_end, size_begin, place_begin, Now, wanted, got, pending, State, want, have, await, demand, demand_of, ranges, ranges_in, negated}
use Rattle.jd_grammar.specs.Machine.{close, want_end, spawn_step, wide_step, want_step, at_binary, at_question, at_arrow, at_keyword, at_brace, fixed_step, at_end, have_more, have_step, words_step, step_at, step}
use Rattle.jd_grammar.proofs.Invariant.{put_frames, put_state, IsFixed, AreFrames, IsState, IsStep, MayStep, may_if, both}
use Rattle.jd_grammar.proofs.Close.{le_of, weaken, demand_le, close_put, IsClosed, closed}
use Rattle.jd_grammar.proofs.RowSplit.{put_with_cell, split, minus_of, tight_leaf}
use Rattle.jd_grammar.proofs.BracketSteps.{Stand, committed, bracket_ok, want_end_ok, operator_ok}
use Rattle.jd_grammar.proofs.PartSteps.{middle_ok, group_ok, atoms_ok, minus_ok, generator_ok, generator_name_ok, generator_in_ok, element_type_ok, type_end_ok, size_begin_ok, size_ok, place_begin_ok, place_ok}
use Rattle.jd_grammar.proofs.Absurd.{no}

-- ---- where an operand is wanted

leaf_ok : (t : Token) (fs : List Frame) → IsState (want fs) → is_leaf t.kind ≡ true → IsStep t (want fs) (have fs (leaf t))
leaf_ok t fs w k = record { state = record { frames = w.frames; now = ap (λ b. if b then true else negated fs && is_least t.kind t.spaced) k }; tokens = λ rest. refl }

or_least : (a b : Bool) → b ≡ true → (if a then true else b) ≡ true
or_least true b h = refl
or_least false b h = h

-- the number fixes the bracket as a matrix
wide_cell : (t m : Token) (l : Syntax) (o : Token) (fs : List Frame) → IsState (want (open_end (binary l m) ∷ (fixed (in_bracket itemed o none) ∷ fs)))
    → MayStep t (want (open_end (binary l m) ∷ (fixed (in_bracket itemed o none) ∷ fs))) (wide_step t (open_end (binary l m) ∷ (fixed (in_bracket itemed o none) ∷ fs)))
wide_cell t m l o fs w =
    may_if t (want (open_end (binary l m) ∷ (fixed (in_bracket itemed o none) ∷ fs))) (await fs (atoms (rows o (first_of l) (with_cell (cells_of l) None (ending (unary m) (leaf t))) None)))
    (((is_minus m.kind && m.spaced) && (is_least t.kind t.spaced && is_chain l)) && are_begun (with_cell (cells_of l) None (ending (unary m) (leaf t)))) (λ h.
    let a = both ((is_minus m.kind && m.spaced) && (is_least t.kind t.spaced && is_chain l)) (are_begun (with_cell (cells_of l) None (ending (unary m) (leaf t)))) h in
    let b = both (is_minus m.kind && m.spaced) (is_least t.kind t.spaced && is_chain l) a.0 in
    let c = both (is_minus m.kind) m.spaced b.0 in
    let d = both (is_least t.kind t.spaced) (is_chain l) b.1 in
    let p = split l true false (left m.kind) d.1 w.frames.0.2 in
    let k = minus_of m.kind c.0 in
    let g : is_tight t ≡ true = least_tight t.kind t.spaced d.0 in
    record {
      state = record { frames = w.frames.2.1; now = committed o l None (ending (unary m) (leaf t)) fs w.frames.2.0.1 p (tight_leaf m t k g) (ap (λ x. is_minus x && is_tight t) k ∙ g) c.1 a.1 };
      tokens = λ rest. ap (λ ts. put_frames fs (o ∷ put (first_of l) ts)) (put_with_cell (cells_of l) None (ending (unary m) (leaf t)) rest)
          ∙ ap (λ ts. put_frames fs (o ∷ ts)) (sym (p.tokens (m ∷ t ∷ rest)));
    })
  where
    least_tight : (k : Kind) (b : Bool) → is_least k b ≡ true → (if b then false else (if is_number k then true else is_least k b)) ≡ true
    least_tight (Wide g) false h = h
    least_tight (Wide true) true h = no h
    least_tight (Wide false) true h = no h
    least_tight _ b h = no h

wide_ok : (t : Token) (fs : List Frame) → IsState (want fs) → MayStep t (want fs) (wide_step t fs)
wide_ok t (open_end (binary l m) ∷ (fixed (in_bracket itemed o none) ∷ fs)) w = wide_cell t m l o fs w
wide_ok t fs w = may_if t (want fs) (have fs (leaf t)) (negated fs && is_least t.kind t.spaced) (λ h.
    record { state = record { frames = w.frames; now = or_least (is_leaf t.kind) (negated fs && is_least t.kind t.spaced) h }; tokens = λ rest. refl })

unary_ok : (t : Token) (fs : List Frame) → IsState (want fs) → IsTrue (is_unary t.kind) → IsStep t (want fs) (want (open_end (unary t) ∷ fs))
unary_ok t fs w k = record { state = record { frames = (k, demand_le fs, w.frames); now = tt }; tokens = λ rest. refl }

spawn_ok : (t : Token) (fs : List Frame) → IsState (want fs) → IsTrue (is_spawn t.kind) → MayStep t (want fs) (spawn_step t fs)
spawn_ok t fs w k = may_if t (want fs) (await fs (atoms (spawning t))) (nat_le (demand fs) 1) (λ h.
    record { state = record { frames = w.frames; now = (k, le_of (demand fs) 1 h) }; tokens = λ rest. refl })

want_ok : (t : Token) (fs : List Frame) → IsState (want fs) → MayStep t (want fs) (want_step t.kind t fs)
want_ok t fs w = elim t.kind as (λ k. t.kind ≡ k → MayStep t (want fs) (want_end k t fs) → MayStep t (want fs) (want_step k t fs)) [
  | Number n ↦ λ k z. leaf_ok t fs w (ap is_leaf k)
  | Text n ↦ λ k z. leaf_ok t fs w (ap is_leaf k)
  | Name n ↦ λ k z. leaf_ok t fs w (ap is_leaf k)
  | True ↦ λ k z. leaf_ok t fs w (ap is_leaf k)
  | False ↦ λ k z. leaf_ok t fs w (ap is_leaf k)
  | Nothing ↦ λ k z. leaf_ok t fs w (ap is_leaf k)
  | Wide b ↦ λ k z. wide_ok t fs w
  | Plus ↦ λ k z. unary_ok t fs w (ap is_unary k)
  | Minus ↦ λ k z. unary_ok t fs w (ap is_unary k)
  | Not ↦ λ k z. unary_ok t fs w (ap is_unary k)
  | Complement ↦ λ k z. unary_ok t fs w (ap is_unary k)
  | Star ↦ λ k z. operator_ok t fs w (ap is_argument k)
  | And ↦ λ k z. operator_ok t fs w (ap is_argument k)
  | Or ↦ λ k z. operator_ok t fs w (ap is_argument k)
  | Xor ↦ λ k z. operator_ok t fs w (ap is_argument k)
  | OpenParen ↦ λ k z. record { state = record { frames = ((tt, k, tt), w.frames); now = tt }; tokens = λ rest. refl }
  | OpenBracket ↦ λ k z. record { state = record { frames = ((tt, k, tt), w.frames); now = tt }; tokens = λ rest. refl }
  | SpawnAt ↦ λ k z. spawn_ok t fs w (ap is_spawn k)
  | FetchFrom ↦ λ k z. spawn_ok t fs w (ap is_spawn k)
  | _ ↦ λ k z. z
] refl (want_end_ok t fs w)

-- ---- behind an operand

fixed_ok : (s : State) (f : Fixed) (t : Token) (fs : List Frame) (e : Syntax) → IsFixed fs f → AreFrames fs → IsAt (ranges_in f) false (demand_of f) e
    → Stand s t f fs e → MayStep t s (fixed_step f t.kind t fs e)
fixed_ok s (in_bracket b o es) t fs e w v u h = bracket_ok s b o es t fs e w v u h
fixed_ok s (in_middle c q) t fs e w v u h = middle_ok s c q t fs e w v u h
fixed_ok s (in_group hold p) t fs e w v u h = group_ok s hold p t fs e w v u h
fixed_ok s (in_generator o x gens f n i) t fs e w v u h = generator_ok s o x gens f n i t fs e w v u h
fixed_ok s (in_size c type shut o) t fs e w v u h = size_ok s c type shut o t fs e w v u h
fixed_ok s (in_place c type shut o size closes comma) t fs e w v u h = place_ok s c type shut o size closes comma t fs e w v u h

-- what closing leaves stands where the state's last tokens do
abbrev Stands : State → List Frame × Syntax → Type 0
Stands s r = (rest : List Token) → put_frames r.0 (put r.1 rest) ≡ put_state s rest

end_ok : (s : State) (p : ℕ) (gs : List Frame) (t : Token) (r : List Frame × Syntax) → IsClosed p gs r → Stands s r → MayStep t s (at_end t.kind t r)
end_ok s p gs t ([], e) c h = tt
end_ok s p gs t (open_end d ∷ fs, e) c h = tt
end_ok s p gs t (fixed f ∷ fs, e) c h =
    fixed_ok s f t fs e c.frames.0 c.frames.1 (weaken (ranges_in f) false c.level (demand_of f) e c.fits c.operand) (λ rest. h (t ∷ rest))

binary_ok : (s : State) (gs : List Frame) (t : Token) (r : List Frame × Syntax) → IsClosed (left t.kind) gs r → Stands s r → 1 ≤ strength t.kind → stands t.kind (ranges gs) ≡ true
    → MayStep t s (at_binary t r)
binary_ok s gs t (fs, e) c h k b = may_if t s (want (open_end (binary e t) ∷ fs)) (nat_le (demand fs) (strength t.kind)) (λ d.
    record {
      state = record { frames = ((k, ap (stands t.kind) c.same ∙ b, weaken (ranges fs) (negated fs) c.level (left t.kind) e c.bound c.operand), le_of (demand fs) (strength t.kind) d, c.frames); now = tt };
      tokens = λ rest. h (t ∷ rest);
    })

question_ok : (s : State) (gs : List Frame) (t : Token) (r : List Frame × Syntax) → IsClosed 3 gs r → Stands s r → t.kind ≡ Question → MayStep t s (at_question t r)
question_ok s gs t (fs, e) c h k = may_if t s (want (fixed (in_middle e t) ∷ fs)) (nat_le (demand fs) 2) (λ d.
    record { state = record { frames = ((weaken (ranges fs) (negated fs) c.level 3 e c.bound c.operand, k, le_of (demand fs) 2 d), c.frames); now = tt }; tokens = λ rest. h (t ∷ rest) })

arrow_ok : (t : Token) (fs : List Frame) (e : Syntax) → IsState (have fs e) → t.kind ≡ Arrow → MayStep t (have fs e) (at_arrow t fs e)
arrow_ok t fs e w k = may_if t (have fs e) (want (open_end (lambda e t) ∷ fs)) (nat_le (demand fs) 1 && are_parameters e) (λ h.
    let b = both (nat_le (demand fs) 1) (are_parameters e) h in
    record { state = record { frames = ((w.now, b.1, k), le_of (demand fs) 1 b.0, w.frames); now = tt }; tokens = λ rest. refl })

keyword_ok : (t : Token) (fs : List Frame) (e : Syntax) → IsState (have fs e) → t.kind ≡ Assign → MayStep t (have fs e) (at_keyword t fs e)
keyword_ok t fs (leaf n) w k = may_if t (have fs (leaf n)) (want (open_end (keyword n t) ∷ fs)) (nat_le (demand fs) 0 && is_name n.kind) (λ h.
    let b = both (nat_le (demand fs) 0) (is_name n.kind) h in
    record { state = record { frames = ((b.1, k), le_of (demand fs) 0 b.0, w.frames); now = tt }; tokens = λ rest. refl })
keyword_ok t fs _ w k = tt

brace_ok : (t : Token) (fs : List Frame) (e : Syntax) → IsState (have fs e) → t.kind ≡ OpenBrace → MayStep t (have fs e) (at_brace t fs e)
brace_ok t (open_end (lambda (bracket grouped l none nothing r) a) ∷ (fixed (in_bracket (called (leaf f)) o none) ∷ fs)) (leaf n) w k =
    may_if t (have (open_end (lambda (bracket grouped l none nothing r) a) ∷ (fixed (in_bracket (called (leaf f)) o none) ∷ fs)) (leaf n))
    (await fs (element_type (record { callee = f; opens = o; none_opens = l; none_closes = r; arrow = a; word = n; brace = t })))
    (is_word word.RemoteChannel f.kind && is_word word.Channel n.kind) (λ h.
    let b = both (is_word word.RemoteChannel f.kind) (is_word word.Channel n.kind) h in
    let l = w.frames.0 in
    let c = w.frames.2 in
    record { state = record { frames = c.1; now = (b.0, c.0.1, l.0.1, l.0.4, l.2, b.1, k) }; tokens = λ rest. refl })
brace_ok t _ _ w k = tt

more_ok : (t : Token) (fs : List Frame) (e : Syntax) → IsState (have fs e) → MayStep t (have fs e) (have_more t.kind t fs e)
more_ok t fs e w = elim t.kind as (λ k. t.kind ≡ k → MayStep t (have fs e) (at_end k t (close 0 fs e)) → MayStep t (have fs e) (have_more k t fs e)) [
  | OpenParen ↦ λ k z. record { state = record { frames = ((w.now, k, tt), w.frames); now = tt }; tokens = λ rest. refl }
  | OpenBracket ↦ λ k z. record { state = record { frames = ((w.now, k, tt), w.frames); now = tt }; tokens = λ rest. refl }
  | OpenBrace ↦ λ k z. brace_ok t fs e w k
  | Arrow ↦ λ k z. arrow_ok t fs e w k
  | Assign ↦ λ k z. keyword_ok t fs e w k
  | Question ↦ λ k z. question_ok (have fs e) fs t (close 3 fs e) (closed 3 fs e (omega arith) w) (close_put 3 fs e) k
  | _ ↦ λ k z. z
] refl (end_ok (have fs e) 0 fs t (close 0 fs e) (closed 0 fs e (omega arith) w) (close_put 0 fs e))

left_le : (k : Kind) → left k ≤ 9
left_le OrElse = omega arith
left_le AndAlso = omega arith
left_le Colon = omega arith
left_le Plus = omega arith
left_le Star = omega arith
left_le _ = omega arith

have_ok : (t : Token) (fs : List Frame) (e : Syntax) → IsState (have fs e) → MayStep t (have fs e) (have_step t.kind t fs e)
have_ok t fs e w =
    elim (nat_le 1 (strength t.kind)) as (λ b. nat_le 1 (strength t.kind) ≡ b → MayStep t (have fs e)
    (if b then (if stands t.kind (ranges fs) then at_binary t (close (left t.kind) fs e) else at_end t.kind t (close 0 fs e)) else have_more t.kind t fs e)) [
      | true ↦ λ k. elim (stands t.kind (ranges fs)) as (λ b. stands t.kind (ranges fs) ≡ b → MayStep t (have fs e) (if b then at_binary t (close (left t.kind) fs e) else at_end t.kind t (close 0 fs e))) [
        | true ↦ λ h. binary_ok (have fs e) fs t (close (left t.kind) fs e) (closed (left t.kind) fs e (left_le t.kind) w) (close_put (left t.kind) fs e) (le_of 1 (strength t.kind) k) h
        | false ↦ λ h. end_ok (have fs e) 0 fs t (close 0 fs e) (closed 0 fs e (omega arith) w) (close_put 0 fs e)
      ] refl
      | false ↦ λ k. more_ok t fs e w
    ] refl

-- ---- a step

sign_ok : (s t : Token) (fs : List Frame) → IsState (await fs (operator s)) → MayStep t (await fs (operator s)) (words_step (operator s) t fs)
sign_ok s t (fixed (in_bracket (called f) o es) ∷ fs) w =
    bracket_ok (await (fixed (in_bracket (called f) o es) ∷ fs) (operator s)) (called f) o es t fs (sign s) w.frames.0 w.frames.1 (omega arith, w.now.0) (λ rest. refl)
sign_ok s t _ w = tt

words_ok : (x : Words) (t : Token) (fs : List Frame) → IsState (await fs x) → MayStep t (await fs x) (words_step x t fs)
words_ok (operator s) t fs w = sign_ok s t fs w
words_ok (atoms hold) t fs w = atoms_ok hold t fs w.now w.frames
words_ok (minus hold m) t fs w = minus_ok hold m t fs w.now w.frames
words_ok (generator_name o x gens f) t fs w = generator_name_ok o x gens f t fs w.now w.frames
words_ok (generator_in o x gens f n) t fs w = generator_in_ok o x gens f n t fs w.now w.frames
words_ok (element_type c) t fs w = element_type_ok c t fs w.now w.frames
words_ok (type_end c type) t fs w = type_end_ok c type t fs w.now w.frames
words_ok (size_begin c type shut) t fs w = size_begin_ok c type shut t fs w.now w.frames
words_ok (place_begin c type shut o size closes) t fs w = place_begin_ok c type shut o size closes t fs w.now w.frames

step_at_ok : (t : Token) (fs : List Frame) (n : Now) → IsState (record { frames = fs; now = n }) → MayStep t (record { frames = fs; now = n }) (step_at t fs n)
step_at_ok t fs wanted w = want_ok t fs w
step_at_ok t fs (got e) w = have_ok t fs e w
step_at_ok t fs (pending x) w = words_ok x t fs w

pub step_ok : (t : Token) (s : State) → IsState s → MayStep t s (step t s)
step_ok t s w = step_at_ok t s.frames s.now w
