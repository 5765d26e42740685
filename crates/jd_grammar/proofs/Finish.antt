-- Some end makes an expression of what was read.
use Rattle.std.proofs.Common.{ℕ, zero, suc, ◌≡◌, ◌≤◌, true, false, ◌&&◌, not, IsTrue, List, [], ◌∷◌, Some, None, nat_le, if◌then◌else◌, refl, sym, ap, ◌∙◌, arith}
use Rattle.jd_grammar.specs.declared.token.Token.{Token}
use Rattle.jd_grammar.specs.declared.token.Kind.{Kind}
use Rattle.jd_grammar.specs.declared.token.Kind.TheVariants.{Number, Comma, For, In, CloseParen, OpenBracket, CloseBracket}
use Rattle.jd_grammar.specs.Kinds.{is_minus, is_unary, is_argument}
use Rattle.jd_grammar.specs.Grammar.{Syntax, leaf, sign, ending, bracket, matrix, comprehension, unary, Bracket, grouped, called, itemed, indexed, Cells, Items, none, more, just, Generators, put, put_bracket, put_cells, put_items, item_level, touches, is_atom, is_spaced, is_row, are_many, is_full, AreCells, level, is_negation, IsAt}
use Rattle.jd_grammar.specs.Frames.{Hold, spawning, rows, Fixed, in_bracket, in_middle, in_group, in_generator, in_size, in_place, Frame, open_end, fixed, Words, operator, atoms, minus, generator_name, generator_in, element_type, type_end, size_begin, place_begin, Now, wanted, got, pending, State, want, await, demand, demand_of, ranges, ranges_in, negated}
use Rattle.jd_grammar.specs.Rows.{is_chain, with_cell, first_of, cells_of}
use Rattle.jd_grammar.specs.Machine.{takes, with_generator}
use Rattle.jd_grammar.specs.Shortest.{token, zero_leaf, zero_token, fill, zeros, missing, filled_rows, rows_rest, held, held_end, shut_row, shut_bracket, row_rest, bracket_rest, shut, shut_end, wrap, closing, Ready, zero_ready, sign_ready, depth_of, want_ready, a_name, atoms_ready, words_ready, now_ready, whole, to_end}
use Rattle.jd_grammar.proofs.Invariant.{put_hold, put_fixed, put_frames, put_state, IsHold, IsFixed, AreFrames, IsCall, IsWords, IsNow, IsState, both}
use Rattle.jd_grammar.proofs.Close.{weaken, demand_le, touches_of}
use Rattle.jd_grammar.proofs.RowFacts.{many_with_cell, fill_full, go_on_begun}
use Rattle.jd_grammar.proofs.RowSplit.{put_with_cell, are_with_cell, split, row_chain}
use Rattle.jd_grammar.proofs.PartSteps.{added, put_with_generator, are_with_generator, count_with_generator}

-- ---- rows that are filled with zeros

put_fill : (n : ℕ) (cells : Cells) (rest : List Token) → put_cells (fill n cells) rest ≡ put_cells cells (zeros n rest)
put_fill zero cells rest = refl
put_fill (suc n) cells rest = put_fill n (with_cell cells None (leaf zero_token)) rest ∙ put_with_cell cells None (leaf zero_token) (zeros n rest)

are_filled : (n : ℕ) (cells : Cells) → AreCells cells → AreCells (fill n cells)
are_filled zero cells w = w
are_filled (suc n) cells w = are_filled n (with_cell cells None (leaf zero_token)) (are_with_cell cells None (leaf zero_token) w refl refl refl)

many_filled : (n : ℕ) (cells : Cells) → IsTrue (are_many cells) → IsTrue (are_many (fill n cells))
many_filled zero cells h = h
many_filled (suc n) cells h = many_filled n (with_cell cells None (leaf zero_token)) (many_with_cell cells None (leaf zero_token))

rows_stand : (o : Token) (x : Syntax) (cells : Cells) (fs : List Frame) → IsHold fs (rows o x cells None) → IsAt true false 10 (filled_rows o x cells)
rows_stand o x cells fs w = (w.0, w.1, w.2, are_filled (missing cells) cells w.3, many_filled (missing cells) cells w.6, fill_full cells w.4 w.5, refl)

rows_put : (o : Token) (x : Syntax) (cells : Cells) (rest : List Token) → put (filled_rows o x cells) rest ≡ o ∷ put x (put_cells cells (rows_rest cells rest))
rows_put o x cells rest = ap (λ ts. o ∷ put x ts) (put_fill (missing cells) cells (token CloseBracket ∷ rest))

-- ---- it is in the grammar, and written with those tokens

held_put : (hold : Hold) (a : Syntax) (rest : List Token) → put (held hold a) rest ≡ put_hold hold (put a (held_end hold a rest))
held_put (spawning s) a rest = refl
held_put (rows o x cells q) a rest = rows_put o x (with_cell cells q a) rest ∙ ap (λ ts. o ∷ put x ts) (put_with_cell cells q a (rows_rest (with_cell cells q a) rest))

-- a first element that is a row, closed
row_put : (o : Token) (e : Syntax) (rest : List Token) → is_chain e ≡ true → IsAt true false 1 e → put (shut_row o e) rest ≡ o ∷ put e (row_rest e rest)
row_put o e rest h w = elim (is_full (cells_of e)) as (λ b. put (if b then matrix o (first_of e) (cells_of e) (token CloseBracket) else bracket itemed o (more e (token Comma) none) (just zero_leaf) (token CloseBracket)) rest
    ≡ o ∷ put e (if b then token CloseBracket ∷ rest else token Comma ∷ token (Number 0) ∷ token CloseBracket ∷ rest)) [
      | true ↦ ap (λ ts. o ∷ ts) (sym ((split e true false 1 h w).tokens (token CloseBracket ∷ rest)))
      | false ↦ refl
    ]

bracket_put : (b : Bracket) (o : Token) (es : Items) (e : Syntax) (rest : List Token) → IsAt true false (item_level b) e → put (shut_bracket b o es e) rest ≡ put_bracket b (o ∷ put_items es (put e (bracket_rest b es e rest)))
bracket_put itemed o none e rest w = elim (is_row e) as (λ x. is_row e ≡ x → put (if not x then bracket itemed o none (just e) (token CloseBracket) else shut_row o e) rest ≡ o ∷ put e (if not x then token CloseBracket ∷ rest else row_rest e rest)) [
  | true ↦ λ r. row_put o e rest (row_chain e r).0 w
  | false ↦ λ r. refl
] refl
bracket_put grouped o es e rest w = refl
bracket_put (called f) o es e rest w = refl
bracket_put itemed o (more _ _ _) e rest w = refl
bracket_put (indexed f) o es e rest w = refl

shut_put : (f : Fixed) (e : Syntax) (rest : List Token) → IsAt (ranges_in f) false (demand_of f) e → put (shut f e) rest ≡ put_fixed f (put e (shut_end f e rest))
shut_put (in_bracket b o es) e rest w = bracket_put b o es e rest w
shut_put (in_middle c q) e rest w = refl
shut_put (in_group hold p) e rest w = held_put hold (bracket grouped p none (just e) (token CloseParen)) rest
shut_put (in_generator o x gens t n i) e rest w = ap (λ ts. o ∷ put x ts) (put_with_generator gens t n i e (token CloseBracket ∷ rest))
shut_put (in_size c type z o) e rest w = refl
shut_put (in_place c type z o size p comma) e rest w = refl

tight_touches : (e : Syntax) (k : Kind) → IsTrue (touches e (token k))
tight_touches (sign t) k = refl
tight_touches _ k = refl

-- an expression that may stand in the frames
pub record Stands (fs : List Frame) (e : Syntax) : Type 0 where
  pub level : ℕ
  pub fits : demand fs ≤ level
  pub operand : IsAt (ranges fs) (negated fs) level e

held_ok : (hold : Hold) (p : Token) (a : Syntax) (fs : List Frame) → IsHold fs hold → IsTrue (takes hold p) → IsAt true false 9 a → IsTrue (is_atom a) → is_spaced a ≡ p.spaced → Stands fs (held hold a)
held_ok (spawning s) p a fs w h u i z = record { level = 1; fits = w.1; operand = (omega arith, (w.0, u, i), refl) }
held_ok (rows o x cells q) p a fs w h u i z = record { level = 10; fits = omega (arith, demand_le fs); operand = rows_stand o x (with_cell cells q a) fs (added o x cells q p a fs w h u i z) }

row_ok : (o : Token) (e : Syntax) (fs : List Frame) → o.kind ≡ OpenBracket → IsAt true false 1 e → is_row e ≡ true → Stands fs (shut_row o e)
row_ok o e fs k u r =
    let c = row_chain e r in
    let p = split e true false 1 c.0 u in
    elim (is_full (cells_of e)) as (λ b. is_full (cells_of e) ≡ b → Stands fs (if b then matrix o (first_of e) (cells_of e) (token CloseBracket) else bracket itemed o (more e (token Comma) none) (just zero_leaf) (token CloseBracket))) [
      | true ↦ λ f. record { level = 10; fits = omega (arith, demand_le fs); operand = (k, p.first, p.atom refl, p.cells, c.1, f, refl) }
      | false ↦ λ f. record { level = 10; fits = omega (arith, demand_le fs); operand = (tt, k, (u, refl, touches_of true false 1 e (token Comma) u (omega arith), tt), refl, refl, refl, refl) }
    ] refl

bracket_ok : (b : Bracket) (o : Token) (es : Items) (e : Syntax) (fs : List Frame) → IsFixed fs (in_bracket b o es) → IsAt true false (item_level b) e → Stands fs (shut_bracket b o es e)
bracket_ok itemed o none e fs w u = elim (is_row e) as (λ x. is_row e ≡ x → Stands fs (if not x then bracket itemed o none (just e) (token CloseBracket) else shut_row o e)) [
  | true ↦ λ r. row_ok o e fs w.1 u r
  | false ↦ λ r. record { level = 10; fits = omega (arith, demand_le fs); operand = (tt, w.1, tt, u, refl, ap not r, tight_touches e CloseBracket) }
] refl
bracket_ok grouped o es e fs w u = record { level = 10; fits = omega (arith, demand_le fs); operand = (w.0, w.1, w.2, u, refl, refl, tight_touches e CloseParen) }
bracket_ok (called f) o es e fs w u = record { level = 10; fits = omega (arith, demand_le fs); operand = (w.0, w.1, w.2, u, refl, refl, tight_touches e CloseParen) }
bracket_ok itemed o (more x c es) e fs w u = record { level = 10; fits = omega (arith, demand_le fs); operand = (w.0, w.1, w.2, u, refl, refl, tight_touches e CloseBracket) }
bracket_ok (indexed f) o es e fs w u = record { level = 10; fits = omega (arith, demand_le fs); operand = (w.0, w.1, w.2, u, refl, refl, tight_touches e CloseBracket) }

gathered : (o : Token) (x : Syntax) (gens : Generators) (t n i : Token) (e : Syntax) (fs : List Frame) → IsFixed fs (in_generator o x gens t n i) → IsAt true false 1 e
    → IsAt true false 10 (comprehension o x (with_generator gens t n i e) (token CloseBracket))
gathered o x gens t n i e fs w u =
    let c = count_with_generator gens t n i e in
    (w.0.0, w.0.1, are_with_generator For gens t n i e w.0.2 w.0.4 w.1 w.2 u, omega (arith, c), omega (arith, c, w.0.3), refl)

shut_ok : (f : Fixed) (e : Syntax) (fs : List Frame) → IsFixed fs f → IsAt (ranges_in f) false (demand_of f) e → Stands fs (shut f e)
shut_ok (in_bracket b o es) e fs w u = bracket_ok b o es e fs w u
shut_ok (in_middle c q) e fs w u = record { level = 2; fits = w.2; operand = (omega arith, (w.0, w.1, u, refl), refl) }
shut_ok (in_group hold p) e fs w u = held_ok hold p (bracket grouped p none (just e) (token CloseParen)) fs w.0 w.2 (tt, w.1, tt, u, refl, refl, tight_touches e CloseParen) refl refl
shut_ok (in_generator o x gens t n i) e fs w u = record { level = 10; fits = omega (arith, demand_le fs); operand = gathered o x gens t n i e fs w u }
shut_ok (in_size c type z o) e fs w u = record { level = 10; fits = omega (arith, demand_le fs); operand = (w.0.0, w.0.1, w.1, w.2, u, refl, refl, refl, refl) }
shut_ok (in_place c type z o size p comma) e fs w u = record { level = 10; fits = omega (arith, demand_le fs); operand = (w.0.0.0, w.0.0.1, w.0.1, w.0.2, w.1, w.2, w.3, u, refl) }

pub wrap_put : (n : ℕ) (fs : List Frame) (e : Syntax) (rest : List Token) → AreFrames fs → IsAt (ranges fs) (negated fs) n e → demand fs ≤ n → put (wrap fs e) rest ≡ put_frames fs (put e (closing fs e rest))
wrap_put n [] e rest w u d = refl
wrap_put n (open_end h ∷ fs) e rest w u d = wrap_put (level h) fs (ending h e) rest w.2 (omega arith, w.0, weaken (ranges fs) (is_negation h) n _ e d u) w.1
wrap_put n (fixed f ∷ fs) e rest w u d =
    let v = weaken (ranges_in f) false n (demand_of f) e d u in
    let s = shut_ok f e fs w.0 v in
    wrap_put s.level fs (shut f e) rest w.1 s.operand s.fits ∙ ap (put_frames fs) (shut_put f e (closing fs (shut f e) rest) v)

pub wrap_ok : (n : ℕ) (fs : List Frame) (e : Syntax) → AreFrames fs → IsAt (ranges fs) (negated fs) n e → demand fs ≤ n → IsAt true false 1 (wrap fs e)
wrap_ok n [] e w u d = weaken true false n 1 e d u
wrap_ok n (open_end h ∷ fs) e w u d = wrap_ok (level h) fs (ending h e) w.2 (omega arith, w.0, weaken (ranges fs) (is_negation h) n _ e d u) w.1
wrap_ok n (fixed f ∷ fs) e w u d =
    let s = shut_ok f e fs w.0 (weaken (ranges_in f) false n (demand_of f) e d u) in
    wrap_ok s.level fs (shut f e) w.1 s.operand s.fits

pub record IsReady (s : State) (r : Ready) : Type 0 where
  pub frames : AreFrames r.frames
  pub stands : Stands r.frames r.operand
  pub tokens : (rest : List Token) → put_frames r.frames (put r.operand rest) ≡ put_state s (r.ahead rest)

zero_stands : (fs : List Frame) → Stands fs zero_leaf
zero_stands fs = record { level = 10; fits = omega (arith, demand_le fs); operand = refl }

sign_ok : (s : State) (f : Syntax) (o : Token) (es : Items) (t : Token) (fs : List Frame) → AreFrames (fixed (in_bracket (called f) o es) ∷ fs) → is_argument t.kind ≡ true
    → ((rest : List Token) → put_frames fs (put_fixed (in_bracket (called f) o es) (t ∷ rest)) ≡ put_state s rest) → IsReady s (sign_ready f o es t fs)
sign_ok s f o es t fs w k h = record {
  frames = w.1;
  stands = record { level = 10; fits = omega (arith, demand_le fs); operand = (w.0.0, w.0.1, w.0.2, (omega arith, k), refl, refl, refl) };
  tokens = λ rest. h (token CloseParen ∷ rest);
}

zero_ok : (fs : List Frame) → AreFrames fs → IsReady (want fs) (zero_ready fs)
zero_ok fs w = record { frames = w; stands = zero_stands fs; tokens = λ rest. refl }

want_ok : (fs : List Frame) → AreFrames fs → IsReady (want fs) (want_ready fs)
want_ok (open_end (unary s) ∷ (fixed (in_bracket (called f) o es) ∷ fs)) w =
    let gs = open_end (unary s) ∷ (fixed (in_bracket (called f) o es) ∷ fs) in
    let c = is_argument s.kind && nat_le (depth_of (sign_ready f o es s fs)) (depth_of (zero_ready (open_end (unary s) ∷ (fixed (in_bracket (called f) o es) ∷ fs)))) in
    elim c as (λ b. c ≡ b → IsReady (want gs) (if b then sign_ready f o es s fs else zero_ready gs)) [
      | true ↦ λ k. sign_ok (want gs) f o es s fs w.2 (both (is_argument s.kind) (nat_le (depth_of (sign_ready f o es s fs)) (depth_of (zero_ready (open_end (unary s) ∷ (fixed (in_bracket (called f) o es) ∷ fs))))) k).0 (λ rest. refl)
      | false ↦ λ k. zero_ok gs w
    ] refl
want_ok fs w = zero_ok fs w

atoms_ok : (hold : Hold) (fs : List Frame) → AreFrames fs → IsHold fs hold → IsReady (await fs (atoms hold)) (atoms_ready hold fs)
atoms_ok (spawning s) fs w v = record { frames = w; stands = held_ok (spawning s) (token (Number 0)) zero_leaf fs v refl refl refl refl; tokens = λ rest. refl }
atoms_ok (rows o x cells None) fs w v = record {
  frames = w;
  stands = record { level = 10; fits = omega (arith, demand_le fs); operand = rows_stand o x cells fs v };
  tokens = λ rest. ap (put_frames fs) (rows_put o x cells rest);
}
atoms_ok (rows o x cells (Some t)) fs w v = record {
  frames = w;
  stands = held_ok (rows o x cells (Some t)) (token (Number 0)) zero_leaf fs v (go_on_begun cells t zero_leaf v.6.1) refl refl refl;
  tokens = λ rest. ap (put_frames fs) (held_put (rows o x cells (Some t)) zero_leaf rest);
}

words_ok : (x : Words) (fs : List Frame) → AreFrames fs → IsWords fs x → IsReady (await fs x) (words_ready x fs)
words_ok (operator s) fs w v = operator_ok s fs w v.0 v.1
  where
    operator_ok : (s : Token) (fs : List Frame) → AreFrames fs → is_argument s.kind ≡ true → IsCall fs → IsReady (await fs (operator s)) (words_ready (operator s) fs)
    operator_ok s (fixed (in_bracket (called f) o es) ∷ fs) w k c = sign_ok (await (fixed (in_bracket (called f) o es) ∷ fs) (operator s)) f o es s fs w k (λ rest. refl)
    operator_ok s _ w k c = absurd c
words_ok (atoms hold) fs w v = atoms_ok hold fs w v
words_ok (minus hold m) fs w v = record {
  frames = w;
  stands = held_ok hold m (ending (unary m) zero_leaf) fs v.0 v.2 (omega arith, ap is_unary v.1, refl) (ap (λ k. is_minus k && true) v.1) refl;
  tokens = λ rest. ap (put_frames fs) (held_put hold (ending (unary m) zero_leaf) rest);
}
words_ok (generator_name o x gens t) fs w v = record {
  frames = w;
  stands = record { level = 10; fits = omega (arith, demand_le fs); operand = gathered o x gens t a_name (token In) zero_leaf fs (v, refl, refl) refl };
  tokens = λ rest. ap (λ ts. put_frames fs (o ∷ put x ts)) (put_with_generator gens t a_name (token In) zero_leaf (token CloseBracket ∷ rest));
}
words_ok (generator_in o x gens t n) fs w v = record {
  frames = w;
  stands = record { level = 10; fits = omega (arith, demand_le fs); operand = gathered o x gens t n (token In) zero_leaf fs (v.0, v.1, refl) refl };
  tokens = λ rest. ap (λ ts. put_frames fs (o ∷ put x ts)) (put_with_generator gens t n (token In) zero_leaf (token CloseBracket ∷ rest));
}
words_ok (element_type c) fs w v = record { frames = w; stands = record { level = 10; fits = omega (arith, demand_le fs); operand = (v, refl, refl, refl, refl, refl, refl, refl, refl) }; tokens = λ rest. refl }
words_ok (type_end c type) fs w v = record { frames = w; stands = record { level = 10; fits = omega (arith, demand_le fs); operand = (v.0, v.1, refl, refl, refl, refl, refl, refl, refl) }; tokens = λ rest. refl }
words_ok (size_begin c type z) fs w v = record { frames = w; stands = record { level = 10; fits = omega (arith, demand_le fs); operand = (v.0.0, v.0.1, v.1, refl, refl, refl, refl, refl, refl) }; tokens = λ rest. refl }
words_ok (place_begin c type z o size p) fs w v = record { frames = w; stands = record { level = 10; fits = omega (arith, demand_le fs); operand = (v.0.0.0, v.0.0.1, v.0.1, v.0.2, v.1, v.2, refl, refl, refl) }; tokens = λ rest. refl }

now_ok : (fs : List Frame) (n : Now) → AreFrames fs → IsNow fs n → IsReady (record { frames = fs; now = n }) (now_ready fs n)
now_ok fs wanted w v = want_ok fs w
now_ok fs (got e) w v = record { frames = w; stands = record { level = 10; fits = omega (arith, demand_le fs); operand = v }; tokens = λ rest. refl }
now_ok fs (pending x) w v = words_ok x fs w v

-- ---- the expression that a state may become, and the tokens that it wants

pub whole_ok : (s : State) → IsState s → IsAt true false 1 (whole s)
whole_ok s w = let r = now_ok s.frames s.now w.frames w.now in wrap_ok r.stands.level (now_ready s.frames s.now).frames (now_ready s.frames s.now).operand r.frames r.stands.operand r.stands.fits

pub whole_put : (s : State) → IsState s → (rest : List Token) → put (whole s) rest ≡ put_state s (to_end s rest)
whole_put s w rest =
    let g = now_ready s.frames s.now in
    let r = now_ok s.frames s.now w.frames w.now in
    wrap_put r.stands.level (now_ready s.frames s.now).frames (now_ready s.frames s.now).operand rest r.frames r.stands.operand r.stands.fits ∙ r.tokens (closing (now_ready s.frames s.now).frames (now_ready s.frames s.now).operand rest)
