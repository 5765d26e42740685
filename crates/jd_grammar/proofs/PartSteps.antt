-- Conditionals, atoms, comprehensions and channels: each step keeps the tokens and the order of a state.
use Rattle.std.proofs.Common.{◌≡◌, ◌+◌, true, false, ◌&&◌, IsTrue, List, ◌∷◌, Option, Some, None, nat_le, nat_eq, if◌then◌else◌, refl, sym, ap, ◌∙◌, arith}
use Rattle.jd_grammar.specs.declared.token.Token.{Token}
use Rattle.jd_grammar.specs.declared.token.Kind.{Kind}
use Rattle.jd_grammar.specs.declared.token.Kind.TheVariants.{Number, Name, Minus, Colon, Comma, Semicolon, For, In, OpenParen, CloseParen, CloseBracket, CloseBrace}
use Rattle.jd_grammar.specs.Kinds.{is_leaf, is_minus, is_name, is_number, is_element_type}
use Rattle.jd_grammar.specs.Grammar.{Channel, Syntax, leaf, ending, bracket, matrix, comprehension, Cells, unary, grouped, none, just, Generators, no_more, generator, put, put_generators, count, is_tight, is_atom, is_spaced, is_full, IsChannel, IsAt, AreGenerators}
use Rattle.jd_grammar.specs.Rows.{with_cell, count_cells, first_width, last_width, most_atoms, are_even, are_begun, may_go_on}
use Rattle.jd_grammar.specs.Frames.{Hold, spawning, rows, in_middle, in_group, in_generator, in_size, in_place, Frame, atoms, minus, generator_name, generator_in, element_type, type_end, size_begin, place_begin, State, have, await}
use Rattle.jd_grammar.specs.Machine.{filled, middle_step, takes, group_step, atom_step, next_row, rows_end, atoms_step, minus_step, with_generator, generator_name_step, generator_in_step, generator_step, element_type_step, type_end_step, size_begin_step, size_step, place_begin_step, place_step}
use Rattle.jd_grammar.proofs.Invariant.{put_hold, put_frames, put_state, next_kind, IsHold, AreBegun, IsTyped, IsFixed, AreFrames, IsWords, IsState, IsStep, MayStep, may_if}
use Rattle.jd_grammar.proofs.Close.{le_of, touches_of}
use Rattle.jd_grammar.proofs.RowFacts.{both, eq_of, even_cell, even_row, first_row, same_begun, many_with_cell}
use Rattle.jd_grammar.proofs.RowSplit.{put_with_cell, are_with_cell, tight_leaf}
use Rattle.jd_grammar.proofs.BracketSteps.{Stand}
use Rattle.jd_grammar.proofs.Absurd.{no}

pub middle_ok : (s : State) (c : Syntax) (q t : Token) (fs : List Frame) (e : Syntax) → IsFixed fs (in_middle c q) → AreFrames fs → IsAt false false 3 e
    → Stand s t (in_middle c q) fs e → MayStep t s (middle_step c q t.kind t fs e)
middle_ok s c q t fs e w v u h = elim t.kind as (λ k. t.kind ≡ k → MayStep t s (middle_step c q k t fs e)) [
  | Colon ↦ λ k. record { state = record { frames = ((w.0, w.1, u, k), w.2, v); now = tt }; tokens = h }
  | _ ↦ λ k. tt
] refl

-- ---- atoms

pub record IsFilled (hold : Hold) (a : Syntax) (fs : List Frame) : Type 0 where
  pub state : IsState (filled hold a fs)
  pub tokens : (rest : List Token) → put_state (filled hold a fs) rest ≡ put_frames fs (put_hold hold (put a rest))

-- the cells may have one more
pub added : (o : Token) (x : Syntax) (cells : Cells) (q : Option Token) (p : Token) (a : Syntax) (fs : List Frame) → IsHold fs (rows o x cells q) → IsTrue (takes (rows o x cells q) p) → IsAt true false 9 a → IsTrue (is_atom a) → is_spaced a ≡ p.spaced
    → IsHold fs (rows o x (with_cell cells q a) None)
added o x cells None p a fs w h u i z =
    let b = both p.spaced (are_begun (with_cell cells None (leaf p))) h in
    (w.0, w.1, w.2, are_with_cell cells None a w.3 u i (z ∙ b.0), even_cell 1 cells a w.4, same_begun cells None a (leaf p) ∙ b.1, many_with_cell cells None a)
added o x cells (Some t) p a fs w h u i z =
    let g = both (nat_eq (last_width 1 cells) (first_width 1 cells)) (nat_le (count_cells cells + 1 + first_width 1 cells) most_atoms) w.6.1 in (
      w.0,
      w.1,
      w.2,
      are_with_cell cells (Some t) a w.3 u i w.6.0,
      ap (λ n. are_even n 1 (with_cell cells (Some t) a)) (first_row 1 cells t a) ∙ even_row (first_width 1 cells) 1 cells t a w.4 (eq_of (last_width 1 cells) (first_width 1 cells) g.0),
      same_begun cells (Some t) a (leaf p) ∙ h,
      many_with_cell cells (Some t) a,
    )

filled_ok : (hold : Hold) (p : Token) (a : Syntax) (fs : List Frame) → IsHold fs hold → IsTrue (takes hold p) → AreFrames fs → IsAt true false 9 a → IsTrue (is_atom a) → is_spaced a ≡ p.spaced → IsFilled hold a fs
filled_ok (spawning s) p a fs w h v u i z = record { state = record { frames = ((w.0, u, i), w.1, v); now = tt }; tokens = λ rest. refl }
filled_ok (rows o x cells q) p a fs w h v u i z = record {
  state = record { frames = v; now = added o x cells q p a fs w h u i z };
  tokens = λ rest. ap (λ ts. put_frames fs (o ∷ put x ts)) (put_with_cell cells q a rest);
}

pub group_ok : (s : State) (hold : Hold) (p t : Token) (fs : List Frame) (e : Syntax) → IsFixed fs (in_group hold p) → AreFrames fs → IsAt true false 1 e
    → Stand s t (in_group hold p) fs e → MayStep t s (group_step hold p t.kind t fs e)
group_ok s hold p t fs e w v u h = elim t.kind as (λ k. t.kind ≡ k → MayStep t s (group_step hold p k t fs e)) [
  | CloseParen ↦ λ k. (let f = filled_ok hold p (bracket grouped p none (just e) t) fs w.0 w.2 v (tt, w.1, tt, u, k, refl, touches_of true false 1 e t u (omega arith)) refl refl in
      record { state = f.state; tokens = λ rest. f.tokens rest ∙ h rest })
  | _ ↦ λ k. tt
] refl

number_leaf : (k : Kind) → is_number k ≡ true → is_leaf k ≡ true
number_leaf (Number n) h = refl
number_leaf _ h = no h

leaf_filled : (hold : Hold) (t : Token) (fs : List Frame) → IsHold fs hold → IsTrue (takes hold t) → AreFrames fs → is_leaf t.kind ≡ true → IsTrue (is_atom (leaf t)) → IsStep t (await fs (atoms hold)) (filled hold (leaf t) fs)
leaf_filled hold t fs w h v k i =
    let f = filled_ok hold t (leaf t) fs w h v (ap (λ b. if b then true else false) k) i refl in
    record { state = f.state; tokens = f.tokens }

atom_ok : (hold : Hold) (t : Token) (fs : List Frame) → IsHold fs hold → IsTrue (takes hold t) → AreFrames fs → MayStep t (await fs (atoms hold)) (atom_step hold t.kind t fs)
atom_ok hold t fs w h v = elim t.kind as (λ k. t.kind ≡ k → MayStep t (await fs (atoms hold)) (atom_step hold k t fs)) [
  | Number n ↦ λ k. leaf_filled hold t fs w h v (ap is_leaf k) (ap (λ x. if is_number x then true else is_name x) k)
  | Name n ↦ λ k. leaf_filled hold t fs w h v (ap is_leaf k) (ap (λ x. if is_number x then true else is_name x) k)
  | Minus ↦ λ k. record { state = record { frames = v; now = (w, k, h) }; tokens = λ rest. refl }
  | OpenParen ↦ λ k. record { state = record { frames = ((w, k, h), v); now = tt }; tokens = λ rest. refl }
  | _ ↦ λ k. tt
] refl

next_row_ok : (hold : Hold) (t : Token) (fs : List Frame) → t.kind ≡ Semicolon → IsHold fs hold → AreFrames fs → MayStep t (await fs (atoms hold)) (next_row hold t fs)
next_row_ok (rows o x cells None) t fs k w v = may_if t (await fs (atoms (rows o x cells None))) (await fs (atoms (rows o x cells (Some t)))) (may_go_on cells) (λ h.
    record { state = record { frames = v; now = (w.0, w.1, w.2, w.3, w.4, w.5, (k, h)) }; tokens = λ rest. refl })
next_row_ok (rows o x cells (Some q)) t fs k w v = tt
next_row_ok (spawning s) t fs k w v = tt

rows_end_ok : (hold : Hold) (t : Token) (fs : List Frame) → t.kind ≡ CloseBracket → IsHold fs hold → AreFrames fs → MayStep t (await fs (atoms hold)) (rows_end hold t fs)
rows_end_ok (rows o x cells None) t fs k w v = may_if t (await fs (atoms (rows o x cells None))) (have fs (matrix o x cells t)) (is_full cells) (λ h.
    record { state = record { frames = v; now = (w.0, w.1, w.2, w.3, w.6, h, k) }; tokens = λ rest. refl })
rows_end_ok (rows o x cells (Some q)) t fs k w v = tt
rows_end_ok (spawning s) t fs k w v = tt

pub atoms_ok : (hold : Hold) (t : Token) (fs : List Frame) → IsHold fs hold → AreFrames fs → MayStep t (await fs (atoms hold)) (atoms_step hold t.kind t fs)
atoms_ok hold t fs w v = elim t.kind as (λ k. t.kind ≡ k → MayStep t s (if takes hold t then atom_step hold k t fs else None) → MayStep t s (atoms_step hold k t fs)) [
  | Semicolon ↦ λ k z. next_row_ok hold t fs k w v
  | CloseBracket ↦ λ k z. rows_end_ok hold t fs k w v
  | _ ↦ λ k z. z
] refl
    (elim (takes hold t) as (λ b. takes hold t ≡ b → MayStep t s (if b then atom_step hold t.kind t fs else None)) [ true ↦ λ h. atom_ok hold t fs w h v | false ↦ λ h. tt ] refl)
  where
    s : State
    s = await fs (atoms hold)

pub minus_ok : (hold : Hold) (m t : Token) (fs : List Frame) → IsWords fs (minus hold m) → AreFrames fs → MayStep t (await fs (minus hold m)) (minus_step hold m t fs)
minus_ok hold m t fs w v = may_if t (await fs (minus hold m)) (filled hold (ending (unary m) (leaf t)) fs) (is_tight t) (λ h.
    let f = filled_ok hold m (ending (unary m) (leaf t)) fs w.0 w.2 v (tight_leaf m t w.1 h) (ap (λ x. is_minus x && is_tight t) w.1 ∙ h) refl in
    record { state = f.state; tokens = f.tokens })

-- ---- comprehensions

pub put_with_generator : (gens : Generators) (t n i : Token) (e : Syntax) (rest : List Token) → put_generators (with_generator gens t n i e) rest ≡ put_generators gens (t ∷ n ∷ i ∷ put e rest)
put_with_generator no_more t n i e rest = refl
put_with_generator (generator s m j x gens) t n i e rest = ap (λ ts. s ∷ m ∷ j ∷ put x ts) (put_with_generator gens t n i e rest)

next_comma : (gens : Generators) → next_kind Comma gens ≡ Comma
next_comma no_more = refl
next_comma (generator s m j x gens) = refl

pub are_with_generator : (k : Kind) (gens : Generators) (t n i : Token) (e : Syntax) → AreGenerators k gens → t.kind ≡ next_kind k gens → IsTrue (is_name n.kind) → i.kind ≡ In → IsAt true false 1 e
    → AreGenerators k (with_generator gens t n i e)
are_with_generator k no_more t n i e w h a b u = (h, a, b, u, tt)
are_with_generator k (generator s m j x gens) t n i e w h a b u = (w.0, w.1, w.2, w.3, are_with_generator Comma gens t n i e w.4 (h ∙ sym (next_comma gens)) a b u)

pub count_with_generator : (gens : Generators) (t n i : Token) (e : Syntax) → count (with_generator gens t n i e) ≡ count gens + 1
count_with_generator no_more t n i e = refl
count_with_generator (generator s m j x gens) t n i e = ap (λ n. n + 1) (count_with_generator gens t n i e)

some_kind : (gens : Generators) (t n i : Token) (e : Syntax) → next_kind For (with_generator gens t n i e) ≡ Comma
some_kind no_more t n i e = refl
some_kind (generator s m j x gens) t n i e = refl

next_ok : (s : State) (o : Token) (x : Syntax) (gens : Generators) (f n i t : Token) (fs : List Frame) (e : Syntax) → t.kind ≡ Comma → IsFixed fs (in_generator o x gens f n i) → AreFrames fs → IsAt true false 1 e
    → Stand s t (in_generator o x gens f n i) fs e → MayStep t s (if nat_le (count gens) 1 then Some (await fs (generator_name o x (with_generator gens f n i e) t)) else None)
next_ok s o x gens f n i t fs e k w v u h = may_if t s (await fs (generator_name o x (with_generator gens f n i e) t)) (nat_le (count gens) 1) (λ c. record {
  state = record {
    frames = v;
    now = (
      w.0.0,
      w.0.1,
      are_with_generator For gens f n i e w.0.2 w.0.4 w.1 w.2 u,
      omega (arith, count_with_generator gens f n i e, le_of (count gens) 1 c),
      k ∙ sym (some_kind gens f n i e),
    );
  };
  tokens = λ rest. ap (λ ts. put_frames fs (o ∷ put x ts)) (put_with_generator gens f n i e (t ∷ rest)) ∙ h rest;
})

last_ok : (s : State) (o : Token) (x : Syntax) (gens : Generators) (f n i t : Token) (fs : List Frame) (e : Syntax) → t.kind ≡ CloseBracket → IsFixed fs (in_generator o x gens f n i) → AreFrames fs → IsAt true false 1 e
    → Stand s t (in_generator o x gens f n i) fs e → IsStep t s (have fs (comprehension o x (with_generator gens f n i e) t))
last_ok s o x gens f n i t fs e k w v u h =
    let c = count_with_generator gens f n i e in
    record {
      state = record { frames = v; now = (w.0.0, w.0.1, are_with_generator For gens f n i e w.0.2 w.0.4 w.1 w.2 u, omega (arith, c), omega (arith, c, w.0.3), k) };
      tokens = λ rest. ap (λ ts. put_frames fs (o ∷ put x ts)) (put_with_generator gens f n i e (t ∷ rest)) ∙ h rest;
    }

pub generator_ok : (s : State) (o : Token) (x : Syntax) (gens : Generators) (f n i t : Token) (fs : List Frame) (e : Syntax) → IsFixed fs (in_generator o x gens f n i) → AreFrames fs → IsAt true false 1 e
    → Stand s t (in_generator o x gens f n i) fs e → MayStep t s (generator_step o x gens f n i t.kind t fs e)
generator_ok s o x gens f n i t fs e w v u h = elim t.kind as (λ k. t.kind ≡ k → MayStep t s (generator_step o x gens f n i k t fs e)) [
  | Comma ↦ λ k. next_ok s o x gens f n i t fs e k w v u h
  | CloseBracket ↦ λ k. last_ok s o x gens f n i t fs e k w v u h
  | _ ↦ λ k. tt
] refl

pub generator_name_ok : (o : Token) (x : Syntax) (gens : Generators) (f t : Token) (fs : List Frame) → AreBegun o x gens f → AreFrames fs
    → MayStep t (await fs (generator_name o x gens f)) (generator_name_step o x gens f t fs)
generator_name_ok o x gens f t fs w v = may_if t (await fs (generator_name o x gens f)) (await fs (generator_in o x gens f t)) (is_name t.kind) (λ k.
    record { state = record { frames = v; now = (w, k) }; tokens = λ rest. refl })

pub generator_in_ok : (o : Token) (x : Syntax) (gens : Generators) (f n t : Token) (fs : List Frame) → IsWords fs (generator_in o x gens f n) → AreFrames fs
    → MayStep t (await fs (generator_in o x gens f n)) (generator_in_step o x gens f n t.kind t fs)
generator_in_ok o x gens f n t fs w v = elim t.kind as (λ k. t.kind ≡ k → MayStep t (await fs (generator_in o x gens f n)) (generator_in_step o x gens f n k t fs)) [
  | In ↦ λ k. record { state = record { frames = ((w.0, w.1, k), v); now = tt }; tokens = λ rest. refl }
  | _ ↦ λ k. tt
] refl

-- ---- channels

pub element_type_ok : (c : Channel) (t : Token) (fs : List Frame) → IsChannel c → AreFrames fs → MayStep t (await fs (element_type c)) (element_type_step c t fs)
element_type_ok c t fs w v = may_if t (await fs (element_type c)) (await fs (type_end c t)) (is_element_type t.kind) (λ k. record { state = record { frames = v; now = (w, k) }; tokens = λ rest. refl })

pub type_end_ok : (c : Channel) (type t : Token) (fs : List Frame) → IsTyped c type → AreFrames fs → MayStep t (await fs (type_end c type)) (type_end_step c type t.kind t fs)
type_end_ok c type t fs w v = elim t.kind as (λ k. t.kind ≡ k → MayStep t (await fs (type_end c type)) (type_end_step c type k t fs)) [
  | CloseBrace ↦ λ k. record { state = record { frames = v; now = (w, k) }; tokens = λ rest. refl }
  | _ ↦ λ k. tt
] refl

pub size_begin_ok : (c : Channel) (type shut t : Token) (fs : List Frame) → IsWords fs (size_begin c type shut) → AreFrames fs → MayStep t (await fs (size_begin c type shut)) (size_begin_step c type shut t.kind t fs)
size_begin_ok c type shut t fs w v = elim t.kind as (λ k. t.kind ≡ k → MayStep t (await fs (size_begin c type shut)) (size_begin_step c type shut k t fs)) [
  | OpenParen ↦ λ k. record { state = record { frames = ((w.0, w.1, k), v); now = tt }; tokens = λ rest. refl }
  | _ ↦ λ k. tt
] refl

pub size_ok : (s : State) (c : Channel) (type shut o t : Token) (fs : List Frame) (e : Syntax) → IsFixed fs (in_size c type shut o) → AreFrames fs → IsAt true false 1 e
    → Stand s t (in_size c type shut o) fs e → MayStep t s (size_step c type shut o t.kind t fs e)
size_ok s c type shut o t fs e w v u h = elim t.kind as (λ k. t.kind ≡ k → MayStep t s (size_step c type shut o k t fs e)) [
  | CloseParen ↦ λ k. record { state = record { frames = v; now = (w, u, k) }; tokens = h }
  | _ ↦ λ k. tt
] refl

pub place_begin_ok : (c : Channel) (type shut o : Token) (size : Syntax) (closes t : Token) (fs : List Frame) → IsWords fs (place_begin c type shut o size closes) → AreFrames fs
    → MayStep t (await fs (place_begin c type shut o size closes)) (place_begin_step c type shut o size closes t.kind t fs)
place_begin_ok c type shut o size closes t fs w v = elim t.kind as (λ k. t.kind ≡ k → MayStep t (await fs (place_begin c type shut o size closes)) (place_begin_step c type shut o size closes k t fs)) [
  | Comma ↦ λ k. record { state = record { frames = ((w.0, w.1, w.2, k), v); now = tt }; tokens = λ rest. refl }
  | _ ↦ λ k. tt
] refl

pub place_ok : (s : State) (c : Channel) (type shut o : Token) (size : Syntax) (closes comma t : Token) (fs : List Frame) (e : Syntax) → IsFixed fs (in_place c type shut o size closes comma) → AreFrames fs → IsAt true false 1 e
    → Stand s t (in_place c type shut o size closes comma) fs e → MayStep t s (place_step c type shut o size closes comma t.kind t fs e)
place_ok s c type shut o size closes comma t fs e w v u h = elim t.kind as (λ k. t.kind ≡ k → MayStep t s (place_step c type shut o size closes comma k t fs e)) [
  | CloseParen ↦ λ k. (let z = w.0 in record { state = record { frames = v; now = (z.0.0, z.0.1, z.1, z.2, w.1, w.2, w.3, u, k) }; tokens = h })
  | _ ↦ λ k. tt
] refl
