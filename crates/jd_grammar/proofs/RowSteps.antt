-- The steps that the atoms of a matrix lead to.
use Rattle.std.proofs.Common.{ℕ, ◌≡◌, ◌≤◌, Bool, true, false, ◌&&◌, not, IsTrue, List, ◌∷◌, Option, Some, None, nat_le, if◌then◌else◌, refl, sym, ap, ◌∙◌, arith}
use Rattle.jd_grammar.specs.declared.token.Token.{Token}
use Rattle.jd_grammar.specs.declared.token.Kind.{Kind}
use Rattle.jd_grammar.specs.declared.token.Kind.TheVariants.{Number, Wide, Name, Minus, Semicolon, CloseBracket}
use Rattle.jd_grammar.specs.Kinds.{is_least, is_name, is_number, is_minus, strength}
use Rattle.jd_grammar.specs.Grammar.{Syntax, leaf, sign, ending, bracket, matrix, unary, binary, choice, lambda, spawn, keyword, grouped, called, itemed, indexed, Cells, no_cells, cell, row, none, more, nothing, just, touches, is_tight, is_atom, is_spaced, is_row, are_many, is_full}
use Rattle.jd_grammar.specs.Rows.{begins_tight, is_plain, is_chain, is_long, with_cell, joined, first_of, cells_of, are_begun, may_go_on}
use Rattle.jd_grammar.specs.Frames.{Hold, spawning, rows, in_bracket, Frame, open_end, fixed, atoms, want, have, await}
use Rattle.jd_grammar.specs.Machine.{close, is_closer, row_end, takes, atoms_step, want_step, at_end, at_binary, have_step}
use Rattle.jd_grammar.proofs.Close.{test_le}
use Rattle.jd_grammar.proofs.RowFacts.{both, and_true, same_begun}
use Rattle.jd_grammar.proofs.Steps.{Follows, if_some}
use Rattle.jd_grammar.proofs.Absurd.{no}

-- ---- lists of cells

pub joined_none : (cells : Cells) → joined cells no_cells ≡ cells
joined_none no_cells = refl
joined_none (cell a cells) = ap (cell a) (joined_none cells)
joined_none (row t a cells) = ap (row t a) (joined_none cells)

pub joined_cell : (cells : Cells) (a : Syntax) (ds : Cells) → joined (with_cell cells None a) ds ≡ joined cells (cell a ds)
joined_cell no_cells a ds = refl
joined_cell (cell b cells) a ds = ap (cell b) (joined_cell cells a ds)
joined_cell (row t b cells) a ds = ap (row t b) (joined_cell cells a ds)

pub joined_row : (cells : Cells) (t : Token) (a : Syntax) (ds : Cells) → joined (with_cell cells (Some t) a) ds ≡ joined cells (row t a ds)
joined_row no_cells t a ds = refl
joined_row (cell b cells) t a ds = ap (cell b) (joined_row cells t a ds)
joined_row (row u b cells) t a ds = ap (row u b) (joined_row cells t a ds)

joined_with : (cells ds : Cells) (q : Option Token) (a : Syntax) → joined cells (with_cell ds q a) ≡ with_cell (joined cells ds) q a
joined_with no_cells ds q a = refl
joined_with (cell b cells) ds q a = ap (cell b) (joined_with cells ds q a)
joined_with (row t b cells) ds q a = ap (row t b) (joined_with cells ds q a)

-- ---- whether an atom may stand there

abbrev pub fits : Hold → Syntax → Bool
fits hold (leaf t) = takes hold t
fits hold (ending (unary t) e) = takes hold t
fits hold (bracket b o es last c) = takes hold o
fits hold _ = false

pub spawn_fits : (s : Token) (a : Syntax) → is_atom a ≡ true → fits (spawning s) a ≡ true
spawn_fits s (leaf t) h = refl
spawn_fits s (ending (unary t) (leaf n)) h = refl
spawn_fits s (bracket grouped o none (just e) c) h = refl
spawn_fits s _ h = no h

pub cell_fits : (o : Token) (x : Syntax) (cells : Cells) (a : Syntax) → is_atom a ≡ true → is_spaced a ≡ true → are_begun (with_cell cells None a) ≡ true → fits (rows o x cells None) a ≡ true
cell_fits o x cells (leaf t) i z h = and_true t.spaced (are_begun (with_cell cells None (leaf t))) z h
cell_fits o x cells (ending (unary t) (leaf n)) i z h = and_true t.spaced (are_begun (with_cell cells None (leaf t))) z (same_begun cells None (leaf t) (ending (unary t) (leaf n)) ∙ h)
cell_fits o x cells (bracket grouped p none (just e) c) i z h = and_true p.spaced (are_begun (with_cell cells None (leaf p))) z (same_begun cells None (leaf p) (bracket grouped p none (just e) c) ∙ h)
cell_fits o x cells _ i z h = no i

pub row_fits : (o : Token) (x : Syntax) (cells : Cells) (t : Token) (a : Syntax) → is_atom a ≡ true → are_begun (with_cell cells (Some t) a) ≡ true → fits (rows o x cells (Some t)) a ≡ true
row_fits o x cells t (leaf u) i h = h
row_fits o x cells t (ending (unary u) (leaf n)) i h = same_begun cells (Some t) (leaf u) (ending (unary u) (leaf n)) ∙ h
row_fits o x cells t (bracket grouped p none (just e) c) i h = same_begun cells (Some t) (leaf p) (bracket grouped p none (just e) c) ∙ h
row_fits o x cells t _ i h = no i

pub next_row_runs : (m : Follows) (o : Token) (x : Syntax) (cells : Cells) (t : Token) (fs : List Frame) (rest : List Token) → t.kind ≡ Semicolon → may_go_on cells ≡ true
    → m.run (t ∷ rest) (await fs (atoms (rows o x cells None))) ≡ m.run rest (await fs (atoms (rows o x cells (Some t))))
next_row_runs m o x cells t fs rest k h = m.goes t rest (await fs (atoms (rows o x cells None))) (await fs (atoms (rows o x cells (Some t))))
    (ap (λ y. atoms_step (rows o x cells None) y t fs) k ∙ if_some (may_go_on cells) (await fs (atoms (rows o x cells (Some t)))) h)

pub rows_end_runs : (m : Follows) (o : Token) (x : Syntax) (cells : Cells) (c : Token) (fs : List Frame) (rest : List Token) → c.kind ≡ CloseBracket → is_full cells ≡ true
    → m.run (c ∷ rest) (await fs (atoms (rows o x cells None))) ≡ m.run rest (have fs (matrix o x cells c))
rows_end_runs m o x cells c fs rest k h = m.goes c rest (await fs (atoms (rows o x cells None))) (have fs (matrix o x cells c))
    (ap (λ y. atoms_step (rows o x cells None) y c fs) k ∙ if_some (is_full cells) (have fs (matrix o x cells c)) h)

-- ---- the state behind some atoms of a first row: what is open in the bracket, and the operand

pub data Shape : Type 0 where
  bare : (x : Syntax) → Shape
  behind_minus : (t : Token) (x : Syntax) → Shape
  difference : (l : Syntax) (t : Token) (x : Syntax) → Shape

abbrev pub frames_of : Shape → List Frame → List Frame
frames_of (bare x) fs = fs
frames_of (behind_minus t x) fs = open_end (unary t) ∷ fs
frames_of (difference l t x) fs = open_end (binary l t) ∷ fs

abbrev pub last_of : Shape → Syntax
last_of (bare x) = x
last_of (behind_minus t x) = x
last_of (difference l t x) = x

abbrev pub whole : Shape → Syntax
whole (bare x) = x
whole (behind_minus t x) = ending (unary t) x
whole (difference l t x) = ending (binary l t) x

abbrev pub with_call : Shape → Token → Syntax → Token → Shape
with_call (bare x) p y z = bare (bracket (called x) p none (just y) z)
with_call (behind_minus t x) p y z = behind_minus t (bracket (called x) p none (just y) z)
with_call (difference l t x) p y z = difference l t (bracket (called x) p none (just y) z)

minus_strength : (k : Kind) → is_minus k ≡ true → strength k ≡ 7
minus_strength Minus h = refl
minus_strength _ h = no h

-- a chain closes to itself, at a `-` too
pub shape_closes : (p : ℕ) (s : Shape) (o : Token) (fs : List Frame) → p ≤ 7 → is_chain (whole s) ≡ true
    → close p (frames_of s (fixed (in_bracket itemed o none) ∷ fs)) (last_of s) ≡ (fixed (in_bracket itemed o none) ∷ fs, whole s)
shape_closes p (bare x) o fs h c = refl
shape_closes p (behind_minus t x) o fs h c = ap (λ b. if b then close p (fixed (in_bracket itemed o none) ∷ fs) (ending (unary t) x) else (open_end (unary t) ∷ (fixed (in_bracket itemed o none) ∷ fs), x)) (test_le p 9 (omega arith))
shape_closes p (difference l t x) o fs h c =
    let k : strength t.kind ≡ 7 = minus_strength t.kind (both (is_minus t.kind) t.spaced (both (is_minus t.kind && t.spaced) ((begins_tight x && is_chain x) && is_chain l) c).0).0 in
    ap (λ b. if b then close p (fixed (in_bracket itemed o none) ∷ fs) (ending (binary l t) x) else (open_end (binary l t) ∷ (fixed (in_bracket itemed o none) ∷ fs), x)) (test_le p (strength t.kind) (omega (arith, k)))

called_chain : (f y : Syntax) (p z : Token) → p.spaced ≡ true → is_plain y ≡ true → is_chain f ≡ true → is_chain (bracket (called f) p none (just y) z) ≡ true
called_chain f y p z h g c = and_true (p.spaced && is_plain y) (is_chain f) (and_true p.spaced (is_plain y) h g) c

pub call_chain : (s : Shape) (p : Token) (y : Syntax) (z : Token) → is_chain (whole s) ≡ true → p.spaced ≡ true → is_plain y ≡ true → is_chain (whole (with_call s p y z)) ≡ true
call_chain (bare x) p y z c h g = called_chain x y p z h g c
call_chain (behind_minus t x) p y z c h g =
    let a = both (is_minus t.kind) (begins_tight x && is_chain x) c in
    let b = both (begins_tight x) (is_chain x) a.1 in
    and_true (is_minus t.kind) (begins_tight x && is_chain (bracket (called x) p none (just y) z)) a.0 (and_true (begins_tight x) (is_chain (bracket (called x) p none (just y) z)) b.0 (called_chain x y p z h g b.1))
call_chain (difference l t x) p y z c h g =
    let a = both (is_minus t.kind && t.spaced) ((begins_tight x && is_chain x) && is_chain l) c in
    let b = both (begins_tight x && is_chain x) (is_chain l) a.1 in
    let d = both (begins_tight x) (is_chain x) b.0 in
    and_true (is_minus t.kind && t.spaced) ((begins_tight x && is_chain (bracket (called x) p none (just y) z)) && is_chain l) a.0
    (and_true (begins_tight x && is_chain (bracket (called x) p none (just y) z)) (is_chain l) (and_true (begins_tight x) (is_chain (bracket (called x) p none (just y) z)) d.0 (called_chain x y p z h g d.1)) b.1)

pub call_first : (s : Shape) (p : Token) (y : Syntax) (z : Token) → first_of (whole (with_call s p y z)) ≡ first_of (whole s)
call_first (bare x) p y z = refl
call_first (behind_minus t x) p y z = refl
call_first (difference l t x) p y z = refl

pub call_cells : (s : Shape) (p : Token) (y : Syntax) (z : Token) → cells_of (whole (with_call s p y z)) ≡ with_cell (cells_of (whole s)) None (bracket grouped p none (just y) z)
call_cells (bare x) p y z = refl
call_cells (behind_minus t x) p y z = refl
call_cells (difference l t x) p y z = joined_with (with_cell (cells_of l) None (ending (unary t) (first_of x))) (cells_of x) None (bracket grouped p none (just y) z)

pub call_runs : (m : Follows) (s : Shape) (p : Token) (y : Syntax) (z : Token) (fs : List Frame) (rest : List Token)
    → m.run rest (have (frames_of s fs) (bracket (called (last_of s)) p none (just y) z)) ≡ m.run rest (have (frames_of (with_call s p y z) fs) (last_of (with_call s p y z)))
call_runs m (bare x) p y z fs rest = refl
call_runs m (behind_minus t x) p y z fs rest = refl
call_runs m (difference l t x) p y z fs rest = refl

pub tight_chain : (n : Token) → is_tight n ≡ true → is_chain (leaf n) ≡ true
tight_chain n h = at n.kind n.spaced h
  where
    at : (k : Kind) (b : Bool) → (if b then false else (if is_number k then true else is_least k b)) ≡ true → (if is_number k then true else (if is_name k then true else is_least k b)) ≡ true
    at (Number n) b h = refl
    at (Name n) b h = refl
    at (Wide g) false h = h
    at (Wide g) true h = no h
    at _ true h = no h
    at _ false h = no h

pub minus_chain : (t n : Token) → t.kind ≡ Minus → is_tight n ≡ true → is_chain (ending (unary t) (leaf n)) ≡ true
minus_chain t n k h = and_true (is_minus t.kind) (is_tight n && is_chain (leaf n)) (ap is_minus k) (and_true (is_tight n) (is_chain (leaf n)) h (tight_chain n h))

pub difference_chain : (e : Syntax) (t n : Token) → is_chain e ≡ true → t.kind ≡ Minus → t.spaced ≡ true → is_tight n ≡ true → is_chain (ending (binary e t) (leaf n)) ≡ true
difference_chain e t n c k z h = and_true (is_minus t.kind && t.spaced) ((is_tight n && is_chain (leaf n)) && is_chain e) (and_true (is_minus t.kind) t.spaced (ap is_minus k) z)
    (and_true (is_tight n && is_chain (leaf n)) (is_chain e) (and_true (is_tight n) (is_chain (leaf n)) h (tight_chain n h)) c)

many_long : (e : Syntax) → is_chain e ≡ true → IsTrue (are_many (cells_of e)) → is_long e ≡ true
many_long (leaf t) h m = no m
many_long (ending (unary t) e) h m = many_long e (both (begins_tight e) (is_chain e) (both (is_minus t.kind) (begins_tight e && is_chain e) h).1).1 m
many_long (ending (binary l t) e) h m = refl
many_long (bracket grouped o none (just e) c) h m = no m
many_long (bracket (called f) o es last c) h m = refl
many_long (bracket grouped o none nothing c) h m = no h
many_long (bracket grouped o (more _ _ _) last c) h m = no h
many_long (bracket itemed _ _ _ _) h m = no h
many_long (bracket (indexed _) _ _ _ _) h m = no h
many_long (ending (choice _ _ _ _) e) h m = no h
many_long (ending (lambda _ _) e) h m = no h
many_long (ending (spawn _ _) e) h m = no h
many_long (ending (keyword _ _) e) h m = no h
many_long _ h m = no h

chain_row : (e : Syntax) → is_chain e ≡ true → IsTrue (are_many (cells_of e)) → is_row e ≡ true
chain_row e h m = and_true (is_chain e) (is_long e) h (many_long e h m)

chain_touches : (e : Syntax) (c : Token) → is_chain e ≡ true → touches e c ≡ true
chain_touches (sign t) c h = no h
chain_touches _ c h = refl

-- ---- the ends of a first row

-- at the bracket's end
pub row_end_runs : (m : Follows) (s : Shape) (o c : Token) (fs : List Frame) (rest : List Token) → c.kind ≡ CloseBracket → is_chain (whole s) ≡ true → IsTrue (are_many (cells_of (whole s))) → is_full (cells_of (whole s)) ≡ true
    → m.run (c ∷ rest) (have (frames_of s (fixed (in_bracket itemed o none) ∷ fs)) (last_of s)) ≡ m.run rest (have fs (matrix o (first_of (whole s)) (cells_of (whole s)) c))
row_end_runs m s o c fs rest k q y f =
    m.goes c rest (have (frames_of s (fixed (in_bracket itemed o none) ∷ fs)) (last_of s)) (have fs (matrix o (first_of (whole s)) (cells_of (whole s)) c))
    (ap (λ x. have_step x c (frames_of s (fixed (in_bracket itemed o none) ∷ fs)) (last_of s)) k
    ∙ ap (at_end CloseBracket c) (shape_closes 0 s o fs (omega arith) q)
    ∙ ap (λ b. if b then (if not (is_row (whole s)) then Some (have fs (bracket itemed o none (just (whole s)) c)) else row_end o c fs (whole s)) else None) (and_true (is_closer itemed c.kind) (touches (whole s) c) (ap (is_closer itemed) k) (chain_touches (whole s) c q))
    ∙ ap (λ b. if not b then Some (have fs (bracket itemed o none (just (whole s)) c)) else row_end o c fs (whole s)) (chain_row (whole s) q y)
    ∙ if_some (is_full (cells_of (whole s))) (have fs (matrix o (first_of (whole s)) (cells_of (whole s)) c)) f)

-- at a second atom of one token
second_at : (k : Kind) (s : Shape) (o t : Token) (fs : List Frame) → (if is_number k then true else is_name k) ≡ true → is_chain (whole s) ≡ true → t.spaced ≡ true → are_begun (with_cell (cells_of (whole s)) None (leaf t)) ≡ true
    → have_step k t (frames_of s (fixed (in_bracket itemed o none) ∷ fs)) (last_of s) ≡ Some (await fs (atoms (rows o (first_of (whole s)) (with_cell (cells_of (whole s)) None (leaf t)) None)))
second_at (Number n) s o t fs h q z g = ap (at_end (Number n) t) (shape_closes 0 s o fs (omega arith) q)
    ∙ if_some ((t.spaced && is_chain (whole s)) && are_begun (with_cell (cells_of (whole s)) None (leaf t))) (await fs (atoms (rows o (first_of (whole s)) (with_cell (cells_of (whole s)) None (leaf t)) None)))
    (and_true (t.spaced && is_chain (whole s)) (are_begun (with_cell (cells_of (whole s)) None (leaf t))) (and_true t.spaced (is_chain (whole s)) z q) g)
second_at (Name n) s o t fs h q z g = ap (at_end (Name n) t) (shape_closes 0 s o fs (omega arith) q)
    ∙ if_some ((t.spaced && is_chain (whole s)) && are_begun (with_cell (cells_of (whole s)) None (leaf t))) (await fs (atoms (rows o (first_of (whole s)) (with_cell (cells_of (whole s)) None (leaf t)) None)))
    (and_true (t.spaced && is_chain (whole s)) (are_begun (with_cell (cells_of (whole s)) None (leaf t))) (and_true t.spaced (is_chain (whole s)) z q) g)
second_at _ s o t fs h q z g = no h

pub second_runs : (m : Follows) (s : Shape) (o t : Token) (fs : List Frame) (rest : List Token) → is_atom (leaf t) ≡ true → is_chain (whole s) ≡ true → t.spaced ≡ true → are_begun (with_cell (cells_of (whole s)) None (leaf t)) ≡ true
    → m.run (t ∷ rest) (have (frames_of s (fixed (in_bracket itemed o none) ∷ fs)) (last_of s)) ≡ m.run rest (await fs (atoms (rows o (first_of (whole s)) (with_cell (cells_of (whole s)) None (leaf t)) None)))
second_runs m s o t fs rest h q z g = m.goes t rest (have (frames_of s (fixed (in_bracket itemed o none) ∷ fs)) (last_of s)) (await fs (atoms (rows o (first_of (whole s)) (with_cell (cells_of (whole s)) None (leaf t)) None))) (second_at t.kind s o t fs h q z g)

-- at a `;`
pub first_row_runs : (m : Follows) (s : Shape) (o t : Token) (fs : List Frame) (rest : List Token) → t.kind ≡ Semicolon → is_chain (whole s) ≡ true → may_go_on (cells_of (whole s)) ≡ true
    → m.run (t ∷ rest) (have (frames_of s (fixed (in_bracket itemed o none) ∷ fs)) (last_of s)) ≡ m.run rest (await fs (atoms (rows o (first_of (whole s)) (cells_of (whole s)) (Some t))))
first_row_runs m s o t fs rest k q g = m.goes t rest (have (frames_of s (fixed (in_bracket itemed o none) ∷ fs)) (last_of s)) (await fs (atoms (rows o (first_of (whole s)) (cells_of (whole s)) (Some t))))
    (ap (λ x. have_step x t (frames_of s (fixed (in_bracket itemed o none) ∷ fs)) (last_of s)) k
    ∙ ap (at_end Semicolon t) (shape_closes 0 s o fs (omega arith) q)
    ∙ if_some (is_chain (whole s) && may_go_on (cells_of (whole s))) (await fs (atoms (rows o (first_of (whole s)) (cells_of (whole s)) (Some t)))) (and_true (is_chain (whole s)) (may_go_on (cells_of (whole s))) q g))

-- a `-` is read as a difference
pub minus_runs : (m : Follows) (s : Shape) (o t : Token) (fs : List Frame) (rest : List Token) → t.kind ≡ Minus → is_chain (whole s) ≡ true
    → m.run (t ∷ rest) (have (frames_of s (fixed (in_bracket itemed o none) ∷ fs)) (last_of s)) ≡ m.run rest (want (open_end (binary (whole s) t) ∷ (fixed (in_bracket itemed o none) ∷ fs)))
minus_runs m s o t fs rest k q = m.goes t rest (have (frames_of s (fixed (in_bracket itemed o none) ∷ fs)) (last_of s)) (want (open_end (binary (whole s) t) ∷ (fixed (in_bracket itemed o none) ∷ fs)))
    (ap (λ x. have_step x t (frames_of s (fixed (in_bracket itemed o none) ∷ fs)) (last_of s)) k
    ∙ ap (at_binary t) (shape_closes 7 s o fs (omega arith) q)
    ∙ ap (λ x. if nat_le 1 (strength x) then Some (want (open_end (binary (whole s) t) ∷ (fixed (in_bracket itemed o none) ∷ fs))) else None) k)

-- behind it a number, or 2^63, which fixes the matrix
pub number_runs : (m : Follows) (e : Syntax) (o t n : Token) (fs : List Frame) (rest : List Token) (target : m.to) → t.kind ≡ Minus → t.spaced ≡ true → is_chain e ≡ true → is_tight n ≡ true
    → are_begun (with_cell (cells_of e) None (ending (unary t) (leaf n))) ≡ true
    → m.run rest (have (open_end (binary e t) ∷ (fixed (in_bracket itemed o none) ∷ fs)) (leaf n)) ≡ target
    → m.run rest (await fs (atoms (rows o (first_of e) (with_cell (cells_of e) None (ending (unary t) (leaf n))) None))) ≡ target
    → m.run (n ∷ rest) (want (open_end (binary e t) ∷ (fixed (in_bracket itemed o none) ∷ fs))) ≡ target
number_runs m e o t n fs rest target k z c h g a b = elim n.kind as (λ x. n.kind ≡ x → m.run (n ∷ rest) (want gs) ≡ target) [
  | Number v ↦ λ x. m.goes n rest (want gs) (have gs (leaf n)) (ap (λ y. want_step y n gs) x) ∙ a
  | Wide v ↦ λ x. m.goes n rest (want gs) (await fs (atoms (rows o (first_of e) cs None)))
      (ap (λ y. want_step y n gs) x ∙ if_some (((is_minus t.kind && t.spaced) && (is_least n.kind n.spaced && is_chain e)) && are_begun cs) (await fs (atoms (rows o (first_of e) cs None)))
      (and_true ((is_minus t.kind && t.spaced) && (is_least n.kind n.spaced && is_chain e)) (are_begun cs)
      (and_true (is_minus t.kind && t.spaced) (is_least n.kind n.spaced && is_chain e) (and_true (is_minus t.kind) t.spaced (ap is_minus k) z)
      (and_true (is_least n.kind n.spaced) (is_chain e) (least v n.kind n.spaced x h) c)) g)) ∙ b
  | _ ↦ λ x. (let y = sym (ap (λ k. if n.spaced then false else (if is_number k then true else is_least k n.spaced)) x) ∙ h in absurd (never n.spaced y))
] refl
  where
    gs : List Frame
    gs = open_end (binary e t) ∷ (fixed (in_bracket itemed o none) ∷ fs)

    cs : Cells
    cs = with_cell (cells_of e) None (ending (unary t) (leaf n))

    least : (v : Bool) (k : Kind) (b : Bool) → k ≡ Wide v → (if b then false else (if is_number k then true else is_least k b)) ≡ true → is_least k b ≡ true
    least v k true x h = no h
    least v k false x h = ap (λ y. is_least y false) x ∙ sym (ap (λ y. if is_number y then true else is_least y false) x) ∙ h

    never : (b : Bool) → (if b then false else false) ≡ true → ⊥
    never true y = cc
    never false y = cc
