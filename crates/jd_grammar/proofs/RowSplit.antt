-- An expression that is written as atoms, taken apart.
use Rattle.std.proofs.Common.{ℕ, ◌≡◌, ◌≤◌, Bool, true, false, ◌&&◌, IsTrue, List, ◌∷◌, Option, Some, None, if◌then◌else◌, refl, sym, ap, subst, ◌∙◌, arith}
use Rattle.jd_grammar.specs.declared.token.Token.{Token}
use Rattle.jd_grammar.specs.declared.token.Kind.{Kind}
use Rattle.jd_grammar.specs.declared.token.Kind.TheVariants.{Number, Wide, Name, Minus, Semicolon}
use Rattle.jd_grammar.specs.Kinds.{is_leaf, is_number, is_name, is_least, is_unary, is_minus}
use Rattle.jd_grammar.specs.Grammar.{Syntax, leaf, sign, ending, bracket, matrix, comprehension, remote, unary, binary, choice, lambda, spawn, keyword, grouped, called, itemed, indexed, Cells, no_cells, cell, row, none, more, nothing, just, put, put_cells, is_tight, is_atom, is_spaced, IsAt, AreCells}
use Rattle.jd_grammar.specs.Rows.{begins_tight, is_plain, is_chain, is_long, is_row, with_cell, joined, first_of, cells_of, are_many}
use Rattle.jd_grammar.proofs.Invariant.{put_pending}
use Rattle.jd_grammar.proofs.Close.{weaken, touches_of}
use Rattle.jd_grammar.proofs.RowFacts.{both, many_with_cell, many_joined}
use Rattle.jd_grammar.proofs.Absurd.{no}

-- ---- cells

pub put_with_cell : (cells : Cells) (q : Option Token) (a : Syntax) (rest : List Token) → put_cells (with_cell cells q a) rest ≡ put_cells cells (put_pending q (put a rest))
put_with_cell no_cells None a rest = refl
put_with_cell no_cells (Some t) a rest = refl
put_with_cell (cell b cells) q a rest = ap (put b) (put_with_cell cells q a rest)
put_with_cell (row t b cells) q a rest = ap (λ ts. t ∷ put b ts) (put_with_cell cells q a rest)

pub put_joined : (cells ds : Cells) (rest : List Token) → put_cells (joined cells ds) rest ≡ put_cells cells (put_cells ds rest)
put_joined no_cells ds rest = refl
put_joined (cell a cells) ds rest = ap (put a) (put_joined cells ds rest)
put_joined (row t a cells) ds rest = ap (λ ts. t ∷ put a ts) (put_joined cells ds rest)

-- an atom behind no `;` stands behind a blank
abbrev pub IsApart : Option Token → Syntax → Type 0
IsApart None a = IsTrue (is_spaced a)
IsApart (Some t) a = t.kind ≡ Semicolon

pub are_with_cell : (cells : Cells) (q : Option Token) (a : Syntax) → AreCells cells → IsAt true false 9 a → IsTrue (is_atom a) → IsApart q a → AreCells (with_cell cells q a)
are_with_cell no_cells None a w v i u = (v, i, u, tt)
are_with_cell no_cells (Some t) a w v i u = (u, v, i, tt)
are_with_cell (cell b cells) q a w v i u = (w.0, w.1, w.2, are_with_cell cells q a w.3 v i u)
are_with_cell (row t b cells) q a w v i u = (w.0, w.1, w.2, are_with_cell cells q a w.3 v i u)

are_joined : (cells ds : Cells) → AreCells cells → AreCells ds → AreCells (joined cells ds)
are_joined no_cells ds w v = v
are_joined (cell a cells) ds w v = (w.0, w.1, w.2, are_joined cells ds w.3 v)
are_joined (row t a cells) ds w v = (w.0, w.1, w.2, are_joined cells ds w.3 v)

-- ---- plain expressions

pub plain_level : (r g : Bool) (n : ℕ) (e : Syntax) → is_plain e ≡ true → IsAt r g n e → IsAt r g 1 e
plain_level r g n (leaf t) p w = w
plain_level r g n (sign t) p w = no p
plain_level r g n (ending (unary t) e) p w = (omega arith, w.1, w.2)
plain_level r g n (ending (binary l t) e) p w = (w.1.0, w.1, w.2)
plain_level r g n (ending (choice c q x t) e) p w = (omega arith, w.1, w.2)
plain_level r g n (ending (lambda ns t) e) p w = (omega arith, w.1, w.2)
plain_level r g n (ending (spawn t a) e) p w = (omega arith, w.1, w.2)
plain_level r g n (ending (keyword v t) e) p w = no p
plain_level r g n (bracket b o es last c) p w = w
plain_level r g n (matrix o a cells c) p w = w
plain_level r g n (comprehension o e gens c) p w = w
plain_level r g n (remote c type shut o size closes comma place last) p w = w

pub level_plain : (r g : Bool) (n : ℕ) (e : Syntax) → 1 ≤ n → IsAt r g n e → is_plain e ≡ true
level_plain r g n (leaf t) h w = refl
level_plain r g n (sign t) h w = absurd (omega (arith, w.0, h))
level_plain r g n (ending (unary t) e) h w = refl
level_plain r g n (ending (binary l t) e) h w = refl
level_plain r g n (ending (choice c q x t) e) h w = refl
level_plain r g n (ending (lambda ns t) e) h w = refl
level_plain r g n (ending (spawn t a) e) h w = refl
level_plain r g n (ending (keyword v t) e) h w = absurd (omega (arith, w.0, h))
level_plain r g n (bracket b o es last c) h w = refl
level_plain r g n (matrix o a cells c) h w = refl
level_plain r g n (comprehension o e gens c) h w = refl
level_plain r g n (remote c type shut o size closes comma place last) h w = refl

-- ---- taking apart

pub record IsSplit (g : Bool) (e : Syntax) : Type 0 where
  pub first : IsAt true g 9 (first_of e)
  pub atom : g ≡ false → IsTrue (is_atom (first_of e))
  pub cells : AreCells (cells_of e)
  pub tokens : (rest : List Token) → put e rest ≡ put (first_of e) (put_cells (cells_of e) rest)

pub minus_of : (k : Kind) → is_minus k ≡ true → k ≡ Minus
minus_of Minus h = refl
minus_of _ h = no h

tight_kind : (k : Kind) (b : Bool) → (if b then false else (if is_number k then true else is_least k b)) ≡ true → IsTrue (if is_leaf k then true else is_least k b)
tight_kind (Number n) b h = refl
tight_kind (Wide g) false h = h
tight_kind (Wide g) true h = no h
tight_kind _ true h = no h
tight_kind _ false h = no h

-- a number behind a `-`, with no blank between them
pub tight_leaf : (t n : Token) → t.kind ≡ Minus → is_tight n ≡ true → IsAt true false 9 (ending (unary t) (leaf n))
tight_leaf t n k h = (omega arith, ap is_unary k, subst (λ x. IsTrue (if is_leaf n.kind then true else is_minus x && is_least n.kind n.spaced)) (sym k) (tight_kind n.kind n.spaced h))

pub record IsNegated (t : Token) (e : Syntax) : Type 0 where
  pub negated : IsAt true false 9 (ending (unary t) (first_of e))
  pub atom : IsTrue (is_atom (ending (unary t) (first_of e)))

pub tight_first : (t : Token) (e : Syntax) → t.kind ≡ Minus → begins_tight e ≡ true → is_chain e ≡ true → IsNegated t e
tight_first t (leaf n) k b h = record { negated = tight_leaf t n k b; atom = ap (λ x. is_minus x && is_tight n) k ∙ b }
tight_first t (bracket (called f) o none (just x) c) k b h = let d = both (o.spaced && is_plain x) (is_chain f) h in
    let v = tight_first t f k b d.1 in record { negated = v.negated; atom = v.atom }
tight_first t (bracket (called f) o none nothing c) k b h = no h
tight_first t (bracket (called f) o (more _ _ _) x c) k b h = no h
tight_first t (bracket grouped _ _ _ _) k b h = no b
tight_first t (bracket itemed _ _ _ _) k b h = no b
tight_first t (bracket (indexed _) _ _ _ _) k b h = no b
tight_first t _ k b h = no b

leaf_atom : (k : Kind) (b : Bool) → IsTrue (if is_leaf k then true else false && is_least k b) → (if is_number k then true else (if is_name k then true else is_least k b)) ≡ true → IsTrue (if is_number k then true else is_name k)
leaf_atom (Number n) b w h = refl
leaf_atom (Name n) b w h = refl
leaf_atom (Wide g) b w h = no w
leaf_atom _ b w h = no h

pub split : (e : Syntax) (r g : Bool) (m : ℕ) → is_chain e ≡ true → IsAt r g m e → IsSplit g e
split (leaf t) r g m h w = record {
  first = w;
  atom = λ z. leaf_atom t.kind t.spaced (subst (λ b. IsTrue (if is_leaf t.kind then true else b && is_least t.kind t.spaced)) z w) h;
  cells = tt;
  tokens = λ rest. refl;
}
split (ending (unary t) e) r g m h w =
    let b = both (is_minus t.kind) (begins_tight e && is_chain e) h in
    let c = both (begins_tight e) (is_chain e) b.1 in
    let v = split e r (is_minus t.kind) 9 c.1 w.2 in
    let n = tight_first t e (minus_of t.kind b.0) c.0 c.1 in
    record { first = n.negated; atom = λ z. n.atom; cells = v.cells; tokens = λ rest. ap (λ ts. t ∷ ts) (v.tokens rest) }
split (ending (binary l t) e) r g m h w =
    let b = both (is_minus t.kind && t.spaced) ((begins_tight e && is_chain e) && is_chain l) h in
    let d = both (is_minus t.kind) t.spaced b.0 in
    let f = both (begins_tight e && is_chain e) (is_chain l) b.1 in
    let c = both (begins_tight e) (is_chain e) f.0 in
    let v = split e r false _ c.1 w.2 in
    let p = split l r g _ f.1 w.1.2 in
    let n = tight_first t e (minus_of t.kind d.0) c.0 c.1 in
    let a = ending (unary t) (first_of e) in
    record {
      first = p.first;
      atom = p.atom;
      cells = are_joined (with_cell (cells_of l) None (ending (unary t) (first_of e))) (cells_of e) (are_with_cell (cells_of l) None (ending (unary t) (first_of e)) p.cells n.negated n.atom d.1) v.cells;
      tokens = λ rest. p.tokens (t ∷ put e rest) ∙ ap (λ ts. put (first_of l) (put_cells (cells_of l) (t ∷ ts))) (v.tokens rest)
          ∙ ap (put (first_of l)) (sym (put_with_cell (cells_of l) None (ending (unary t) (first_of e)) (put_cells (cells_of e) rest)))
          ∙ ap (put (first_of l)) (sym (put_joined (with_cell (cells_of l) None (ending (unary t) (first_of e))) (cells_of e) rest));
    }
split (bracket grouped o none (just x) c) r g m h w = record { first = w; atom = λ z. refl; cells = tt; tokens = λ rest. refl }
split (bracket (called f) o none (just x) c) r g m h w =
    let b = both (o.spaced && is_plain x) (is_chain f) h in
    let d = both o.spaced (is_plain x) b.0 in
    let v = split f r g 10 b.1 w.0 in
    let u = plain_level true false 0 x d.1 w.3 in
    record {
      first = weaken true g 9 9 (first_of f) (omega arith) v.first;
      atom = v.atom;
      cells = are_with_cell (cells_of f) None (bracket grouped o none (just x) c) v.cells (tt, w.1, tt, u, w.4, refl, touches_of true false 1 x c u (omega arith)) refl d.0;
      tokens = λ rest. v.tokens (o ∷ put x (c ∷ rest)) ∙ ap (put (first_of f)) (sym (put_with_cell (cells_of f) None (bracket grouped o none (just x) c) rest));
    }
split (bracket grouped o none nothing c) r g m h w = no h
split (bracket grouped o (more _ _ _) x c) r g m h w = no h
split (bracket (called f) o none nothing c) r g m h w = no h
split (bracket (called f) o (more _ _ _) x c) r g m h w = no h
split (bracket itemed o es x c) r g m h w = no h
split (bracket (indexed f) o es x c) r g m h w = no h
split (ending (choice _ _ _ _) e) r g m h w = no h
split (ending (lambda _ _) e) r g m h w = no h
split (ending (spawn _ _) e) r g m h w = no h
split (ending (keyword _ _) e) r g m h w = no h
split (sign t) r g m h w = no h
split (matrix _ _ _ _) r g m h w = no h
split (comprehension _ _ _ _) r g m h w = no h
split (remote _ _ _ _ _ _ _ _ _) r g m h w = no h

long_many : (e : Syntax) → is_long e ≡ true → IsTrue (are_many (cells_of e))
long_many (ending (unary t) e) h = long_many e h
long_many (ending (binary l t) e) h = many_joined (with_cell (cells_of l) None (ending (unary t) (first_of e))) (cells_of e) (many_with_cell (cells_of l) None (ending (unary t) (first_of e)))
long_many (bracket (called f) o es last c) h = many_with_cell (cells_of f) None (bracket grouped o es last c)
long_many (ending (choice _ _ _ _) e) h = no h
long_many (ending (lambda _ _) e) h = no h
long_many (ending (spawn _ _) e) h = no h
long_many (ending (keyword _ _) e) h = no h
long_many (bracket grouped _ _ _ _) h = no h
long_many (bracket itemed _ _ _ _) h = no h
long_many (bracket (indexed _) _ _ _ _) h = no h
long_many _ h = no h

pub row_chain : (e : Syntax) → is_row e ≡ true → (is_chain e ≡ true) × IsTrue (are_many (cells_of e))
row_chain e h = let b = both (is_chain e) (is_long e) h in (b.0, long_many e b.1)
