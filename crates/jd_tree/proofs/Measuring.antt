-- How the profile of a tree follows from those of its parts.
use Rattle.std.proofs.Common.{ℕ, ◌≡◌, ◌+◌, min, max, Bool, true, false, ◌&&◌, None, if◌then◌else◌, refl, sym, ap, ◌∙◌, arith}
use Rattle.jd_grammar.specs.declared.token.Token.{Token}
use Rattle.jd_grammar.specs.Kinds.{is_minus}
use Rattle.jd_grammar.specs.Trees.{Syntax, ending, bracket, unary, binary, grouped, called, Items, none, more, Maybe, nothing, just}
use Rattle.jd_grammar.specs.Rows.{begins_tight, is_plain, is_chain, is_long, cells_of, count_cells}
use Rattle.jd_grammar.specs.Depth.{height, height_items, height_maybe}
use Rattle.jd_grammar.specs.Profile.{row_height, profile, flat, row_profile}
use Rattle.jd_grammar.proofs.RowFacts.{both, count_with}
use Rattle.jd_grammar.proofs.Under.{tight_flat, binary_row, called_row, binary_count}
use Rattle.jd_tree.specs.declared.profile.Profile as code
use Rattle.jd_tree.specs.Measures.{measure, is_one}

-- profiles of one shape that agree on their numbers where these count
row_same : (tall : ℕ) (tight chain long : Bool) (a b c d : ℕ) → (chain ≡ true → a ≡ b) → (chain ≡ true → c ≡ d) → row_profile tall tight chain long a c ≡ row_profile tall tight chain long b d
row_same tall tight true long a b c d h k = ap (λ x. row_profile tall tight true long x c) (h refl) ∙ ap (λ x. row_profile tall tight true long b x) (k refl)
row_same tall tight false long a b c d h k = refl

-- where it is a row, its numbers are the profile's
row_of : (e : Syntax) → is_chain e ≡ true → row_height e ≡ (if is_chain e then row_height e else 0)
row_of e h = ap (λ b. if b then row_height e else 0) (sym h)

count_of : (e : Syntax) → is_chain e ≡ true → count_cells (cells_of e) ≡ (if is_chain e then count_cells (cells_of e) else 0)
count_of e h = ap (λ b. if b then count_cells (cells_of e) else 0) (sym h)

pub unary_from : (t : Token) (e : Syntax) → row_profile (1 + height e) false (is_minus t.kind && (begins_tight e && is_chain e)) (is_long e) (max (profile e).row 1) (profile e).count ≡ profile (ending (unary t) e)
unary_from t e = ap (λ h. row_profile (1 + h) false (is_minus t.kind && (begins_tight e && is_chain e)) (is_long e) (max (profile e).row 1) (profile e).count) (omega arith)
    ∙ row_same (1 + max 0 (height e)) false (is_minus t.kind && (begins_tight e && is_chain e)) (is_long e)
    (max (profile e).row 1) (row_height (ending (unary t) e)) (profile e).count (count_cells (cells_of e))
    (λ h. let a = both (is_minus t.kind) (begins_tight e && is_chain e) h in let b = both (begins_tight e) (is_chain e) a.1 in omega (arith, tight_flat e b.0, row_of e b.1))
    (λ h. let a = both (is_minus t.kind) (begins_tight e && is_chain e) h in sym (count_of e (both (begins_tight e) (is_chain e) a.1).1))

abbrev pub difference : Syntax → Token → Syntax → Bool
difference l t e = (is_minus t.kind && t.spaced) && ((begins_tight e && is_chain e) && is_chain l)

record Parts (l : Syntax) (e : Syntax) : Type 0 where
  tight : begins_tight e ≡ true
  chain : is_chain e ≡ true
  left : is_chain l ≡ true

parts_of : (l : Syntax) (t : Token) (e : Syntax) → difference l t e ≡ true → Parts l e
parts_of l t e h =
    let a = both (begins_tight e && is_chain e) (is_chain l) (both (is_minus t.kind && t.spaced) ((begins_tight e && is_chain e) && is_chain l) h).1 in
    let b = both (begins_tight e) (is_chain e) a.0 in
    record { tight = b.0; chain = b.1; left = a.1 }

pub binary_from : (l : Syntax) (t : Token) (e : Syntax) →
    row_profile (1 + max (height l) (height e)) false (difference l t e) true (max (profile l).row (max (profile e).row 1)) ((profile l).count + 1 + (profile e).count)
    ≡ profile (ending (binary l t) e)
binary_from l t e = row_same (1 + max (height l) (height e)) false (difference l t e) true
    (max (profile l).row (max (profile e).row 1)) (row_height (ending (binary l t) e)) ((profile l).count + 1 + (profile e).count) (count_cells (cells_of (ending (binary l t) e)))
    (λ h. let c = parts_of l t e h in omega (arith, binary_row l t e, tight_flat e c.tight, row_of e c.chain, row_of l c.left))
    (λ h. let c = parts_of l t e h in omega (arith, binary_count l t e, count_of e c.chain, count_of l c.left))

pub call_from : (f : Syntax) (o : Token) (e : Syntax) (c : Token) →
    row_profile (1 + max (height f) (height e)) (begins_tight f) ((o.spaced && is_plain e) && is_chain f) true (max (profile f).row (1 + height e)) ((profile f).count + 1)
    ≡ profile (bracket (called f) o none (just e) c)
call_from f o e c = ap (λ h. row_profile (1 + max (height f) h) (begins_tight f) ((o.spaced && is_plain e) && is_chain f) true (max (profile f).row (1 + height e)) ((profile f).count + 1)) (omega arith)
    ∙ row_same (1 + max (height f) (max 0 (height e))) (begins_tight f) ((o.spaced && is_plain e) && is_chain f) true
    (max (profile f).row (1 + height e)) (row_height (bracket (called f) o none (just e) c)) ((profile f).count + 1) (count_cells (cells_of (bracket (called f) o none (just e) c)))
    (λ h. let a = both (o.spaced && is_plain e) (is_chain f) h in omega (arith, called_row f o none (just e) c, row_of f a.1))
    (λ h. let a = both (o.spaced && is_plain e) (is_chain f) h in omega (arith, count_of f a.1, count_with (cells_of f) None (bracket grouped o none (just e) c)))

pub group_from : (o : Token) (e : Syntax) (c : Token) → row_profile (1 + height e) false true false (1 + height e) 0 ≡ profile (bracket grouped o none (just e) c)
group_from o e c = ap (λ h. row_profile h false true false (1 + height e) 0) (omega arith) ∙ ap (λ h. row_profile (1 + max 0 (max 0 (height e))) false true false h 0) (omega arith)

-- ---- brackets round nothing, or round more than one expression

pub several_called : (f : Syntax) (o : Token) (es : Items) (last : Maybe) (c : Token) → is_one es last ≡ false →
    profile (bracket (called f) o es last c) ≡ flat (1 + max (height f) (max (height_items es) (height_maybe last))) true (begins_tight f) true
several_called f o none nothing c h = refl
several_called f o none (just e) c h = cc
several_called f o (more x t es) last c h = refl

pub several_grouped : (o : Token) (es : Items) (last : Maybe) (c : Token) → is_one es last ≡ false →
    profile (bracket grouped o es last c) ≡ flat (1 + max 0 (max (height_items es) (height_maybe last))) true false false
several_grouped o none nothing c h = refl
several_grouped o none (just e) c h = cc
several_grouped o (more x t es) last c h = refl

-- ---- with numbers that are counted up to a bound

pub record IsMeasured (p : code.Profile) (e : Syntax) : Type 0 where
  pub nesting : p.nesting ≡ min (height e) 255
  pub plain : p.plain ≡ is_plain e
  pub tight : p.tight ≡ begins_tight e
  pub chain : p.chain ≡ is_chain e
  pub long : p.long ≡ is_long e
  pub row : p.row ≡ min (profile e).row 255
  pub atoms : p.atoms ≡ min (profile e).count 4294967295

pub fields : (p : code.Profile) (e : Syntax) → p ≡ measure e → IsMeasured p e
fields p e h = record {
  nesting = ap (λ x. x.nesting) h;
  plain = ap (λ x. x.plain) h;
  tight = ap (λ x. x.tight) h;
  chain = ap (λ x. x.chain) h;
  long = ap (λ x. x.long) h;
  row = ap (λ x. x.row) h;
  atoms = ap (λ x. x.atoms) h;
}
