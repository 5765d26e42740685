-- Taking the atoms off an expression keeps them all.
use Rattle.std.proofs.Common.{ℕ, ◌≡◌, min, max, if◌then◌else◌, Bool, true, false, ◌&&◌, List, [], ◌∷◌, ◌++◌, map, None, refl, sym, ap, ◌∙◌}
use Rattle.jd_grammar.specs.declared.token.Token.{Token}
use Rattle.jd_grammar.specs.Kinds.{is_minus}
use Rattle.jd_grammar.specs.Trees.{Syntax, leaf, ending, bracket, unary, binary, grouped, called, Cells, no_cells, cell, row, Items, none, more, Maybe, nothing, just}
use Rattle.jd_grammar.specs.Rows.{begins_tight, is_plain, is_chain, with_cell, joined, first_of, cells_of}
use Rattle.jd_grammar.proofs.RowFacts.{both}
use Rattle.jd_grammar.proofs.RowSteps.{joined_cell}
use Rattle.jd_tree.specs.declared.tree.Expr.{Expr}
use Rattle.jd_tree.specs.declared.tree.Application.{Application}
use Rattle.jd_tree.specs.declared.tree.Operation.{Operation}
use Rattle.jd_tree.specs.Measures.{are_single}
use Rattle.jd_tree.specs.Plain.{Suffix, arguments, indexes, apply, applied, operated, plain, plain_application, plain_operation, plain_listing, plain_cell, cells_at}
use Rattle.jd_tree.specs.Peeling.{taken_from, taken, group_of, is_tight_chain, are_tight_chains}
use Rattle.jd_tree.proofs.Trees.{application_end, operation_end}
use Rattle.jd_tree.specs.declared.tree.Expr.TheVariants as variant
use Rattle.jd_grammar.specs.Depth.{height, height_cells}
use Rattle.jd_grammar.specs.Profile.{profile, row_height}
use Rattle.jd_tree.specs.declared.tree.Cell.{Cell, roll-Cell}
use Rattle.jd_tree.proofs.Lists.{cells_are}
use Rattle.jd_tree.specs.declared.tree.Listing.{Listing}
use Rattle.jd_tree.proofs.Levels.{plain_call, plain_group, plain_binary, plain_unary}
use Rattle.jd_tree.proofs.Widths.{single_cell}

-- ---- lists

from_more : (cells : Cells) (es : List Expr) (a : Expr) → taken_from cells (es ++ (a ∷ [])) ≡ cell (plain a) (taken_from cells es)
from_more cells [] a = refl
from_more cells (e ∷ es) a = from_more (cell (plain e) cells) es a

pub taken_more : (es all : List Expr) (a : Expr) (x : Syntax) → all ≡ es ++ (a ∷ []) → plain a ≡ x → taken all ≡ cell x (taken es)
taken_more es all a x h e = ap taken h ∙ from_more no_cells es a ∙ ap (λ y. cell y (taken es)) e

joined_joined : (a b c : Cells) → joined (joined a b) c ≡ joined a (joined b c)
joined_joined no_cells b c = refl
joined_joined (cell x a) b c = ap (cell x) (joined_joined a b c)
joined_joined (row t x a) b c = ap (row t x) (joined_joined a b c)

-- ---- calls

call_chain : (f : Syntax) (o : Token) (es : Items) (last : Maybe) (c : Token) → is_chain (bracket (called f) o es last c) ≡ true → is_chain f ≡ true
call_chain f o none (just e) c h = (both (o.spaced && is_plain e) (is_chain f) h).1
call_chain f o none nothing c h = cc
call_chain f o (more x t es) last c h = cc

pub record IsBehind (x : Syntax) (s : Suffix) : Type 0 where
  pub chain : is_chain x ≡ true
  pub cells : cells_of (apply x s) ≡ with_cell (cells_of x) None (group_of s)
  pub first : first_of (apply x s) ≡ first_of x
  pub tight : begins_tight (apply x s) ≡ begins_tight x

pub behind : (x : Syntax) (s : Suffix) → is_chain (apply x s) ≡ true → IsBehind x s
behind x (arguments l) h = record { chain = call_chain x l.opens l.most l.last l.closes h; cells = refl; first = refl; tight = refl }
behind x (indexes l) h = cc

pub record IsHead (f : Syntax) (ss : List Suffix) : Type 0 where
  pub chain : is_chain f ≡ true
  pub first : first_of (applied f ss) ≡ first_of f
  pub tight : begins_tight (applied f ss) ≡ begins_tight f

pub head : (f : Syntax) (ss : List Suffix) → is_chain (applied f ss) ≡ true → IsHead f ss
head f [] h = record { chain = h; first = refl; tight = refl }
head f (s ∷ ss) h =
    let r = head (apply f s) ss h in
    let b = behind f s r.chain in
    record { chain = b.chain; first = r.first ∙ b.first; tight = r.tight ∙ b.tight }

-- one atom is taken off
one_off : (x : Syntax) (s : Suffix) (ds : Cells) → is_chain (apply x s) ≡ true → joined (cells_of (apply x s)) ds ≡ joined (cells_of x) (cell (group_of s) ds)
one_off x s ds h = ap (λ cells. joined cells ds) (behind x s h).cells ∙ joined_cell (cells_of x) (group_of s) ds

pub record IsTaken (f : Syntax) (now next : List Application) (es all : List Expr) : Type 0 where
  pub chain : is_chain (applied f (map plain_application next)) ≡ true
  pub cells : joined (cells_of (applied f (map plain_application now))) (taken es) ≡ joined (cells_of (applied f (map plain_application next))) (taken all)

pub group_step : (f : Syntax) (now next : List Application) (a : Application) (es all : List Expr) (g : Expr) → now ≡ next ++ (a ∷ []) → plain g ≡ group_of (plain_application a) → all ≡ es ++ (g ∷ [])
    → is_chain (applied f (map plain_application now)) ≡ true → IsTaken f now next es all
group_step f now next a es all g e p s h =
    let same = ap (λ xs. applied f (map plain_application xs)) e ∙ application_end f next a in
    let c : is_chain (apply (applied f (map plain_application next)) (plain_application a)) ≡ true = ap is_chain (sym same) ∙ h in
    record {
      chain = (behind (applied f (map plain_application next)) (plain_application a) c).chain;
      cells = ap (λ x. joined (cells_of x) (taken es)) same ∙ one_off (applied f (map plain_application next)) (plain_application a) (taken es) c
          ∙ ap (joined (cells_of (applied f (map plain_application next)))) (sym (taken_more es all g (group_of (plain_application a)) s p));
    }

-- ---- operators

pub operation_off : (l : Syntax) (t : Token) (e : Syntax) (n : Token) (es mid all : List Expr) (a : Expr) → leaf n ≡ first_of e → joined (cells_of e) (taken es) ≡ taken mid →
    all ≡ mid ++ (a ∷ []) → plain a ≡ ending (unary t) (leaf n) → joined (cells_of (ending (binary l t) e)) (taken es) ≡ joined (cells_of l) (taken all)
operation_off l t e n es mid all a f c s p =
    joined_joined (with_cell (cells_of l) None (ending (unary t) (first_of e))) (cells_of e) (taken es)
    ∙ ap (joined (with_cell (cells_of l) None (ending (unary t) (first_of e)))) c
    ∙ joined_cell (cells_of l) (ending (unary t) (first_of e)) (taken mid)
    ∙ ap (joined (cells_of l)) (sym (taken_more mid all a (ending (unary t) (first_of e)) s (p ∙ ap (ending (unary t)) f)))

tight_more : (os : List (Token × Syntax)) (o : Token × Syntax) → are_tight_chains (os ++ (o ∷ [])) ≡ (are_tight_chains os && is_tight_chain o.1)
tight_more [] o = and_true (is_tight_chain o.1)
  where
    and_true : (a : Bool) → (a && true) ≡ a
    and_true true = refl
    and_true false = refl
tight_more (p ∷ os) o = ap (λ b. is_tight_chain p.1 && b) (tight_more os o) ∙ and_in (is_tight_chain p.1) (are_tight_chains os) (is_tight_chain o.1)
  where
    and_in : (a b c : Bool) → (a && (b && c)) ≡ ((a && b) && c)
    and_in true b c = refl
    and_in false b c = refl

map_end : (os : List Operation) (o : Operation) → map plain_operation (os ++ (o ∷ [])) ≡ map plain_operation os ++ (plain_operation o ∷ [])
map_end [] o = refl
map_end (p ∷ os) o = ap (λ rest. plain_operation p ∷ rest) (map_end os o)

pub tight_last : (now next : List Operation) (o : Operation) → now ≡ next ++ (o ∷ []) → are_tight_chains (map plain_operation now) ≡ true →
    (are_tight_chains (map plain_operation next) ≡ true) × (is_tight_chain (plain_operation o).1 ≡ true)
tight_last now next o e h = both (are_tight_chains (map plain_operation next)) (is_tight_chain (plain_operation o).1)
    (sym (ap (λ os. are_tight_chains (map plain_operation os)) e ∙ ap are_tight_chains (map_end next o) ∙ tight_more (map plain_operation next) (plain_operation o)) ∙ h)

pub operations_off : (l : Syntax) (now next : List Operation) (o : Operation) (es all : List Expr) → now ≡ next ++ (o ∷ []) →
    joined (cells_of (ending (binary (operated l (map plain_operation next)) (plain_operation o).0) (plain_operation o).1)) (taken es) ≡ joined (cells_of (operated l (map plain_operation next))) (taken all) →
    joined (cells_of (operated l (map plain_operation now))) (taken es) ≡ joined (cells_of (operated l (map plain_operation next))) (taken all)
operations_off l now next o es all e h = ap (λ os. joined (cells_of (operated l (map plain_operation os))) (taken es)) e
    ∙ ap (λ x. joined (cells_of x) (taken es)) (operation_end l next o) ∙ h

pub record IsLeft (l : Syntax) (os : List (Token × Syntax)) : Type 0 where
  pub chain : is_chain l ≡ true
  pub tight : are_tight_chains os ≡ true
  pub first : first_of (operated l os) ≡ first_of l

pub binary_chain : (l : Syntax) (t : Token) (e : Syntax) → is_chain (ending (binary l t) e) ≡ true → (is_tight_chain e ≡ true) × (is_chain l ≡ true)
binary_chain l t e h = let a = both (is_minus t.kind && t.spaced) (is_tight_chain e && is_chain l) h in both (is_tight_chain e) (is_chain l) a.1

pub left_end : (l : Syntax) (os : List (Token × Syntax)) → is_chain (operated l os) ≡ true → IsLeft l os
left_end l [] h = record { chain = h; tight = refl; first = refl }
left_end l (o ∷ os) h =
    let r = left_end (ending (binary l o.0) o.1) os h in
    let b = binary_chain l o.0 o.1 r.chain in
    record { chain = b.1; tight = ap (λ x. x && are_tight_chains os) b.0 ∙ r.tight; first = r.first }

-- ---- one row

single_joined : (a b : Cells) → are_single a ≡ true → are_single b ≡ true → are_single (joined a b) ≡ true
single_joined no_cells b h k = k
single_joined (cell x a) b h k = single_joined a b h k
single_joined (row t x a) b h k = cc

pub single_cells : (e : Syntax) → are_single (cells_of e) ≡ true
single_cells (ending (unary t) e) = single_cells e
single_cells (ending (binary l t) e) = single_joined (with_cell (cells_of l) None (ending (unary t) (first_of e))) (cells_of e) (single_cell (cells_of l) (ending (unary t) (first_of e)) ∙ single_cells l) (single_cells e)
single_cells (bracket (called f) o es last c) = single_cell (cells_of f) (bracket grouped o es last c) ∙ single_cells f
single_cells _ = refl

-- ---- steps of the loops

pub record IsLess (current next : Expr) (es all : List Expr) : Type 0 where
  pub chain : is_chain (plain next) ≡ true
  pub first : first_of (plain current) ≡ first_of (plain next)
  pub cells : joined (cells_of (plain current)) (taken es) ≡ joined (cells_of (plain next)) (taken all)

-- a call, whose parentheses and those before are taken off
-- the last parentheses of a call are taken off
pub call_off : (x : Syntax) (l : Listing) (es mid : List Expr) → mid ≡ es ++ (variant.Group l ∷ []) → is_chain (apply x (arguments (plain_listing l))) ≡ true →
    (is_chain x ≡ true) × (joined (cells_of (apply x (arguments (plain_listing l)))) (taken es) ≡ joined (cells_of x) (taken mid))
call_off x l es mid m h = (
  (behind x (arguments (plain_listing l)) h).chain,
  one_off x (arguments (plain_listing l)) (taken es) h ∙ ap (joined (cells_of x)) (sym (taken_more es mid (variant.Group l) (group_of (arguments (plain_listing l))) m (plain_group l))),
)

pub call_step : (current first next : Expr) (before : List Application) (l : Listing) (es all : List Expr) → current ≡ variant.Call first before l → next ≡ first →
    ((f : Syntax) → is_chain (apply (applied f (map plain_application before)) (arguments (plain_listing l))) ≡ true →
    joined (cells_of (apply (applied f (map plain_application before)) (arguments (plain_listing l)))) (taken es) ≡ joined (cells_of f) (taken all)) →
    is_chain (plain current) ≡ true → IsLess current next es all × (begins_tight (plain current) ≡ begins_tight (plain next))
call_step current first next before l es all e n takes h =
    let x = applied (plain first) (map plain_application before) in
    let same : plain current ≡ apply x (arguments (plain_listing l)) = ap plain e ∙ plain_call first before l in
    let b = behind x (arguments (plain_listing l)) (sym (ap is_chain same) ∙ h) in
    let r = head (plain first) (map plain_application before) b.chain in
    let there : plain first ≡ plain next = ap plain (sym n) in (
      record {
        chain = ap is_chain (sym there) ∙ r.chain;
        first = ap first_of same ∙ b.first ∙ r.first ∙ ap first_of there;
        cells = ap (λ y. joined (cells_of y) (taken es)) same ∙ takes (plain first) (sym (ap is_chain same) ∙ h) ∙ ap (λ y. joined (cells_of y) (taken all)) there;
      },
      ap begins_tight same ∙ b.tight ∙ r.tight ∙ ap begins_tight there,
    )

-- a difference, whose operators are taken off
pub binary_step : (current first next : Expr) (os : List Operation) (last : Operation) (es all : List Expr) → current ≡ variant.Binary first os last → next ≡ first →
    joined (cells_of (ending (binary (operated (plain first) (map plain_operation os)) (plain_operation last).0) (plain_operation last).1)) (taken es) ≡ joined (cells_of (plain first)) (taken all) →
    is_chain (plain current) ≡ true → IsLess current next es all
binary_step current first next os last es all e n a h =
    let x = operated (plain first) (map plain_operation os) in
    let same : plain current ≡ ending (binary x (plain_operation last).0) (plain_operation last).1 = ap plain e ∙ plain_binary first os last in
    let c = binary_chain x (plain_operation last).0 (plain_operation last).1 (sym (ap is_chain same) ∙ h) in
    let r = left_end (plain first) (map plain_operation os) c.1 in
    let there : plain first ≡ plain next = ap plain (sym n) in
    record {
      chain = ap is_chain (sym there) ∙ r.chain;
      first = ap first_of same ∙ r.first ∙ ap first_of there;
      cells = ap (λ y. joined (cells_of y) (taken es)) same ∙ a ∙ ap (λ y. joined (cells_of y) (taken all)) there;
    }

pub both_tight : (e : Syntax) (d : Syntax) → is_tight_chain e ≡ true → begins_tight e ≡ begins_tight d → is_chain d ≡ true → is_tight_chain d ≡ true
both_tight e d h t c = ap (λ x. x && is_chain d) (sym t ∙ (both (begins_tight e) (is_chain e) h).0) ∙ c

pub chain_of_tight : (e : Syntax) → is_tight_chain e ≡ true → is_chain e ≡ true
chain_of_tight e h = (both (begins_tight e) (is_chain e) h).1

pub operations_tight : (current first : Expr) (os : List Operation) (last : Operation) → current ≡ variant.Binary first os last → is_chain (plain current) ≡ true →
    (is_tight_chain (plain_operation last).1 ≡ true) × (are_tight_chains (map plain_operation os) ≡ true)
operations_tight current first os last e h =
    let x = operated (plain first) (map plain_operation os) in
    let same : plain current ≡ ending (binary x (plain_operation last).0) (plain_operation last).1 = ap plain e ∙ plain_binary first os last in
    let c = binary_chain x (plain_operation last).0 (plain_operation last).1 (sym (ap is_chain same) ∙ h) in
    (c.0, (left_end (plain first) (map plain_operation os) c.1).tight)

pub negative_tight : (current : Expr) (t : Token) (e : Expr) → current ≡ variant.Unary t e → is_chain (plain current) ≡ true → is_tight_chain (plain e) ≡ true
negative_tight current t e h c = (both (is_minus t.kind) (is_tight_chain (plain e)) (sym (ap is_chain (ap plain h ∙ plain_unary t e)) ∙ c)).1

-- ---- in their order again

pub order_step : (cells all : List Cell) (now next : List Expr) (a : Expr) (ds : Cells) → now ≡ next ++ (a ∷ []) → all ≡ cells ++ (roll-Cell (record { semicolon = None; atom = a }) ∷ []) →
    joined (cells_at (map plain_cell cells)) (taken now) ≡ ds → joined (cells_at (map plain_cell all)) (taken next) ≡ ds
order_step cells all now next a ds n s h =
    ap (λ c. joined c (taken next)) (cells_are cells None a all s) ∙ joined_cell (cells_at (map plain_cell cells)) (plain a) (taken next)
    ∙ ap (joined (cells_at (map plain_cell cells))) (sym (taken_more next now a (plain a) n refl)) ∙ h

pub row_numbers : (e : Syntax) (m : ℕ) → is_chain e ≡ true → m ≡ min (profile e).row 255 → m ≡ min (max (height (first_of e)) (height_cells (cells_of e))) 255
row_numbers e m h k = k ∙ ap (λ b. min (if b then row_height e else 0) 255) h
