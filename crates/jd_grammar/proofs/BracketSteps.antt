-- What stands in parentheses or brackets: each step keeps the tokens and the order of a state.
use Rattle.std.proofs.Common.{◌≡◌, Bool, true, false, ◌&&◌, not, IsTrue, List, ◌∷◌, Option, Some, None, if◌then◌else◌, refl, sym, ap, ◌∙◌, arith}
use Rattle.jd_grammar.specs.declared.token.Token.{Token}
use Rattle.jd_grammar.specs.declared.token.Kind.{Kind}
use Rattle.jd_grammar.specs.declared.token.Kind.TheVariants.{Number, Name, Comma, Semicolon, For, CloseParen, OpenBracket, CloseBracket}
use Rattle.jd_grammar.specs.Kinds.{is_leaf, is_least, is_number, is_name, is_argument}
use Rattle.jd_grammar.specs.Grammar.{Syntax, leaf, sign, bracket, matrix, unary, Bracket, grouped, called, itemed, indexed, Items, none, more, nothing, just, put, put_items, closes, item_level, is_separator, is_shape, touches, is_atom, is_spaced, is_row, is_full, IsAt, AreItems}
use Rattle.jd_grammar.specs.Rows.{is_chain, first_of, cells_of, with_cell, first_width, are_begun, may_go_on}
use Rattle.jd_grammar.specs.Frames.{rows, Fixed, in_bracket, Frame, open_end, fixed, atoms, State, want, have, await}
use Rattle.jd_grammar.specs.Machine.{with_item, is_closer, item_step, row_end, close_step, second_step, semicolon_step, for_step, bracket_step, empty_step, want_end, operator_step}
use Rattle.jd_grammar.proofs.Invariant.{put_fixed, put_frames, put_state, IsHold, IsFixed, AreFrames, IsState, MayStep, may_if, both}
use Rattle.jd_grammar.proofs.RowFacts.{even_cell, go_begun, single_cells, single_even, many_with_cell}
use Rattle.jd_grammar.proofs.RowSplit.{put_with_cell, are_with_cell, IsSplit, split, row_chain}
use Rattle.jd_grammar.proofs.Absurd.{no}

pub closer_kind : (b : Bracket) (k : Kind) → is_closer b k ≡ true → k ≡ closes b
closer_kind grouped CloseParen h = refl
closer_kind (called f) CloseParen h = refl
closer_kind itemed CloseBracket h = refl
closer_kind (indexed f) CloseBracket h = refl
closer_kind _ _ h = no h

pub put_with_item : (es : Items) (e : Syntax) (t : Token) (rest : List Token) → put_items (with_item es e t) rest ≡ put_items es (put e (t ∷ rest))
put_with_item none e t rest = refl
put_with_item (more x c es) e t rest = ap (λ ts. put x (c ∷ ts)) (put_with_item es e t rest)

are_with_item : (b : Bracket) (es : Items) (e : Syntax) (t : Token) → AreItems b es → IsAt true false (item_level b) e → IsTrue (is_separator b t.kind) → IsTrue (touches e t) → AreItems b (with_item es e t)
are_with_item b none e t w v k h = (v, k, h, tt)
are_with_item b (more x c es) e t w v k h = (w.0, w.1, w.2, are_with_item b es e t w.3 v k h)

-- the item and what follows it stand where the state's last tokens do
abbrev pub Stand : State → Token → Fixed → List Frame → Syntax → Type 0
Stand s t f fs e = (rest : List Token) → put_frames fs (put_fixed f (put e (t ∷ rest))) ≡ put_state s (t ∷ rest)

item_ok : (s : State) (b : Bracket) (o : Token) (es : Items) (t : Token) (fs : List Frame) (e : Syntax) → IsFixed fs (in_bracket b o es) → AreFrames fs
    → IsAt true false (item_level b) e → Stand s t (in_bracket b o es) fs e → MayStep t s (item_step b o es t fs e)
item_ok s b o es t fs e w v u h = may_if t s (want (fixed (in_bracket b o (with_item es e t)) ∷ fs)) (is_separator b t.kind && touches e t) (λ k.
    let c = both (is_separator b t.kind) (touches e t) k in
    record {
      state = record { frames = ((w.0, w.1, are_with_item b es e t w.2 u c.0 c.1), v); now = tt };
      tokens = λ rest. ap (λ ts. put_frames fs (put_fixed (in_bracket b o none) ts)) (put_with_item es e t rest) ∙ h rest;
    })

-- what is no list of one element is a row
not_shape : (b : Bracket) (es : Items) (e : Syntax) → is_shape b es (just e) ≡ false → (b ≡ itemed) × (es ≡ none) × (is_row e ≡ true)
not_shape itemed none e h = (refl, refl, row_of (is_row e) h)
  where
    row_of : (b : Bool) → not b ≡ false → b ≡ true
    row_of true h = refl
    row_of false h = cc
not_shape grouped es e h = cc
not_shape (called f) es e h = cc
not_shape itemed (more _ _ _) e h = cc
not_shape (indexed f) es e h = cc

row_end_ok : (s : State) (o : Token) (t : Token) (fs : List Frame) (e : Syntax) → IsFixed fs (in_bracket itemed o none) → AreFrames fs → IsAt true false 1 e → is_row e ≡ true → t.kind ≡ CloseBracket
    → Stand s t (in_bracket itemed o none) fs e → MayStep t s (row_end o t fs e)
row_end_ok s o t fs e w v u r k h = may_if t s (have fs (matrix o (first_of e) (cells_of e) t)) (is_full (cells_of e)) (λ f.
    let c = row_chain e r in
    let p = split e true false 1 c.0 u in
    record {
      state = record { frames = v; now = (w.1, p.first, p.atom refl, p.cells, c.1, f, k) };
      tokens = λ rest. ap (λ ts. put_frames fs (o ∷ ts)) (sym (p.tokens (t ∷ rest))) ∙ h rest;
    })

close_ok : (s : State) (b : Bracket) (o : Token) (es : Items) (t : Token) (fs : List Frame) (e : Syntax) → IsFixed fs (in_bracket b o es) → AreFrames fs
    → IsAt true false (item_level b) e → Stand s t (in_bracket b o es) fs e → MayStep t s (close_step b o es t fs e)
close_ok s b o es t fs e w v u h =
    elim (is_closer b t.kind && touches e t) as (λ x. (is_closer b t.kind && touches e t) ≡ x → MayStep t s (if x then (if is_shape b es (just e) then Some (have fs (bracket b o es (just e) t)) else row_end o t fs e) else None)) [
      | true ↦ λ k. (let c = both (is_closer b t.kind) (touches e t) k in
          elim (is_shape b es (just e)) as (λ x. is_shape b es (just e) ≡ x → MayStep t s (if x then Some (have fs (bracket b o es (just e) t)) else row_end o t fs e)) [
            | true ↦ λ f. record { state = record { frames = v; now = (w.0, w.1, w.2, u, closer_kind b t.kind c.0, f, c.1) }; tokens = h }
            | false ↦ λ f. (let n = not_shape b es e f in at_row b es n.0 n.1 n.2 w u (closer_kind b t.kind c.0) h)
          ] refl)
      | false ↦ λ k. tt
    ] refl
  where
    at_row : (b : Bracket) (es : Items) → b ≡ itemed → es ≡ none → is_row e ≡ true → IsFixed fs (in_bracket b o es) → IsAt true false (item_level b) e → t.kind ≡ closes b → Stand s t (in_bracket b o es) fs e → MayStep t s (row_end o t fs e)
    at_row itemed none p q r w u k h = row_end_ok s o t fs e w v u r k h
    at_row grouped es p q r w u k h = cc
    at_row (called f) es p q r w u k h = cc
    at_row itemed (more _ _ _) p q r w u k h = cc
    at_row (indexed f) es p q r w u k h = cc

-- ---- a first element that turns out to be the first row of a matrix

leaf_kind : (k : Kind) → (if is_number k then true else is_name k) ≡ true → is_leaf k ≡ true
leaf_kind (Number n) h = refl
leaf_kind (Name n) h = refl
leaf_kind _ h = no h

-- the row of an expression, and one more atom
pub committed : (o : Token) (e : Syntax) (q : Option Token) (a : Syntax) (fs : List Frame) → o.kind ≡ OpenBracket → IsSplit false e → IsAt true false 9 a → IsTrue (is_atom a) → IsTrue (is_spaced a)
    → are_begun (with_cell (cells_of e) None a) ≡ true → IsHold fs (rows o (first_of e) (with_cell (cells_of e) None a) None)
committed o e q a fs k p u i z g =
    (k, p.first, p.atom refl, are_with_cell (cells_of e) None a p.cells u i z, even_cell 1 (cells_of e) a (single_even (first_width 1 (cells_of e)) 1 (cells_of e) (single_cells e)), g, many_with_cell (cells_of e) None a)

second_ok : (s : State) (b : Bracket) (o : Token) (es : Items) (t : Token) (fs : List Frame) (e : Syntax) → (if is_number t.kind then true else is_name t.kind) ≡ true → IsFixed fs (in_bracket b o es) → AreFrames fs
    → IsAt true false (item_level b) e → Stand s t (in_bracket b o es) fs e → MayStep t s (second_step b o es t fs e)
second_ok s itemed o none t fs e k w v u h =
    may_if t s (await fs (atoms (rows o (first_of e) (with_cell (cells_of e) None (leaf t)) None))) ((t.spaced && is_chain e) && are_begun (with_cell (cells_of e) None (leaf t))) (λ g.
    let b = both (t.spaced && is_chain e) (are_begun (with_cell (cells_of e) None (leaf t))) g in
    let c = both t.spaced (is_chain e) b.0 in
    let p = split e true false 1 c.1 u in
    record {
      state = record { frames = v; now = committed o e None (leaf t) fs w.1 p (ap (λ x. if x then true else false && is_least t.kind t.spaced) (leaf_kind t.kind k)) k c.0 b.1 };
      tokens = λ rest. ap (λ ts. put_frames fs (o ∷ put (first_of e) ts)) (put_with_cell (cells_of e) None (leaf t) rest)
          ∙ ap (λ ts. put_frames fs (o ∷ ts)) (sym (p.tokens (t ∷ rest))) ∙ h rest;
    })
second_ok s grouped o es t fs e k w v u h = tt
second_ok s (called f) o es t fs e k w v u h = tt
second_ok s itemed o (more _ _ _) t fs e k w v u h = tt
second_ok s (indexed f) o es t fs e k w v u h = tt

semicolon_ok : (s : State) (b : Bracket) (o : Token) (es : Items) (t : Token) (fs : List Frame) (e : Syntax) → t.kind ≡ Semicolon → IsFixed fs (in_bracket b o es) → AreFrames fs
    → IsAt true false (item_level b) e → Stand s t (in_bracket b o es) fs e → MayStep t s (semicolon_step b o es t fs e)
semicolon_ok s itemed o none t fs e k w v u h =
    may_if t s (await fs (atoms (rows o (first_of e) (cells_of e) (Some t)))) (is_chain e && may_go_on (cells_of e)) (λ g.
    let c = both (is_chain e) (may_go_on (cells_of e)) g in
    let p = split e true false 1 c.0 u in
    record {
      state = record { frames = v; now = (w.1, p.first, p.atom refl, p.cells, single_even (first_width 1 (cells_of e)) 1 (cells_of e) (single_cells e), go_begun (cells_of e) c.1, (k, c.1)) };
      tokens = λ rest. ap (λ ts. put_frames fs (o ∷ ts)) (sym (p.tokens (t ∷ rest))) ∙ h rest;
    })
semicolon_ok s grouped o es t fs e k w v u h = item_ok s grouped o es t fs e w v u h
semicolon_ok s (called f) o es t fs e k w v u h = item_ok s (called f) o es t fs e w v u h
semicolon_ok s itemed o (more x c es) t fs e k w v u h = item_ok s itemed o (more x c es) t fs e w v u h
semicolon_ok s (indexed f) o es t fs e k w v u h = item_ok s (indexed f) o es t fs e w v u h

for_ok : (s : State) (b : Bracket) (o : Token) (es : Items) (t : Token) (fs : List Frame) (e : Syntax) → t.kind ≡ For → IsFixed fs (in_bracket b o es) → AreFrames fs
    → IsAt true false (item_level b) e → Stand s t (in_bracket b o es) fs e → MayStep t s (for_step b o es t fs e)
for_ok s itemed o none t fs e k w v u h = record { state = record { frames = v; now = (w.1, u, tt, omega arith, k) }; tokens = h }
for_ok s grouped o es t fs e k w v u h = tt
for_ok s (called f) o es t fs e k w v u h = tt
for_ok s itemed o (more _ _ _) t fs e k w v u h = tt
for_ok s (indexed f) o es t fs e k w v u h = tt

pub bracket_ok : (s : State) (b : Bracket) (o : Token) (es : Items) (t : Token) (fs : List Frame) (e : Syntax) → IsFixed fs (in_bracket b o es) → AreFrames fs
    → IsAt true false (item_level b) e → Stand s t (in_bracket b o es) fs e → MayStep t s (bracket_step b o es t.kind t fs e)
bracket_ok s b o es t fs e w v u h = elim t.kind as (λ k. t.kind ≡ k → MayStep t s (bracket_step b o es k t fs e)) [
  | Comma ↦ λ k. item_ok s b o es t fs e w v u h
  | Semicolon ↦ λ k. semicolon_ok s b o es t fs e k w v u h
  | Number n ↦ λ k. second_ok s b o es t fs e (ap (λ x. if is_number x then true else is_name x) k) w v u h
  | Name n ↦ λ k. second_ok s b o es t fs e (ap (λ x. if is_number x then true else is_name x) k) w v u h
  | CloseParen ↦ λ k. close_ok s b o es t fs e w v u h
  | CloseBracket ↦ λ k. close_ok s b o es t fs e w v u h
  | For ↦ λ k. for_ok s b o es t fs e k w v u h
  | _ ↦ λ k. tt
] refl

empty_ok : (s : State) (b : Bracket) (o : Token) (es : Items) (t : Token) (fs : List Frame) → IsFixed fs (in_bracket b o es) → AreFrames fs
    → ((rest : List Token) → put_frames fs (put_fixed (in_bracket b o es) (t ∷ rest)) ≡ put_state s (t ∷ rest)) → MayStep t s (empty_step b o es t fs)
empty_ok s b o es t fs w v h = may_if t s (have fs (bracket b o es nothing t)) (is_closer b t.kind && is_shape b es nothing) (λ k.
    let c = both (is_closer b t.kind) (is_shape b es nothing) k in
    record { state = record { frames = v; now = (w.0, w.1, w.2, tt, closer_kind b t.kind c.0, c.1, refl) }; tokens = h })

-- an operator that turns out to be an argument
sign_ok : (f : Syntax) (o : Token) (es : Items) (q : Token) (t : Token) (fs : List Frame)
    → IsFixed fs (in_bracket (called f) o es) → AreFrames fs
    → MayStep t (want (open_end (unary q) ∷ (fixed (in_bracket (called f) o es) ∷ fs))) (if is_argument q.kind then bracket_step (called f) o es t.kind t fs (sign q) else None)
sign_ok f o es q t fs w v =
    let s = want (open_end (unary q) ∷ (fixed (in_bracket (called f) o es) ∷ fs)) in
    elim (is_argument q.kind) as (λ b. is_argument q.kind ≡ b → MayStep t s (if b then bracket_step (called f) o es t.kind t fs (sign q) else None)) [
      | true ↦ λ k. bracket_ok s (called f) o es t fs (sign q) w v (omega arith, k) (λ rest. refl)
      | false ↦ λ k. tt
    ] refl

pub want_end_ok : (t : Token) (fs : List Frame) → IsState (want fs) → MayStep t (want fs) (want_end t.kind t fs)
want_end_ok t (fixed (in_bracket b o es) ∷ fs) w = empty_ok (want (fixed (in_bracket b o es) ∷ fs)) b o es t fs w.frames.0 w.frames.1 (λ rest. refl)
want_end_ok t (open_end (unary q) ∷ (fixed (in_bracket (called f) o es) ∷ fs)) w = sign_ok f o es q t fs w.frames.2.0 w.frames.2.1
want_end_ok t _ w = tt

pub operator_ok : (t : Token) (fs : List Frame) → IsState (want fs) → IsTrue (is_argument t.kind) → MayStep t (want fs) (operator_step t fs)
operator_ok t (fixed (in_bracket (called f) o es) ∷ fs) w k = record { state = record { frames = w.frames; now = (k, tt) }; tokens = λ rest. refl }
operator_ok t _ w k = tt
