-- The steps that a tree of the grammar leads to.
use Rattle.std.proofs.Common.{ℕ, ◌≡◌, ◌≤◌, ◌<◌, Bool, true, false, ◌&&◌, IsTrue, List, [], ◌∷◌, Option, Some, None, nat_le, if◌then◌else◌, refl, sym, ap, ◌∙◌, arith}
use Rattle.jd_grammar.specs.declared.token.Token.{Token}
use Rattle.jd_grammar.specs.declared.token.Kind.{Kind}
use Rattle.jd_grammar.specs.declared.token.Kind.TheVariants.{Number, Wide, Text, Name, True, False, Nothing, SpawnAt, FetchFrom, Plus, Minus, Star, And, Or, Xor, Not, Complement, AndAlso, OrElse, Colon, Comma, Semicolon, For, OpenParen, CloseParen, CloseBracket}
use Rattle.jd_grammar.specs.Kinds.{is_leaf, is_least, is_name, is_number, is_unary, is_minus, is_argument, is_spawn, strength, left, stands}
use Rattle.jd_grammar.specs.Grammar.{Syntax, leaf, sign, ending, bracket, Head, unary, binary, choice, lambda, spawn, keyword, Bracket, grouped, called, itemed, indexed, Items, none, nothing, just, closes, is_separator, is_shape, touches, is_tight, asks, level, are_parameters}
use Rattle.jd_grammar.specs.Frames.{Hold, spawning, in_bracket, in_middle, in_group, Frame, open_end, fixed, operator, atoms, minus, State, want, have, await, demand, ranges, negated}
use Rattle.jd_grammar.specs.Machine.{close, with_item, is_closer, item_step, row_end, close_step, bracket_step, want_end, wide_step, want_step, filled, takes, atoms_step, at_binary, at_question, at_arrow, at_keyword, at_end, have_more, have_step, step}
use Rattle.jd_grammar.proofs.Close.{test_le, test_gt}
use Rattle.jd_grammar.proofs.Absurd.{no}

-- what follows the machine's steps, as a run of it does
pub record Follows : Type 1 where
  pub to : Type 0
  pub run : List Token → State → to
  pub goes : (t : Token) (rest : List Token) (s d : State) → step t s ≡ Some d → run (t ∷ rest) s ≡ run rest d

pub at_want : (m : Follows) (k : Kind) (t : Token) (fs : List Frame) (rest : List Token) (d : State) → t.kind ≡ k → want_step k t fs ≡ Some d → m.run (t ∷ rest) (want fs) ≡ m.run rest d
at_want m k t fs rest d h s = m.goes t rest (want fs) d (ap (λ x. want_step x t fs) h ∙ s)

pub at_have : (m : Follows) (k : Kind) (t : Token) (fs : List Frame) (e : Syntax) (rest : List Token) (d : State) → t.kind ≡ k → have_step k t fs e ≡ Some d → m.run (t ∷ rest) (have fs e) ≡ m.run rest d
at_have m k t fs e rest d h s = m.goes t rest (have fs e) d (ap (λ x. have_step x t fs e) h ∙ s)

-- ---- where an operand is wanted

and_false : (b : Bool) → (b && false) ≡ true → ⊥
and_false true h = cc
and_false false h = cc

pub if_some : (b : Bool) (d : State) → b ≡ true → (if b then Some d else None) ≡ Some d
if_some b d h = ap (λ x. if x then Some d else None) h

pub if_else : (b : Bool) (d : State) (o : Option State) → b ≡ true → (if b then Some d else o) ≡ Some d
if_else b d o h = ap (λ x. if x then Some d else o) h

pub and_true : (a b : Bool) → a ≡ true → b ≡ true → (a && b) ≡ true
and_true a b h k = ap (λ x. x && b) h ∙ k

wide_leaf : (t : Token) (fs : List Frame) → (negated fs && is_least t.kind t.spaced) ≡ true → wide_step t fs ≡ Some (have fs (leaf t))
wide_leaf t (open_end (binary l m) ∷ (fixed (in_bracket itemed o none) ∷ fs)) h = cc
wide_leaf t fs h = if_some (negated fs && is_least t.kind t.spaced) (have fs (leaf t)) h

pub leaf_steps : (t : Token) (fs : List Frame) → IsTrue (if is_leaf t.kind then true else negated fs && is_least t.kind t.spaced) → want_step t.kind t fs ≡ Some (have fs (leaf t))
leaf_steps t fs = elim t.kind as (λ k. (k ≡ t.kind) → IsTrue (if is_leaf k then true else negated fs && is_least k t.spaced) → want_step k t fs ≡ Some (have fs (leaf t))) [
  | Number n ↦ λ k h. refl
  | Text n ↦ λ k h. refl
  | Name n ↦ λ k h. refl
  | True ↦ λ k h. refl
  | False ↦ λ k h. refl
  | Nothing ↦ λ k h. refl
  | Wide b ↦ λ k h. wide_leaf t fs (ap (λ x. negated fs && is_least x t.spaced) (sym k) ∙ h)
  | _ ↦ λ k h. absurd (and_false (negated fs) h)
] refl

pub unary_steps : (t : Token) (fs : List Frame) → IsTrue (is_unary t.kind) → want_step t.kind t fs ≡ Some (want (open_end (unary t) ∷ fs))
unary_steps t fs = elim t.kind as (λ k. IsTrue (is_unary k) → want_step k t fs ≡ Some (want (open_end (unary t) ∷ fs))) [
  | Plus ↦ λ h. refl
  | Minus ↦ λ h. refl
  | Not ↦ λ h. refl
  | Complement ↦ λ h. refl
  | _ ↦ λ h. no h
]

pub spawn_steps : (t : Token) (fs : List Frame) → IsTrue (is_spawn t.kind) → demand fs ≤ 1 → want_step t.kind t fs ≡ Some (await fs (atoms (spawning t)))
spawn_steps t fs h d = elim t.kind as (λ k. IsTrue (is_spawn k) → want_step k t fs ≡ Some (await fs (atoms (spawning t)))) [
  | SpawnAt ↦ λ h. if_some (nat_le (demand fs) 1) (await fs (atoms (spawning t))) (test_le (demand fs) 1 d)
  | FetchFrom ↦ λ h. if_some (nat_le (demand fs) 1) (await fs (atoms (spawning t))) (test_le (demand fs) 1 d)
  | _ ↦ λ h. no h
] h

-- ---- behind an operand

pub left_ge : (k : Kind) → 1 ≤ strength k → 3 ≤ left k
left_ge OrElse h = omega arith
left_ge AndAlso h = omega arith
left_ge Colon h = omega arith
left_ge Plus h = omega arith
left_ge Star h = omega arith
left_ge _ h = omega arith

pub left_le : (k : Kind) → left k ≤ 8
left_le OrElse = omega arith
left_le AndAlso = omega arith
left_le Colon = omega arith
left_le Plus = omega arith
left_le Star = omega arith
left_le _ = omega arith

pub strength_left : (k : Kind) → 1 ≤ strength k → strength k ≤ left k
strength_left OrElse h = omega arith
strength_left AndAlso h = omega arith
strength_left Colon h = omega arith
strength_left Plus h = omega arith
strength_left Star h = omega arith
strength_left _ h = omega arith

level_below : (h : Head) (p : ℕ) → 3 ≤ p → p ≤ 8 → asks h ≤ p → level h < p
level_below (unary t) p l g a = absurd (omega arith)
level_below (binary x t) p l g a = omega arith
level_below (choice c q x t) p l g a = omega arith
level_below (lambda ns t) p l g a = omega arith
level_below (spawn t a) p l g h = omega arith
level_below (keyword n t) p l g a = omega arith

-- what asks for no more than p isn't ended by it
pub stays : (p : ℕ) (fs : List Frame) (e : Syntax) → 3 ≤ p → p ≤ 8 → demand fs ≤ p → close p fs e ≡ (fs, e)
stays p [] e l g d = refl
stays p (open_end h ∷ fs) e l g d = ap (λ b. if b then close p fs (ending h e) else (open_end h ∷ fs, e)) (test_gt p (level h) (level_below h p l g d))
stays p (fixed f ∷ fs) e l g d = refl

pub binary_steps : (t : Token) (gs fs : List Frame) (x l : Syntax) → 1 ≤ strength t.kind → stands t.kind (ranges gs) ≡ true → close (left t.kind) gs x ≡ (fs, l) → demand fs ≤ strength t.kind
    → have_step t.kind t gs x ≡ Some (want (open_end (binary l t) ∷ fs))
binary_steps t gs fs x l h s c d =
    ap (λ b. if b then (if stands t.kind (ranges gs) then at_binary t (close (left t.kind) gs x) else at_end t.kind t (close 0 gs x)) else have_more t.kind t gs x) (test_le 1 (strength t.kind) h)
    ∙ ap (λ b. if b then at_binary t (close (left t.kind) gs x) else at_end t.kind t (close 0 gs x)) s
    ∙ ap (at_binary t) c
    ∙ if_some (nat_le (demand fs) (strength t.kind)) (want (open_end (binary l t) ∷ fs)) (test_le (demand fs) (strength t.kind) d)

pub question_steps : (t : Token) (gs fs : List Frame) (x c : Syntax) → close 3 gs x ≡ (fs, c) → demand fs ≤ 2 → at_question t (close 3 gs x) ≡ Some (want (fixed (in_middle c t) ∷ fs))
question_steps t gs fs x c h d = ap (at_question t) h ∙ if_some (nat_le (demand fs) 2) (want (fixed (in_middle c t) ∷ fs)) (test_le (demand fs) 2 d)

pub arrow_steps : (t : Token) (fs : List Frame) (ns : Syntax) → demand fs ≤ 1 → are_parameters ns ≡ true → at_arrow t fs ns ≡ Some (want (open_end (lambda ns t) ∷ fs))
arrow_steps t fs ns d h = if_some (nat_le (demand fs) 1 && are_parameters ns) (want (open_end (lambda ns t) ∷ fs)) (and_true (nat_le (demand fs) 1) (are_parameters ns) (test_le (demand fs) 1 d) h)

pub keyword_steps : (n t : Token) (fs : List Frame) → demand fs ≤ 0 → is_name n.kind ≡ true → at_keyword t fs (leaf n) ≡ Some (want (open_end (keyword n t) ∷ fs))
keyword_steps n t fs d h = if_some (nat_le (demand fs) 0 && is_name n.kind) (want (open_end (keyword n t) ∷ fs)) (and_true (nat_le (demand fs) 0) (is_name n.kind) (test_le (demand fs) 0 d) h)

-- ---- items

-- what may follow an item, where no operand begins
pub is_ender : Kind → Bool
is_ender Comma = true
is_ender Semicolon = true
is_ender CloseParen = true
is_ender CloseBracket = true
is_ender For = true
is_ender _ = false

pub ender_have : (k : Kind) (t : Token) (fs : List Frame) (e : Syntax) → is_ender k ≡ true → have_step k t fs e ≡ at_end k t (close 0 fs e)
unfolding is_ender
ender_have Comma t fs e h = refl
ender_have Semicolon t fs e h = refl
ender_have CloseParen t fs e h = refl
ender_have CloseBracket t fs e h = refl
ender_have For t fs e h = refl
ender_have _ t fs e h = no h

pub ender_want : (k : Kind) (t : Token) (fs : List Frame) → is_ender k ≡ true → want_step k t fs ≡ want_end k t fs
unfolding is_ender
ender_want Comma t fs h = refl
ender_want Semicolon t fs h = refl
ender_want CloseParen t fs h = refl
ender_want CloseBracket t fs h = refl
ender_want For t fs h = refl
ender_want _ t fs h = no h

pub separator_ends : (b : Bracket) (k : Kind) → is_separator b k ≡ true → is_ender k ≡ true
unfolding is_ender
separator_ends b Comma h = refl
separator_ends b Semicolon h = refl
separator_ends b _ h = no h

pub closer_ends : (b : Bracket) → is_ender (closes b) ≡ true
unfolding is_ender
closer_ends grouped = refl
closer_ends (called f) = refl
closer_ends itemed = refl
closer_ends (indexed f) = refl

pub for_ends : is_ender For ≡ true
unfolding is_ender
for_ends = refl

pub comma_ends : is_ender Comma ≡ true
unfolding is_ender
comma_ends = refl

pub closer_of : (b : Bracket) → is_closer b (closes b) ≡ true
closer_of grouped = refl
closer_of (called f) = refl
closer_of itemed = refl
closer_of (indexed f) = refl

separator_step : (b : Bracket) (o : Token) (es : Items) (k : Kind) (t : Token) (fs : List Frame) (e : Syntax) → is_separator b k ≡ true → bracket_step b o es k t fs e ≡ item_step b o es t fs e
separator_step b o es Comma t fs e h = refl
separator_step (called f) o es Semicolon t fs e h = refl
separator_step _ o es _ t fs e h = no h

pub item_steps : (b : Bracket) (o : Token) (es : Items) (t : Token) (fs : List Frame) (e : Syntax) → is_separator b t.kind ≡ true → touches e t ≡ true
    → bracket_step b o es t.kind t fs e ≡ Some (want (fixed (in_bracket b o (with_item es e t)) ∷ fs))
item_steps b o es t fs e h k = separator_step b o es t.kind t fs e h
    ∙ if_some (is_separator b t.kind && touches e t) (want (fixed (in_bracket b o (with_item es e t)) ∷ fs)) (and_true (is_separator b t.kind) (touches e t) h k)

closer_step : (b : Bracket) (o : Token) (es : Items) (t : Token) (fs : List Frame) (e : Syntax) → bracket_step b o es (closes b) t fs e ≡ close_step b o es t fs e
closer_step grouped o es t fs e = refl
closer_step (called f) o es t fs e = refl
closer_step itemed o es t fs e = refl
closer_step (indexed f) o es t fs e = refl

pub close_steps : (b : Bracket) (o : Token) (es : Items) (t : Token) (fs : List Frame) (e : Syntax) → t.kind ≡ closes b → is_shape b es (just e) ≡ true → touches e t ≡ true
    → bracket_step b o es t.kind t fs e ≡ Some (have fs (bracket b o es (just e) t))
close_steps b o es t fs e h g k = ap (λ x. bracket_step b o es x t fs e) h ∙ closer_step b o es t fs e
    ∙ ap (λ x. if x then (if is_shape b es (just e) then Some (have fs (bracket b o es (just e) t)) else row_end o t fs e) else None) (and_true (is_closer b t.kind) (touches e t) (ap (is_closer b) h ∙ closer_of b) k)
    ∙ if_else (is_shape b es (just e)) (have fs (bracket b o es (just e) t)) (row_end o t fs e) g

pub empty_steps : (b : Bracket) (o : Token) (es : Items) (t : Token) (fs : List Frame) → t.kind ≡ closes b → is_shape b es nothing ≡ true
    → want_step t.kind t (fixed (in_bracket b o es) ∷ fs) ≡ Some (have fs (bracket b o es nothing t))
empty_steps b o es t fs h k = ender_want t.kind t (fixed (in_bracket b o es) ∷ fs) (ap is_ender h ∙ closer_ends b)
    ∙ if_some (is_closer b t.kind && is_shape b es nothing) (have fs (bracket b o es nothing t)) (and_true (is_closer b t.kind) (is_shape b es nothing) (ap (is_closer b) h ∙ closer_of b) k)

-- an operator as an argument, and what follows it
pub sign_runs : (m : Follows) (u t : Token) (f : Syntax) (o : Token) (es : Items) (fs : List Frame) (rest : List Token) (d : State) → is_argument u.kind ≡ true → is_ender t.kind ≡ true
    → bracket_step (called f) o es t.kind t fs (sign u) ≡ Some d → m.run (u ∷ t ∷ rest) (want (fixed (in_bracket (called f) o es) ∷ fs)) ≡ m.run rest d
sign_runs m u t f o es fs rest d a h s = elim u.kind as (λ k. u.kind ≡ k → m.run (u ∷ t ∷ rest) (want (fixed (in_bracket (called f) o es) ∷ fs)) ≡ m.run rest d) [
  | Plus ↦ λ k. m.goes u (t ∷ rest) (want (fixed (in_bracket (called f) o es) ∷ fs)) (want (open_end (unary u) ∷ (fixed (in_bracket (called f) o es) ∷ fs))) (ap (λ x. want_step x u (fixed (in_bracket (called f) o es) ∷ fs)) k)
      ∙ m.goes t rest (want (open_end (unary u) ∷ (fixed (in_bracket (called f) o es) ∷ fs))) d
      (ender_want t.kind t (open_end (unary u) ∷ (fixed (in_bracket (called f) o es) ∷ fs)) h ∙ ap (λ b. if b then bracket_step (called f) o es t.kind t fs (sign u) else None) a ∙ s)
  | Star ↦ λ k. waits (ap (λ x. want_step x u (fixed (in_bracket (called f) o es) ∷ fs)) k)
  | And ↦ λ k. waits (ap (λ x. want_step x u (fixed (in_bracket (called f) o es) ∷ fs)) k)
  | Or ↦ λ k. waits (ap (λ x. want_step x u (fixed (in_bracket (called f) o es) ∷ fs)) k)
  | Xor ↦ λ k. waits (ap (λ x. want_step x u (fixed (in_bracket (called f) o es) ∷ fs)) k)
  | _ ↦ λ k. (let z = sym (ap is_argument k) ∙ a in cc)
] refl
  where
    waits : want_step u.kind u (fixed (in_bracket (called f) o es) ∷ fs) ≡ Some (await (fixed (in_bracket (called f) o es) ∷ fs) (operator u)) → m.run (u ∷ t ∷ rest) (want (fixed (in_bracket (called f) o es) ∷ fs)) ≡ m.run rest d
    waits g = m.goes u (t ∷ rest) (want (fixed (in_bracket (called f) o es) ∷ fs)) (await (fixed (in_bracket (called f) o es) ∷ fs) (operator u)) g
        ∙ m.goes t rest (await (fixed (in_bracket (called f) o es) ∷ fs) (operator u)) d s

-- ---- atoms

plain_atom : (hold : Hold) (t : Token) (fs : List Frame) → (if is_number t.kind then true else is_name t.kind) ≡ true → takes hold t ≡ true → atoms_step hold t.kind t fs ≡ Some (filled hold (leaf t) fs)
plain_atom hold t fs h k = elim t.kind as (λ k. (if is_number k then true else is_name k) ≡ true → atoms_step hold k t fs ≡ Some (filled hold (leaf t) fs)) [
  | Number n ↦ λ h. if_some (takes hold t) (filled hold (leaf t) fs) k
  | Name n ↦ λ h. if_some (takes hold t) (filled hold (leaf t) fs) k
  | _ ↦ λ h. no h
] h

pub leaf_atom : (m : Follows) (hold : Hold) (t : Token) (fs : List Frame) (rest : List Token) → (if is_number t.kind then true else is_name t.kind) ≡ true → takes hold t ≡ true
    → m.run (t ∷ rest) (await fs (atoms hold)) ≡ m.run rest (filled hold (leaf t) fs)
leaf_atom m hold t fs rest h k = m.goes t rest (await fs (atoms hold)) (filled hold (leaf t) fs) (plain_atom hold t fs h k)

pub minus_atom : (m : Follows) (hold : Hold) (t n : Token) (fs : List Frame) (rest : List Token) → t.kind ≡ Minus → is_tight n ≡ true → takes hold t ≡ true
    → m.run (t ∷ n ∷ rest) (await fs (atoms hold)) ≡ m.run rest (filled hold (ending (unary t) (leaf n)) fs)
minus_atom m hold t n fs rest k h g =
    m.goes t (n ∷ rest) (await fs (atoms hold)) (await fs (minus hold t)) (ap (λ x. atoms_step hold x t fs) k ∙ if_some (takes hold t) (await fs (minus hold t)) g)
    ∙ m.goes n rest (await fs (minus hold t)) (filled hold (ending (unary t) (leaf n)) fs) (if_some (is_tight n) (filled hold (ending (unary t) (leaf n)) fs) h)

pub open_atom : (m : Follows) (hold : Hold) (t : Token) (fs : List Frame) (rest : List Token) → t.kind ≡ OpenParen → takes hold t ≡ true → m.run (t ∷ rest) (await fs (atoms hold)) ≡ m.run rest (want (fixed (in_group hold t) ∷ fs))
open_atom m hold t fs rest k g = m.goes t rest (await fs (atoms hold)) (want (fixed (in_group hold t) ∷ fs)) (ap (λ x. atoms_step hold x t fs) k ∙ if_some (takes hold t) (want (fixed (in_group hold t) ∷ fs)) g)

pub minus_of : (k : Kind) → is_minus k ≡ true → k ≡ Minus
minus_of Minus h = refl
minus_of _ h = no h
