-- What a bracket's form says of its parts.
use Rattle.std.proofs.Common.{ℕ, suc, arith, nat_eq, if◌then◌else◌, Some, None, sym, ap, ◌∙◌, ◌≡◌, ◌↔◌, IsTrue, Bool, true, false, not, List, [], ◌∷◌, map, length, refl}
use Rattle.std.specs.Prelude.{◌==◌}
use Rattle.std.proofs.lemmas.Bool.Decides.{nat_tests}
use Rattle.jd_grammar.specs.Grammar.{Maybe, nothing, Syntax, Bracket, grouped, called, itemed, indexed, Items, none, more, just, is_row, is_shape}
use Rattle.jd_grammar.specs.Rows.{is_chain, is_long}
use Rattle.jd_grammar.proofs.RowFacts.{both}
use Rattle.jd_tree.specs.declared.tree.Item.{Item}
use Rattle.jd_tree.specs.Plain.{plain_item, items_of}
use Rattle.jd_precedence.specs.Parts.{is_first_element, is_nothing, empty_between}
use Rattle.jd_grammar.specs.declared.token.Token.{Token}

not_false : (b : Bool) → not b ≡ false → b ≡ true
not_false true h = refl
not_false false h = cc

-- what is no list is a row of atoms
pub shape_chain : (b : Bracket) (es : Items) (e : Syntax) → is_shape b es (just e) ≡ false → is_chain e ≡ true
shape_chain itemed none e h = (both (is_chain e) (is_long e) (not_false (is_row e) h)).0
shape_chain itemed (more x c es) e h = cc
shape_chain grouped es e h = cc
shape_chain (called f) es e h = cc
shape_chain (indexed f) es e h = cc

-- whether there are none
pub first_items : (xs : List Item) (b : Bool) → (IsTrue b ↔ (xs ≡ [])) → b ≡ is_first_element itemed (items_of (map plain_item xs))
first_items [] b h = h.1 refl
first_items (x ∷ xs) true h = let e = h.0 refl in cc
first_items (x ∷ xs) false h = refl

-- behind other items a last one may stand
pub several_last : (xs : List Item) (b : Bool) (e : Syntax) → (IsTrue b ↔ (xs ≡ [])) → b ≡ false → true ≡ is_shape itemed (items_of (map plain_item xs)) (just e)
several_last [] b e h k = let t = h.1 refl in cc
several_last (x ∷ xs) b e h k = refl

-- nothing stands between parentheses
not_zero : (n : ℕ) (b : Bool) → nat_eq (suc n) 0 ≡ b → b ≡ false
not_zero n true h = let e : suc n ≡ 0 = grind (arith, nat_tests) in absurd (omega (arith, e))
not_zero n false h = refl

pub nothing_items : (xs : List Item) (b : Bool) → b ≡ (length xs == 0) → b ≡ is_nothing (items_of (map plain_item xs)) nothing
nothing_items [] b h = h
nothing_items (x ∷ xs) b h = h ∙ not_zero (length xs) (nat_eq (suc (length xs)) 0) refl

pub something_last : (es : Items) (e : Syntax) → false ≡ is_nothing es (just e)
something_last none e = refl
something_last (more x c es) e = refl

pub empty_then : (o : Token) (es : Items) (m : Maybe) (c : Token) (b : Bool) → b ≡ is_nothing es m → b ≡ true → Some (o, c) ≡ empty_between o es m c
empty_then o es m c b h k = ap (λ x. if x then Some (o, c) else None) (sym k ∙ h)

pub empty_else : (o : Token) (es : Items) (m : Maybe) (c : Token) (b : Bool) → b ≡ is_nothing es m → b ≡ false → None ≡ empty_between o es m c
empty_else o es m c b h k = ap (λ x. if x then Some (o, c) else None) (sym k ∙ h)
