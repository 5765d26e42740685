-- The measures of what is ended as soon as it may be.
use Rattle.std.proofs.Common.{ℕ, ◌≡◌, ◌≤◌, ◌<◌, ◌+◌, Bool, true, false, ◌&&◌, IsTrue, ◌↔◌, List, [], ◌∷◌, map, nat_le, if◌then◌else◌, refl, sym, ap, ◌∙◌}
use Rattle.jd_grammar.specs.Grammar.{none}
use Rattle.jd_grammar.specs.Rows.{most_atoms}
use Rattle.jd_grammar.specs.Profile.{Profile}
use Rattle.jd_tree.specs.declared.profile.Profile as code
use Rattle.jd_tree.specs.declared.tree.Item.{Item}
use Rattle.jd_tree.specs.Plain.{plain_item, items_of}
use Rattle.jd_tree.specs.Measures.{capped, height_up_to}
use Rattle.jd_precedence.specs.Parts.{are_none}
use Rattle.jd_precedence.specs.Depths.{first_parts}
use Rattle.jd_precedence.proofs.Nested.{few_count, many_count}

pick_row : (c l f : Bool) (r t : ℕ) → c ≡ true → l ≡ true → f ≡ true → (if (c && l) && f then r else t) ≡ r
pick_row true true true r t x y z = refl
pick_row true true false r t x y z = cc
pick_row true false f r t x y z = cc
pick_row false l f r t x y z = cc

no_chain : (c l f : Bool) (r t : ℕ) → c ≡ false → (if (c && l) && f then r else t) ≡ t
no_chain true l f r t x = cc
no_chain false l f r t x = refl

no_long : (c l f : Bool) (r t : ℕ) → l ≡ false → (if (c && l) && f then r else t) ≡ t
no_long true true f r t x = cc
no_long true false f r t x = refl
no_long false l f r t x = refl

no_few : (c l f : Bool) (r t : ℕ) → f ≡ false → (if (c && l) && f then r else t) ≡ t
no_few true true true r t x = cc
no_few true true false r t x = refl
no_few true false f r t x = refl
no_few false l f r t x = refl

-- a row of atoms, few enough
pub row_parts : (x : code.Profile) (p : Profile) → x ≡ capped p → x.chain ≡ true → x.long ≡ true → x.atoms < 262144 → x.row ≡ height_up_to (first_parts p)
row_parts x p h c l a = ap (λ (y : code.Profile). y.row) h
    ∙ sym (ap height_up_to (pick_row p.chain p.long (nat_le (p.count + 1) most_atoms) p.row p.tall
    (sym (ap (λ (y : code.Profile). y.chain) h) ∙ c) (sym (ap (λ (y : code.Profile). y.long) h) ∙ l) (few_count p.count x.atoms (ap (λ (y : code.Profile). y.atoms) h) a)))

-- and what is none
pub chain_parts : (x : code.Profile) (p : Profile) → x ≡ capped p → x.chain ≡ false → x.nesting ≡ height_up_to (first_parts p)
chain_parts x p h c = ap (λ (y : code.Profile). y.nesting) h
    ∙ sym (ap height_up_to (no_chain p.chain p.long (nat_le (p.count + 1) most_atoms) p.row p.tall (sym (ap (λ (y : code.Profile). y.chain) h) ∙ c)))

pub long_parts : (x : code.Profile) (p : Profile) → x ≡ capped p → x.long ≡ false → x.nesting ≡ height_up_to (first_parts p)
long_parts x p h l = ap (λ (y : code.Profile). y.nesting) h
    ∙ sym (ap height_up_to (no_long p.chain p.long (nat_le (p.count + 1) most_atoms) p.row p.tall (sym (ap (λ (y : code.Profile). y.long) h) ∙ l)))

pub many_parts : (x : code.Profile) (p : Profile) → x ≡ capped p → 262144 ≤ x.atoms → x.nesting ≡ height_up_to (first_parts p)
many_parts x p h a = ap (λ (y : code.Profile). y.nesting) h
    ∙ sym (ap height_up_to (no_few p.chain p.long (nat_le (p.count + 1) most_atoms) p.row p.tall (many_count p.count x.atoms (ap (λ (y : code.Profile). y.atoms) h) a)))

-- whether there are no items
pub none_items : (xs : List Item) (b : Bool) → (IsTrue b ↔ (xs ≡ [])) → b ≡ are_none (items_of (map plain_item xs))
none_items [] b h = h.1 refl
none_items (x ∷ xs) true h = let e = h.0 refl in cc
none_items (x ∷ xs) false h = refl

pub no_items : (xs : List Item) (b : Bool) → (IsTrue b ↔ (xs ≡ [])) → b ≡ true → items_of (map plain_item xs) ≡ none
no_items [] b h k = refl
no_items (x ∷ xs) b h k = let e = h.0 k in cc
