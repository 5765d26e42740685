-- Parameters and packages with one more at their end, and the numbers of the names.
use Rattle.std.proofs.Common.{ℕ, ◌≡◌, Bool, true, false, ◌&&◌, ◌||◌, not, nat_eq, nat_cmp, List, [], ◌∷◌, ◌++◌, refl, sym, ap, ◌∙◌}
use Rattle.std.specs.List.{list_any}
use Rattle.std.specs.BTreeSet.{BTreeSet, contains}
use Rattle.jd_grammar.specs.declared.token.Token.{Token}
use Rattle.jd_grammar.specs.declared.token.Kind.{Kind}
use Rattle.jd_grammar.specs.declared.token.Kind.TheVariants as kind
use Rattle.jd_grammar.specs.Kinds.{is_name}
use Rattle.jd_grammar.specs.Grammar.{are_same}
use Rattle.jd_grammar.specs.Script.{Parameters, no_parameters, first, next, Packages, using_next, is_fresh}
use Rattle.jd_script.specs.declared.tree.NextName.{NextName}
use Rattle.jd_tree.specs.Keys.{key_of, parameter_keys}
use Rattle.jd_script.specs.PlainScript.{parameters_from, packages_from}
use Rattle.jd_tree.proofs.Naming.{any_swap, same_key}

parameters_more : (ps : Parameters) (ns : List NextName) (n : NextName) → parameters_from ps (ns ++ (n ∷ [])) ≡ next (parameters_from ps ns) n.comma n.name
parameters_more ps [] n = refl
parameters_more ps (m ∷ ns) n = parameters_more (next ps m.comma m.name) ns n

pub parameters_end : (ps : Parameters) (ns all : List NextName) (n : NextName) → all ≡ ns ++ (n ∷ []) → parameters_from ps all ≡ next (parameters_from ps ns) n.comma n.name
parameters_end ps ns all n h = ap (parameters_from ps) h ∙ parameters_more ps ns n

packages_more : (ps : Packages) (ns : List NextName) (n : NextName) → packages_from ps (ns ++ (n ∷ [])) ≡ using_next (packages_from ps ns) n.comma n.name
packages_more ps [] n = refl
packages_more ps (m ∷ ns) n = packages_more (using_next ps m.comma m.name) ns n

pub packages_end : (ps : Packages) (ns all : List NextName) (n : NextName) → all ≡ ns ++ (n ∷ []) → packages_from ps all ≡ using_next (packages_from ps ns) n.comma n.name
packages_end ps ns all n h = ap (packages_from ps) h ∙ packages_more ps ns n

or_swap : (a b : Bool) → (a || b) ≡ (b || a)
or_swap true true = refl
or_swap true false = refl
or_swap false true = refl
or_swap false false = refl

pub numbers_more : (keys more : BTreeSet ℕ) (ps all : Parameters) (comma n : Token) → all ≡ next ps comma n → ((q : ℕ) → contains nat_cmp keys q ≡ list_any (nat_eq q) (parameter_keys ps)) →
    ((q : ℕ) → contains nat_cmp more q ≡ (nat_eq q (key_of n.kind) || contains nat_cmp keys q)) → (q : ℕ) → contains nat_cmp more q ≡ list_any (nat_eq q) (parameter_keys all)
numbers_more keys more ps all comma n e h k q =
    k q ∙ ap (λ b. nat_eq q (key_of n.kind) || b) (h q) ∙ or_swap (nat_eq q (key_of n.kind)) (list_any (nat_eq q) (parameter_keys ps))
    ∙ sym (any_swap q (parameter_keys ps) (key_of n.kind)) ∙ ap (λ x. list_any (nat_eq q) (parameter_keys x)) (sym e)

not_or : (a b : Bool) → not (a || b) ≡ (not b && not a)
not_or true true = refl
not_or true false = refl
not_or false true = refl
not_or false false = refl

-- a name is fresh where its number isn't there
pub fresh_key : (n : Kind) (ps : Parameters) → is_name n ≡ true → not (list_any (nat_eq (key_of n)) (parameter_keys ps)) ≡ is_fresh n ps
fresh_key n no_parameters h = refl
fresh_key n (first m) h = ap not (any_swap (key_of n) [] (key_of m.kind) ∙ sym (same_key n m.kind h))
fresh_key n (next ps comma m) h =
    ap not (any_swap (key_of n) (parameter_keys ps) (key_of m.kind)) ∙ not_or (list_any (nat_eq (key_of n)) (parameter_keys ps)) (nat_eq (key_of n) (key_of m.kind))
    ∙ ap (λ b. not b && not (list_any (nat_eq (key_of n)) (parameter_keys ps))) (sym (same_key n m.kind h)) ∙ ap (λ b. not (are_same n m.kind) && b) (fresh_key n ps h)

others_fresh : (ps : Parameters) (n : Kind) → ((m : Kind) → are_same n m ≡ false) → true ≡ is_fresh n ps
others_fresh no_parameters n h = refl
others_fresh (first m) n h = ap not (sym (h m.kind))
others_fresh (next ps comma m) n h = others_fresh ps n h ∙ ap (λ b. not b && is_fresh n ps) (sym (h m.kind))

none_same : (n m : Kind) → is_name n ≡ false → are_same n m ≡ false
none_same (kind.Name a) m h = cc
none_same _ m h = refl

pub other_fresh : (n : Kind) (ps : Parameters) → is_name n ≡ false → true ≡ is_fresh n ps
other_fresh n ps h = others_fresh ps n (λ m. none_same n m h)
