-- Names that differ, by their numbers.
use Rattle.std.proofs.Common.{ℕ, suc, ◌≡◌, ◌<◌, ◌+◌, Bool, true, false, ◌&&◌, ◌||◌, not, nat_eq, nat_cmp, get_or, take, length, List, [], ◌∷◌, ◌++◌, map, refl, sym, ap, ◌∙◌, arith}
use Rattle.std.proofs.lemmas.Bool.Decides.{nat_tests}
use Rattle.std.proofs.lemmas.List.{take_more}
use Rattle.std.proofs.lemmas.List.Folds.{list_any_more}
use Rattle.std.specs.List.{list_any, list_all}
use Rattle.std.specs.BTreeSet.{BTreeSet, contains}
use Rattle.jd_grammar.specs.declared.token.Word.{Word}
use Rattle.jd_grammar.specs.declared.token.Word.TheVariants as word
use Rattle.jd_grammar.specs.declared.token.Name as a-name
use Rattle.jd_grammar.specs.declared.token.Name.TheVariants as name
use Rattle.jd_grammar.specs.declared.token.Token.{Token}
use Rattle.jd_grammar.specs.declared.token.Kind.{Kind}
use Rattle.jd_grammar.specs.declared.token.Kind.TheVariants as kind
use Rattle.jd_grammar.specs.Kinds.{word_number, same_name, is_named, is_name, is_comma}
use Rattle.jd_grammar.specs.Trees.{Syntax, leaf, sign, ending, bracket, called, matrix, comprehension, remote, Items, none, more, Maybe, just, nothing}
use Rattle.jd_grammar.specs.Script.{are_commas, is_signature}
use Rattle.jd_grammar.specs.Grammar.{name_of, is_name_leaf, are_same, is_new, are_distinct, are_names, is_list_of_names}
use Rattle.jd_tree.specs.declared.tree.Item.{Item}
use Rattle.jd_tree.specs.declared.tree.Application.{Application}
use Rattle.jd_tree.specs.Plain.{Suffix, arguments, indexes, apply, applied, plain_item, plain_application, items_of}
use Rattle.jd_tree.specs.Keys.{name_key, key_of, are_apart}

-- ---- numbers that are apart

eq_swap : (a b : ℕ) → nat_eq a b ≡ nat_eq b a
eq_swap a b = grind (arith, nat_tests)

pub any_swap : (k : ℕ) (xs : List ℕ) (x : ℕ) → list_any (nat_eq k) (xs ++ (x ∷ [])) ≡ (list_any (nat_eq k) xs || nat_eq k x)
any_swap k [] x = or_false (nat_eq k x)
  where
    or_false : (a : Bool) → (a || false) ≡ a
    or_false true = refl
    or_false false = refl
any_swap k (y ∷ xs) x = ap (λ b. nat_eq k y || b) (any_swap k xs x) ∙ or_in (nat_eq k y) (list_any (nat_eq k) xs) (nat_eq k x)
  where
    or_in : (a b c : Bool) → (a || (b || c)) ≡ ((a || b) || c)
    or_in true b c = refl
    or_in false b c = refl

turn : (a b c d : Bool) → (not (a || b) && (c && not d)) ≡ ((not a && c) && not (b || d))
turn true b c d = refl
turn false true true d = refl
turn false true false d = refl
turn false false true d = refl
turn false false false d = refl

pub apart_more : (xs : List ℕ) (k : ℕ) → are_apart (xs ++ (k ∷ [])) ≡ (are_apart xs && not (list_any (nat_eq k) xs))
apart_more [] k = refl
apart_more (x ∷ xs) k =
    ap (λ b. not b && are_apart (xs ++ (k ∷ []))) (any_swap x xs k)
    ∙ ap (λ b. not (list_any (nat_eq x) xs || nat_eq x k) && b) (apart_more xs k)
    ∙ ap (λ b. not (list_any (nat_eq x) xs || b) && (are_apart xs && not (list_any (nat_eq k) xs))) (eq_swap x k)
    ∙ turn (list_any (nat_eq x) xs) (nat_eq k x) (are_apart xs) (list_any (nat_eq k) xs)

or_swap : (a b : Bool) → (a || b) ≡ (b || a)
or_swap true true = refl
or_swap true false = refl
or_swap false true = refl
or_swap false false = refl

pub seen_more : (now next : BTreeSet ℕ) (xs : List ℕ) (i : ℕ) → i < length xs → ((q : ℕ) → contains nat_cmp now q ≡ list_any (nat_eq q) (take i xs)) →
    ((q : ℕ) → contains nat_cmp next q ≡ (nat_eq q (get_or xs i 0) || contains nat_cmp now q)) → (q : ℕ) → contains nat_cmp next q ≡ list_any (nat_eq q) (take (i + 1) xs)
seen_more now next xs i h seen added q =
    added q ∙ ap (λ b. nat_eq q (get_or xs i 0) || b) (seen q) ∙ or_swap (nat_eq q (get_or xs i 0)) (list_any (nat_eq q) (take i xs)) ∙ sym (list_any_more (nat_eq q) xs i 0 h)

pub still_apart : (now : BTreeSet ℕ) (xs : List ℕ) (i : ℕ) (apart added new : Bool) → i < length xs → ((q : ℕ) → contains nat_cmp now q ≡ list_any (nat_eq q) (take i xs)) →
    apart ≡ are_apart (take i xs) → added ≡ not (contains nat_cmp now (get_or xs i 0)) → new ≡ (apart && added) → new ≡ are_apart (take (i + 1) xs)
still_apart now xs i apart added new h seen a d n =
    n ∙ ap (λ b. b && added) a ∙ ap (λ b. are_apart (take i xs) && b) (d ∙ ap not (seen (get_or xs i 0)))
    ∙ sym (apart_more (take i xs) (get_or xs i 0)) ∙ ap are_apart (sym (take_more xs i 0 h))

-- ---- names by numbers

small : (w : Word) → word_number w < 17
small word.Any = omega arith
small word.Channel = omega arith
small word.Distributed = omega arith
small word.DistributedArrays = omega arith
small word.Div = omega arith
small word.Finalize = omega arith
small word.Int = omega arith
small word.Max = omega arith
small word.Min = omega arith
small word.Mod = omega arith
small word.Println = omega arith
small word.Push = omega arith
small word.Rem = omega arith
small word.RemoteChannel = omega arith
small word.Typemax = omega arith
small word.Typemin = omega arith
small word.Xor = omega arith

eq_more : (a b n : ℕ) → nat_eq a b ≡ nat_eq (n + a) (n + b)
eq_more a b n = grind (arith, nat_tests)

less_apart : (a b : ℕ) → a < b → false ≡ nat_eq a b
less_apart a b h = grind (arith, nat_tests)

more_apart : (a b : ℕ) → b < a → false ≡ nat_eq a b
more_apart a b h = grind (arith, nat_tests)

name_eq : (a b : a-name.Name) → same_name a b ≡ nat_eq (1 + name_key a) (1 + name_key b)
name_eq (name.Word a) (name.Word b) = eq_more (word_number a) (word_number b) 1
name_eq (name.Other a) (name.Other b) = eq_more a b 17 ∙ eq_more (17 + a) (17 + b) 1
name_eq (name.Word a) (name.Other b) = less_apart (1 + word_number a) (1 + (17 + b)) (omega (arith, small a))
name_eq (name.Other a) (name.Word b) = more_apart (1 + (17 + a)) (1 + word_number b) (omega (arith, small b))

zero_apart : (n : ℕ) → false ≡ nat_eq (1 + n) 0
zero_apart n = more_apart (1 + n) 0 (omega arith)

name_same : (a : a-name.Name) (k : Kind) → is_named a k ≡ nat_eq (1 + name_key a) (key_of k)
name_same a (kind.Name b) = name_eq a b
name_same a _ = zero_apart (name_key a)

pub same_key : (n k : Kind) → is_name n ≡ true → are_same n k ≡ nat_eq (key_of n) (key_of k)
same_key (kind.Name a) k h = name_same a k
same_key _ k h = cc

-- ---- lists of names

abbrev pub item_name : Syntax × Token → Kind
item_name x = name_of x.0

abbrev pub item_key : Syntax × Token → ℕ
item_key x = key_of (name_of x.0)

all_names : (xs : List (Syntax × Token)) → are_names (items_of xs) ≡ list_all (λ x. is_name (item_name x)) xs
all_names [] = refl
all_names (x ∷ xs) = ap (λ b. is_name (name_of x.0) && b) (all_names xs)

not_or_in : (a b : Bool) → (not a && not b) ≡ not (a || b)
not_or_in true b = refl
not_or_in false b = refl

new_key : (n : Kind) (xs : List (Syntax × Token)) → is_name n ≡ true → is_new n (items_of xs) ≡ not (list_any (nat_eq (key_of n)) (map item_key xs))
new_key n [] h = refl
new_key n (x ∷ xs) h = ap (λ b. not b && is_new n (items_of xs)) (same_key n (name_of x.0) h) ∙ ap (λ b. not (nat_eq (key_of n) (item_key x)) && b) (new_key n xs h)
    ∙ not_or_in (nat_eq (key_of n) (item_key x)) (list_any (nat_eq (key_of n)) (map item_key xs))

first_true : (a b : Bool) → (a && b) ≡ true → a ≡ true
first_true true b h = refl
first_true false b h = h

rest_true : (a b : Bool) → (a && b) ≡ true → b ≡ true
rest_true true b h = h
rest_true false b h = cc

distinct_key : (xs : List (Syntax × Token)) (k : Kind) → list_all (λ x. is_name (item_name x)) xs ≡ true → are_distinct (items_of xs) k ≡ are_apart (map item_key xs ++ (key_of k ∷ []))
distinct_key [] k h = refl
distinct_key (x ∷ xs) k h =
    let a = first_true (is_name (item_name x)) (list_all (λ y. is_name (item_name y)) xs) h in
    let b = rest_true (is_name (item_name x)) (list_all (λ y. is_name (item_name y)) xs) h in
    ap (λ c. (c && not (are_same (name_of x.0) k)) && are_distinct (items_of xs) k) (new_key (name_of x.0) xs a)
    ∙ ap (λ c. (not (list_any (nat_eq (item_key x)) (map item_key xs)) && not c) && are_distinct (items_of xs) k) (same_key (name_of x.0) k a)
    ∙ ap (λ c. (not (list_any (nat_eq (item_key x)) (map item_key xs)) && not (nat_eq (item_key x) (key_of k))) && c) (distinct_key xs k b)
    ∙ ap (λ c. c && are_apart (map item_key xs ++ (key_of k ∷ []))) (not_or_in (list_any (nat_eq (item_key x)) (map item_key xs)) (nat_eq (item_key x) (key_of k)) ∙ ap not (sym (any_swap (item_key x) (map item_key xs) (key_of k))))

list_last : (es : Items) (e : Syntax) → is_list_of_names es (just e) ≡ ((are_names es && is_name_leaf e) && are_distinct es (name_of e))
list_last none e = refl
list_last (more x t es) e = refl

when_named : (a b c : Bool) → (a ≡ true → b ≡ c) → (a && b) ≡ (a && c)
when_named true b c h = h refl
when_named false b c h = refl

pub names_differ : (xs : List (Syntax × Token)) (e : Syntax) →
    ((list_all (λ x. is_name (item_name x)) xs && is_name (name_of e)) && are_apart (map item_key xs ++ (key_of (name_of e) ∷ []))) ≡ is_list_of_names (items_of xs) (just e)
names_differ xs e =
    when_named (list_all (λ x. is_name (item_name x)) xs && is_name (name_of e)) (are_apart (map item_key xs ++ (key_of (name_of e) ∷ []))) (are_distinct (items_of xs) (name_of e))
    (λ h. sym (distinct_key xs (name_of e) (first_true (list_all (λ x. is_name (item_name x)) xs) (is_name (name_of e)) h)))
    ∙ ap (λ b. (b && is_name (name_of e)) && are_distinct (items_of xs) (name_of e)) (sym (all_names xs))
    ∙ sym (list_last (items_of xs) e)

pub map_keys : (xs : List Item) → map (λ x. item_key (plain_item x)) xs ≡ map item_key (map plain_item xs)
map_keys [] = refl
map_keys (x ∷ xs) = ap (λ ks. item_key (plain_item x) ∷ ks) (map_keys xs)

pub all_keys : (xs : List Item) → list_all (λ x. is_name (item_name (plain_item x))) xs ≡ list_all (λ x. is_name (item_name x)) (map plain_item xs)
all_keys [] = refl
all_keys (x ∷ xs) = ap (λ b. is_name (item_name (plain_item x)) && b) (all_keys xs)

none_zero : (n : ℕ) → false ≡ nat_eq (suc n) 0
none_zero n = grind (arith, nat_tests)

pub no_names : (xs : List Item) → nat_eq (length xs) 0 ≡ is_list_of_names (items_of (map plain_item xs)) nothing
no_names [] = refl
no_names (x ∷ xs) = sym (none_zero (length xs))

-- ---- definitions

item_commas : (xs : List (Syntax × Token)) → are_commas (items_of xs) ≡ list_all (λ x. is_comma x.1.kind) xs
item_commas [] = refl
item_commas (x ∷ xs) = ap (λ b. is_comma x.1.kind && b) (item_commas xs)

pub all_commas : (xs : List Item) → list_all (λ x. is_comma (plain_item x).1.kind) xs ≡ are_commas (items_of (map plain_item xs))
all_commas [] = refl
all_commas (x ∷ xs) = ap (λ b. is_comma (plain_item x).1.kind && b) (all_commas xs)

one_name : (f : Syntax) (o : Token) (most : Items) (last : Maybe) (c : Token) → (is_name (name_of f) && (are_commas most && is_list_of_names most last)) ≡ is_signature (bracket (called f) o most last c)
one_name (leaf t) o most last c = refl
one_name (sign t) o most last c = refl
one_name (ending h e) o most last c = refl
one_name (bracket b p es l d) o most last c = refl
one_name (matrix p a cells d) o most last c = refl
one_name (comprehension p e gens d) o most last c = refl
one_name (remote ch type shut p size closes comma place z) o most last c = refl

-- what is applied isn't a name alone
one_applied : (f : Syntax) (s : Suffix) → name_of (apply f s) ≡ kind.Comma
one_applied f (arguments l) = refl
one_applied f (indexes l) = refl

applied_name : (f : Syntax) (ss : List Suffix) → name_of f ≡ kind.Comma → name_of (applied f ss) ≡ kind.Comma
applied_name f [] h = h
applied_name f (s ∷ ss) h = applied_name (apply f s) ss (one_applied f s)

named_applied : (f : Syntax) (before : List Application) → (nat_eq (length before) 0 && is_name (name_of f)) ≡ is_name (name_of (applied f (map plain_application before)))
named_applied f [] = refl
named_applied f (a ∷ rest) = ap (λ b. b && is_name (name_of f)) (sym (none_zero (length rest))) ∙ ap is_name (sym (applied_name (apply f (plain_application a)) (map plain_application rest) (one_applied f (plain_application a))))

pub signature_is : (f : Syntax) (before : List Application) (o : Token) (most : Items) (last : Maybe) (c : Token) →
    ((nat_eq (length before) 0 && is_name (name_of f)) && (are_commas most && is_list_of_names most last)) ≡ is_signature (bracket (called (applied f (map plain_application before))) o most last c)
signature_is f before o most last c = ap (λ b. b && (are_commas most && is_list_of_names most last)) (named_applied f before) ∙ one_name (applied f (map plain_application before)) o most last c
