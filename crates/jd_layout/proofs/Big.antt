-- Folds by an operation that is commutative, over lists of parts: the value of an empty list is none.
use Rattle.std.proofs.Common.{◌≡◌, ℤ, List, [], ◌∷◌, ◌++◌, get_or, map, fold, All, Option, Some, None, refl, sym, ap, ◌∙◌}
use Rattle.std.specs.List.{flat_map, filter_map, cons_option}
use Rattle.std.proofs.lemmas.List.Elements.{All-head, All-tail}
use Rattle.jd_array.specs.Fold.{reduced, IsCommutative}

-- what two folds give together
abbrev pub join : (ℤ → ℤ → ℤ) → Option ℤ → Option ℤ → Option ℤ
join f None y = y
join f (Some a) None = Some a
join f (Some a) (Some b) = Some (f a b)

-- the fold of what each element gives
abbrev pub big : {A : Type 0} → (ℤ → ℤ → ℤ) → (A → Option ℤ) → List A → Option ℤ
big f h [] = None
big f h (x ∷ xs) = join f (h x) (big f h xs)

pub join_none : (f : ℤ → ℤ → ℤ) (x : Option ℤ) → join f x None ≡ x
join_none f None = refl
join_none f (Some a) = refl

join_swapped : (f : ℤ → ℤ → ℤ) → IsCommutative f → (x y : Option ℤ) → join f x y ≡ join f y x
join_swapped f c None None = refl
join_swapped f c None (Some b) = refl
join_swapped f c (Some a) None = refl
join_swapped f c (Some a) (Some b) = ap (λ (z : ℤ). Some z) (c.swapped a b)

join_grouped : (f : ℤ → ℤ → ℤ) → IsCommutative f → (x y z : Option ℤ) → join f (join f x y) z ≡ join f x (join f y z)
join_grouped f c None y z = refl
join_grouped f c (Some a) None z = refl
join_grouped f c (Some a) (Some b) None = refl
join_grouped f c (Some a) (Some b) (Some d) = ap (λ (z : ℤ). Some z) (c.grouped a b d)

-- four folds in two orders
join_crossed : (f : ℤ → ℤ → ℤ) → IsCommutative f → (a b c d : Option ℤ) → join f (join f a b) (join f c d) ≡ join f (join f a c) (join f b d)
join_crossed f comm a b c d =
    join_grouped f comm a b (join f c d)
    ∙ ap (λ (z : Option ℤ). join f a z) (sym (join_grouped f comm b c d) ∙ ap (λ (z : Option ℤ). join f z d) (join_swapped f comm b c) ∙ join_grouped f comm c b d)
    ∙ sym (join_grouped f comm a c (join f b d))

pub big_append : {A : Type 0} (f : ℤ → ℤ → ℤ) → IsCommutative f → (h : A → Option ℤ) (xs ys : List A) → big f h (xs ++ ys) ≡ join f (big f h xs) (big f h ys)
big_append f c h [] ys = refl
big_append f c h (x ∷ xs) ys =
    ap (λ (z : Option ℤ). join f (h x) z) (big_append f c h xs ys) ∙ sym (join_grouped f c (h x) (big f h xs) (big f h ys))

pub big_flat : {A B : Type 0} (f : ℤ → ℤ → ℤ) → IsCommutative f → (h : B → Option ℤ) (g : A → List B) (xs : List A) → big f h (flat_map g xs) ≡ big f (λ x. big f h (g x)) xs
big_flat f c h g [] = refl
big_flat f c h g (x ∷ xs) = big_append f c h (g x) (flat_map g xs) ∙ ap (λ (z : Option ℤ). join f (big f h (g x)) z) (big_flat f c h g xs)

pub big_map : {A B : Type 0} (f : ℤ → ℤ → ℤ) (h : B → Option ℤ) (g : A → B) (xs : List A) → big f h (map g xs) ≡ big f (λ x. h (g x)) xs
big_map f h g [] = refl
big_map f h g (x ∷ xs) = ap (λ (z : Option ℤ). join f (h (g x)) z) (big_map f h g xs)

pub big_same : {A : Type 0} (f : ℤ → ℤ → ℤ) (h g : A → Option ℤ) (xs : List A) → All (λ x. h x ≡ g x) xs → big f h xs ≡ big f g xs
big_same f h g [] same = refl
big_same f h g (x ∷ xs) same =
    ap (λ (z : Option ℤ). join f z (big f h xs)) (All-head (λ y. h y ≡ g y) x xs same)
    ∙ ap (λ (z : Option ℤ). join f (g x) z) (big_same f h g xs (All-tail (λ y. h y ≡ g y) x xs same))

pub big_alike : {A : Type 0} (f : ℤ → ℤ → ℤ) (h g : A → Option ℤ) (xs : List A) → ((x : A) → h x ≡ g x) → big f h xs ≡ big f g xs
big_alike f h g xs same = big_same f h g xs (λ k d below. same (get_or xs k d))

big_nothing : {A : Type 0} (f : ℤ → ℤ → ℤ) (xs : List A) → big f (λ x. None) xs ≡ None
big_nothing f [] = refl
big_nothing f (x ∷ xs) = big_nothing f xs

big_joined : {A : Type 0} (f : ℤ → ℤ → ℤ) → IsCommutative f → (h g : A → Option ℤ) (xs : List A) → big f (λ x. join f (h x) (g x)) xs ≡ join f (big f h xs) (big f g xs)
big_joined f c h g [] = refl
big_joined f c h g (x ∷ xs) =
    ap (λ (z : Option ℤ). join f (join f (h x) (g x)) z) (big_joined f c h g xs) ∙ join_crossed f c (h x) (g x) (big f h xs) (big f g xs)

-- the order of two folds is free
pub big_swapped : {A B : Type 0} (f : ℤ → ℤ → ℤ) → IsCommutative f → (h : A → B → Option ℤ) (xs : List A) (ys : List B) →
    big f (λ x. big f (h x) ys) xs ≡ big f (λ y. big f (λ x. h x y) xs) ys
big_swapped f c h [] ys = sym (big_nothing f ys)
big_swapped f c h (x ∷ xs) ys =
    ap (λ (z : Option ℤ). join f (big f (h x) ys) z) (big_swapped f c h xs ys) ∙ sym (big_joined f c (h x) (λ y. big f (λ x. h x y) xs) ys)

fold_big : (f : ℤ → ℤ → ℤ) → IsCommutative f → (x : ℤ) (xs : List ℤ) → (let whole : Option ℤ = Some (fold f x xs) in whole ≡ join f (Some x) (big f (λ y. Some y) xs))
fold_big f c x [] = refl
fold_big f c x (y ∷ ys) = fold_big f c (f x y) ys ∙ join_grouped f c (Some x) (Some y) (big f (λ z. Some z) ys)

-- the fold from the first element on
pub reduced_big : (f : ℤ → ℤ → ℤ) → IsCommutative f → (xs : List ℤ) → reduced f xs ≡ big f (λ x. Some x) xs
reduced_big f c [] = refl
reduced_big f c (x ∷ xs) = fold_big f c x xs

consed_big : (f : ℤ → ℤ → ℤ) (o : Option ℤ) (xs : List ℤ) → big f (λ x. Some x) (cons_option o xs) ≡ join f o (big f (λ x. Some x) xs)
consed_big f None xs = refl
consed_big f (Some a) xs = refl

-- the fold of those that give something
pub filtered_big : {A : Type 0} (f : ℤ → ℤ → ℤ) (h : A → Option ℤ) (xs : List A) → big f (λ x. Some x) (filter_map h xs) ≡ big f h xs
filtered_big f h [] = refl
filtered_big f h (x ∷ xs) = consed_big f (h x) (filter_map h xs) ∙ ap (λ (z : Option ℤ). join f (h x) z) (filtered_big f h xs)
