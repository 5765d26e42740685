-- What is among names, in whatever order they stand.
use Rattle.std.proofs.Common.{◌≡◌, ℕ, true, false, ◌||◌, List, [], ◌∷◌, ◌++◌, refl, ap, sym, subst, ◌∙◌, append_assoc, append-nil, if◌then◌else◌}
use Rattle.std.proofs.lemmas.List.Folds.{list_any-append}
use Rattle.std.specs.Cmp.Lexicographic.{bytes_decides}
use Rattle.std.specs.Str.{bytes_eq}
use Rattle.indexmap.specs.IndexSet.{insert_key}
use Rattle.jd_task.specs.Bound.{with_names}
use Rattle.jd_task.specs.Names.{Texts, is_among, first_uses}

there : (n m : List ℕ) (members ms : Texts) → is_among m members ≡ true → is_among n (members ++ ms) ≡ is_among n (members ++ m ∷ ms)
there n m members ms h =
    list_any-append (bytes_eq n) members ms
    ∙ elim (bytes_eq n m) as (λ b. bytes_eq n m ≡ b → (is_among n members || is_among n ms) ≡ (is_among n members || (b || is_among n ms))) [
      | true ↦ λ e. let a : is_among n members ≡ true = subst (λ (k : List ℕ). is_among k members ≡ true) (sym ((bytes_decides n m).0 e)) h in
          ap (λ b. b || is_among n ms) a ∙ sym (ap (λ b. b || true) a)
      | false ↦ λ _. refl
    ] refl
    ∙ sym (list_any-append (bytes_eq n) members (m ∷ ms))

inserted : (n m : List ℕ) (members ms : Texts) → is_among n (insert_key bytes_eq members m ++ ms) ≡ is_among n (members ++ m ∷ ms)
inserted n m members ms =
    elim (is_among m members) as (λ b. is_among m members ≡ b → is_among n ((if b then members else members ++ m ∷ []) ++ ms) ≡ is_among n (members ++ m ∷ ms)) [
      | true ↦ λ h. there n m members ms h
      | false ↦ λ _. ap (is_among n) (append_assoc members (m ∷ []) ms)
    ] refl

-- a set of names has the names that came
pub among_set : (n : List ℕ) (members names : Texts) → is_among n (with_names members names) ≡ is_among n (members ++ names)
among_set n members [] = ap (is_among n) (sym (append-nil members))
among_set n members (m ∷ ms) = among_set n (insert_key bytes_eq members m) ms ∙ inserted n m members ms

-- the first uses of names don't turn on how the bound ones stand
pub same_uses : (xs ys names : Texts) → ((n : List ℕ) → is_among n xs ≡ is_among n ys) → first_uses xs names ≡ first_uses ys names
same_uses xs ys [] h = refl
same_uses xs ys (m ∷ ms) h =
    ap (λ b. if b then first_uses xs ms else m ∷ first_uses (xs ++ m ∷ []) ms) (h m)
    ∙ elim (is_among m ys) as (λ b. (if b then first_uses xs ms else m ∷ first_uses (xs ++ m ∷ []) ms) ≡ (if b then first_uses ys ms else m ∷ first_uses (ys ++ m ∷ []) ms)) [
      | true ↦ same_uses xs ys ms h
      | false ↦ ap (λ rest. m ∷ rest) (same_uses (xs ++ m ∷ []) (ys ++ m ∷ []) ms
          (λ n. list_any-append (bytes_eq n) xs (m ∷ []) ∙ ap (λ b. b || is_among n (m ∷ [])) (h n) ∙ sym (list_any-append (bytes_eq n) ys (m ∷ []))))
    ]
