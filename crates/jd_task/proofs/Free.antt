-- The free names of a body by a set of its bound ones.
use Rattle.std.proofs.Common.{◌≡◌, ◌||◌, ℕ, List, [], ◌++◌, sym, ap, ◌∙◌}
use Rattle.std.proofs.lemmas.List.Folds.{list_any-append}
use Rattle.std.specs.Str.{bytes_eq}
use Rattle.jd_value.specs.declared.tree.Body.{Body, out-Body}
use Rattle.jd_task.specs.Bound.{with_names}
use Rattle.jd_task.specs.Names.{Texts, is_among, first_uses, used_of, bound_of, block_uses_of, free_names}
use Rattle.jd_task.proofs.Among.{among_set, same_uses}
use Rattle.jd_task.proofs.Uses.{free_of}

same_bound : (n : List ℕ) (xs ys : Texts) → is_among n (with_names (with_names [] xs) ys) ≡ is_among n (xs ++ ys)
same_bound n xs ys =
    among_set n (with_names [] xs) ys ∙ list_any-append (bytes_eq n) (with_names [] xs) ys
    ∙ ap (λ b. b || is_among n ys) (among_set n [] xs) ∙ sym (list_any-append (bytes_eq n) xs ys)

pub free_from : (body : Body) (bound used : Texts)
    → bound ≡ with_names (with_names [] (out-Body body).parameters) (bound_of (block_uses_of (out-Body body).block))
    → used ≡ used_of (block_uses_of (out-Body body).block) → first_uses bound used ≡ free_names body
free_from body bound used b u =
    let xs = (out-Body body).parameters in
    let ys = bound_of (block_uses_of (out-Body body).block) in
    ap (λ names. first_uses names used) b ∙ ap (first_uses (with_names (with_names [] xs) ys)) u
    ∙ same_uses (with_names (with_names [] xs) ys) (xs ++ ys) (used_of (block_uses_of (out-Body body).block)) (λ n. same_bound n xs ys)
    ∙ sym (free_of body)
