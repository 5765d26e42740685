-- A set of names as the list of their texts.
use Rattle.std.proofs.Common.{ℕ, suc, ◌≤◌, length, ◌+◌, true, false, ◌≡◌, List, [], ◌∷◌, ◌++◌, Some, None, if◌then◌else◌, refl, sym, ap, ◌∙◌}
use Rattle.std.specs.Prelude.{nat_eq, nat_lt, position, ◌||◌, not}
use Rattle.std.specs.List.{list_any, position_or_len}
use Rattle.std.specs.Str.{bytes_eq}
use Rattle.std.specs.Cmp.Lexicographic.{pointwise}
use Rattle.std.proofs.lemmas.List.Sums.{prefix_len-le-length}
use Rattle.indexmap.specs.IndexSet.{insert_key}
use Rattle.jd_lexer.specs.Words.{number_in, with_name}
use Rattle.jd_lexer.specs.Names.{texts_of}
use denote.Ref.{Bor}

any_text : (ks : List (Bor (List ℕ))) (k : Bor (List ℕ)) → list_any (λ x. pointwise nat_eq k.now x.now) ks ≡ list_any (bytes_eq k.now) (texts_of ks)
any_text [] k = refl
any_text (x ∷ ks) k = ap (λ b. bytes_eq k.now x.now || b) (any_text ks k)

pub number_text : (ks : List (Bor (List ℕ))) (k : Bor (List ℕ)) → position_or_len (λ x. pointwise nat_eq k.now x.now) ks ≡ number_in (texts_of ks) k.now
number_text [] k = refl
number_text (x ∷ ks) k = ap (λ n. if not (bytes_eq k.now x.now) then 1 + n else 0) (number_text ks k)

pub texts_len : (ks : List (Bor (List ℕ))) → length (texts_of ks) ≡ length ks
texts_len [] = refl
texts_len (x ∷ ks) = ap suc (texts_len ks)

pub position_text : (ks : List (Bor (List ℕ))) (k : Bor (List ℕ)) → position (λ x. pointwise nat_eq k.now x.now) ks ≡ position (bytes_eq k.now) (texts_of ks)
position_text ks k =
    ap (λ n. if nat_lt n (length ks) then Some n else None) (number_text ks k)
    ∙ ap (λ m. if nat_lt (number_in (texts_of ks) k.now) m then Some (number_in (texts_of ks) k.now) else None) (sym (texts_len ks))

texts_end : (ks : List (Bor (List ℕ))) (k : Bor (List ℕ)) → texts_of (ks ++ k ∷ []) ≡ texts_of ks ++ k.now ∷ []
texts_end [] k = refl
texts_end (x ∷ ks) k = ap (λ ts. x.now ∷ ts) (texts_end ks k)

pub key_text : (ks : List (Bor (List ℕ))) (k : Bor (List ℕ)) → texts_of (insert_key (λ x y. pointwise nat_eq x.now y.now) ks k) ≡ with_name (texts_of ks) k.now
key_text ks k =
    elim (list_any (λ x. pointwise nat_eq k.now x.now) ks) as (λ b. texts_of (if b then ks else ks ++ k ∷ []) ≡ (if b then texts_of ks else texts_of ks ++ k.now ∷ [])) [ true ↦ refl | false ↦ texts_end ks k ]
    ∙ ap (λ b. if b then texts_of ks else texts_of ks ++ k.now ∷ []) (any_text ks k)

pub number_le : (names : List (List ℕ)) (name : List ℕ) → number_in names name ≤ length names
number_le names name = prefix_len-le-length (λ x. not (bytes_eq name x)) names
