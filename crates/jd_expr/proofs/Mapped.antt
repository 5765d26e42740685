-- What a map does to its entries, seen as variables.
use Rattle.std.proofs.Common.{◌≡◌, ℕ, true, false, cond, List, [], ◌∷◌, Some, refl, ap, if◌then◌else◌}
use Rattle.std.specs.Str.{bytes_eq}
use Rattle.std.specs.Map.{lookup, remove_entry, set_value}
use Rattle.indexmap.specs.IndexMap.{insert_entry}
use Rattle.jd_value.specs.declared.value.Value.{Value}
use Rattle.jd_expr.specs.Entries.{variable, variables}
use Rattle.jd_expr.specs.Variables.{value_of, with_value, without}

pub value_in : (name : List ℕ) (es : List (List ℕ × Value)) → lookup (bytes_eq name) es ≡ value_of name (variables es)
value_in name [] = refl
value_in name (e ∷ es) = ap (λ rest. cond (bytes_eq name e.0) (Some e.1) rest) (value_in name es)

pub without_in : (name : List ℕ) (es : List (List ℕ × Value)) → variables (remove_entry (bytes_eq name) es) ≡ without name (variables es)
without_in name [] = refl
without_in name (e ∷ es) =
    elim (bytes_eq name e.0) as (λ b. variables (cond b es (e ∷ remove_entry (bytes_eq name) es)) ≡ (if b then variables es else variable e ∷ without name (variables es))) [
      | true ↦ refl
      | false ↦ ap (λ rest. variable e ∷ rest) (without_in name es)
    ]

pub added_in : (name : List ℕ) (v : Value) (es : List (List ℕ × Value)) → variables (insert_entry bytes_eq es name v) ≡ with_value name v (variables es)
added_in name v [] = refl
added_in name v (e ∷ es) =
    elim (bytes_eq name e.0) as (λ b. variables (if b then (e.0, v) ∷ es else e ∷ insert_entry bytes_eq es name v)
    ≡ (if b then record { name = e.0; value = v } ∷ variables es else variable e ∷ with_value name v (variables es))) [
      | true ↦ refl
      | false ↦ ap (λ rest. variable e ∷ rest) (added_in name v es)
    ]

-- where the name is there, a write is all
pub written_in : (name : List ℕ) (v w : Value) (es : List (List ℕ × Value)) → lookup (bytes_eq name) es ≡ Some w
    → variables (set_value (bytes_eq name) es v) ≡ with_value name v (variables es)
written_in name v w [] h = cc
written_in name v w (e ∷ es) h =
    (elim (bytes_eq name e.0) as (λ b. cond b (Some e.1) (lookup (bytes_eq name) es) ≡ Some w
    → variables (cond b ((e.0, v) ∷ es) (e ∷ set_value (bytes_eq name) es v))
    ≡ (if b then record { name = e.0; value = v } ∷ variables es else variable e ∷ with_value name v (variables es))) [
      | true ↦ λ _. refl
      | false ↦ λ k. ap (λ rest. variable e ∷ rest) (written_in name v w es k)
    ]) h
