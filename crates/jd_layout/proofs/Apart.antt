-- Ids that are taken out of a set one after the other.
use Rattle.std.proofs.Common.{ℕ, ◌+◌, ◌<◌, ◌≤◌, ◌^◌, ◌≡◌, ◌≢◌, Bool, true, false, ◌&&◌, ◌||◌, not, nat_eq, nat_cmp, List, length, ◌⊎◌, subst, take, get_or, refl, sym, ap, ◌∙◌, inl, inr, IsTrue, AllPairs, Contains, arith}
use Rattle.std.specs.List.{list_any}
use Rattle.std.proofs.lemmas.Bool.{both_ways, eq-eqb}
use Rattle.std.proofs.lemmas.List.{take_more, get_or-take, get_or_default, length-take}
use Rattle.std.proofs.lemmas.List.Elements.{All-more}
use Rattle.std.proofs.lemmas.List.Folds.{list_any_more, list_any_at}
use Rattle.std.proofs.lemmas.List.Quantifiers.{all_pairs_push}
use Rattle.std.proofs.lemmas.Bool.Decides.{Decides-eqb}
use Rattle.std.proofs.lemmas.Map.Made.{IsDistinct-from_AllPairs}
use Rattle.std.proofs.lemmas.Map.Steps.{length-le_from_distinct_below}
use Rattle.std.proofs.lemmas.Map.Views.{Contains-from_any, exact_unsigned_eq}
use Rattle.std.specs.BTreeSet.{BTreeSet, contains}
use Rattle.jd_layout.specs.Blocks.{AreProcs}
use Rattle.jd_layout.specs.Ids.{AreApartIn}

still_there : (inside met here : Bool) → ((inside && not met) && not here) ≡ (inside && not (met || here))
still_there true true here = refl
still_there true false here = refl
still_there false met here = refl

-- what is left after one id more
pub left_more : (whole now next : BTreeSet ℕ) (procs : List ℕ) (k : ℕ) → k < length procs →
    ((q : ℕ) → contains nat_cmp now q ≡ (contains nat_cmp whole q && not (list_any (nat_eq q) (take k procs)))) →
    ((q : ℕ) → contains nat_cmp next q ≡ (contains nat_cmp now q && not (nat_eq q (get_or procs k 0)))) →
    (q : ℕ) → contains nat_cmp next q ≡ (contains nat_cmp whole q && not (list_any (nat_eq q) (take (k + 1) procs)))
left_more whole now next procs k below left taken q =
    taken q ∙ ap (λ (b : Bool). b && not (nat_eq q (get_or procs k 0))) (left q)
    ∙ still_there (contains nat_cmp whole q) (list_any (nat_eq q) (take k procs)) (nat_eq q (get_or procs k 0))
    ∙ ap (λ (b : Bool). contains nat_cmp whole q && not b) (sym (list_any_more (nat_eq q) procs k 0 below))

first_of_both : (a b : Bool) → (a && not b) ≡ true → (a ≡ true) × (b ≡ false)
first_of_both true false e = (refl, refl)
first_of_both true true e = cc
first_of_both false b e = cc

one_of_both : (a b : Bool) → (a && not b) ≡ false → (a ≡ false) ⊎ (b ≡ true)
one_of_both true true e = inr refl
one_of_both true false e = cc
one_of_both false b e = inl refl

-- an id that was still there is in the set, and differs from those before it
pub apart_more : (whole now : BTreeSet ℕ) (procs : List ℕ) (k : ℕ) → k < length procs →
    ((q : ℕ) → contains nat_cmp now q ≡ (contains nat_cmp whole q && not (list_any (nat_eq q) (take k procs)))) →
    contains nat_cmp now (get_or procs k 0) ≡ true → AreApartIn whole (take k procs) → AreApartIn whole (take (k + 1) procs)
apart_more whole now procs k below left found before =
    let here = first_of_both _ _ (sym (left (get_or procs k 0)) ∙ found) in
    record {
      all_in = All-more (λ p. IsTrue (contains nat_cmp whole p)) procs k 0 below before.all_in here.0;
      apart = subst (λ (ps : List ℕ). AllPairs (λ p q. p ≢ q) ps) (sym (take_more procs k 0 below))
          (all_pairs_push (λ p q. p ≢ q) (take k procs) (get_or procs k 0) before.apart
          (λ i d inside same.
          both_ways _ here.1 (list_any_at (nat_eq (get_or procs k 0)) (take k procs) i d inside (eq-eqb _ _ (sym same)))));
    }

stands_twice : (whole : BTreeSet ℕ) (procs : List ℕ) (k : ℕ) → k < length procs → Contains (take k procs) (get_or procs k 0) → AreApartIn whole procs → ⊥
stands_twice whole procs k below (j, inside, same) valid =
    let before : j < k = omega (arith, length-take k procs) in
    valid.apart j k (get_or procs k 0) before below
    (sym (get_or-take k procs j _ before) ∙ same ∙ get_or_default procs k 0 _ below)

-- an id that isn't there any more is not in the set, or stands a second time
pub not_apart : (whole now : BTreeSet ℕ) (procs : List ℕ) (k : ℕ) → k < length procs →
    ((q : ℕ) → contains nat_cmp now q ≡ (contains nat_cmp whole q && not (list_any (nat_eq q) (take k procs)))) →
    contains nat_cmp now (get_or procs k 0) ≡ false → AreApartIn whole procs → ⊥
not_apart whole now procs k below left gone valid = elim (one_of_both _ _ (sym (left (get_or procs k 0)) ∙ gone)) [
  | inl outside ↦ both_ways _ outside (valid.all_in k 0 below)
  | inr again ↦ stands_twice whole procs k below (Contains-from_any exact_unsigned_eq (get_or procs k 0) (take k procs) again) valid
]

-- the processes are in the set of the known ones, each once, exactly where each is known and none stands twice
pub procs_known : (set : BTreeSet ℕ) (procs known : List ℕ) → ((q : ℕ) → contains nat_cmp set q ≡ list_any (nat_eq q) known) → AreApartIn set procs → AreProcs procs known
procs_known set procs known is valid = record {
  all_known = λ k d below. Contains-from_any exact_unsigned_eq _ known (sym (is (get_or procs k d)) ∙ valid.all_in k d below);
  apart = valid.apart;
}

found_at : (known : List ℕ) (q : ℕ) → Contains known q → list_any (nat_eq q) known ≡ true
found_at known q (k, below, same) = list_any_at (nat_eq q) known k q below (eq-eqb q _ (sym same))

pub known_procs : (set : BTreeSet ℕ) (procs known : List ℕ) → ((q : ℕ) → contains nat_cmp set q ≡ list_any (nat_eq q) known) → AreProcs procs known → AreApartIn set procs
known_procs set procs known is valid = record {
  all_in = λ k d below. is (get_or procs k d) ∙ found_at known _ (valid.all_known k d below);
  apart = valid.apart;
}

small_id : (procs : List ℕ) (q : ℕ) → ((i : ℕ) → get_or procs i 0 < 2 ^ 32) → Contains procs q → q < 2 ^ 32
small_id procs q small (k, below, same) = omega (arith, small k, same, get_or_default procs k q 0 below)

-- there are no more processes that differ than ids
pub few_procs : (procs : List ℕ) → ((i : ℕ) → get_or procs i 0 < 2 ^ 32) → AllPairs (λ p q. p ≢ q) procs → length procs ≤ 2 ^ 32
few_procs procs small apart =
    length-le_from_distinct_below procs (2 ^ 32) (IsDistinct-from_AllPairs Decides-eqb procs apart)
    (λ q found. small_id procs q small (Contains-from_any exact_unsigned_eq q procs found))
