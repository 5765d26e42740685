-- What holds of all tokens.
use Rattle.std.proofs.Common.{ℕ, zero, suc, ◌≡◌, ◌≤◌, ◌<◌, ◌+◌, true, false, List, [], ◌∷◌, ◌++◌, take, Option, Some, None, nat_le, if◌then◌else◌, refl, ap, subst, ◌∙◌, arith, append_assoc}
use Rattle.std.proofs.lemmas.Bool.Decides.{nat_tests}
use Rattle.jd_grammar.specs.declared.token.Token.{Token}
use Rattle.jd_grammar.specs.Script.{Block}
use Rattle.jd_grammar.specs.Reader.{Config, start, run, finish}
use Rattle.jd_grammar.specs.ScriptDepth.{limit, needs}
use Rattle.jd_grammar.specs.Promise.{Spells, SpellsWithin, IsPrefix, IsPrefixWithin, IsRefusedAt, within_limit, SpellOneScript, ReadsWhatIsSpelled, GoesAsFarAsScripts, GoesAsDeepAsScripts, AreRefusedOnce}
use Rattle.jd_grammar.proofs.Close.{le_of, test_le}
use Rattle.jd_grammar.proofs.Theorems.{unique, viable, stuck}
use Rattle.jd_grammar.proofs.Limit.{sound_within, viable_within, too_deep, answered_within}

pub spell_one_script : SpellOneScript
spell_one_script ts s u v w = unique ts s u v w

read_within : (ts : List Token) (s : Block) (x : Option Config) → run ts start ≡ x → within_limit x ≡ Some s → SpellsWithin ts s
read_within ts s None r h = cc
read_within ts s (Some c) r h =
    elim (nat_le (needs c) limit) as (λ b. nat_le (needs c) limit ≡ b → (if b then finish c else None) ≡ Some s → SpellsWithin ts s) [
      | true ↦ λ k f. sound_within ts c s r (le_of (needs c) limit k) f
      | false ↦ λ k f. cc
    ] refl h

pub reads_what_is_spelled : ReadsWhatIsSpelled
reads_what_is_spelled ts s = (
  read_within ts s (run ts start) refl,
  λ w.
      let a = answered_within ts s w in
      ap within_limit a.1 ∙ ap (λ b. if b then finish a.0 else None) (test_le (needs a.0) limit a.3) ∙ a.2,
)

run_of : (ts : List Token) → IsPrefix ts → (x : Option Config) → run ts start ≡ x → (c : Config) × (run ts start ≡ Some c)
run_of ts p None r = absurd (stuck ts r p)
run_of ts p (Some c) r = (c, r)

pub goes_as_far_as_scripts : GoesAsFarAsScripts
goes_as_far_as_scripts ts = (λ p. run_of ts p (run ts start) refl, viable ts)

unlimited : (ts : List Token) → IsPrefixWithin ts → IsPrefix ts
unlimited ts p = (p.0, p.1, p.2.0)

above : (a b : ℕ) → nat_le a b ≡ false → b < a
above a b h = grind (arith, nat_tests)

not_less : (a b : ℕ) → (a < b → ⊥) → b ≤ a
not_less a b f = elim (nat_le b a) as (λ x. nat_le b a ≡ x → b ≤ a) [ true ↦ λ h. le_of b a h | false ↦ λ h. absurd (f (above b a h)) ] refl

needs_of : (ts : List Token) (c : Config) → IsPrefixWithin ts → run ts start ≡ Some c → needs c ≤ limit
needs_of ts c p r = elim (nat_le (needs c) limit) as (λ b. nat_le (needs c) limit ≡ b → needs c ≤ limit) [
  | true ↦ λ k. le_of (needs c) limit k
  | false ↦ λ k. absurd (too_deep ts c r (above (needs c) limit k) p)
] refl

pub goes_as_deep_as_scripts : GoesAsDeepAsScripts
goes_as_deep_as_scripts ts = (λ p. let c = run_of ts (unlimited ts p) (run ts start) refl in (c.0, c.1, needs_of ts c.0 p c.1), λ c r n. viable_within ts c r n)

-- the tokens before an earlier place are the beginning of those before a later one
front : (ts : List Token) (j k : ℕ) → j ≤ k → (us : List Token) × (take k ts ≡ take j ts ++ us)
front ts zero k h = (take k ts, refl)
front [] (suc j) zero h = absurd (omega arith)
front [] (suc j) (suc k) h = ([], refl)
front (t ∷ ts) (suc j) zero h = absurd (omega arith)
front (t ∷ ts) (suc j) (suc k) h = let f = front ts j k (omega arith) in (f.0, ap (λ us. t ∷ us) f.1)

pub shorter : (ts : List Token) (j k : ℕ) → j ≤ k → IsPrefixWithin (take k ts) → IsPrefixWithin (take j ts)
shorter ts j k h p =
    let f = front ts j k h in
    (f.0 ++ p.0, p.1, (subst (λ us. Spells us p.1) (ap (λ us. us ++ p.0) f.1 ∙ append_assoc (take j ts) f.0 p.0) p.2.0, p.2.1))

not_before : (ts : List Token) (j k : ℕ) → IsRefusedAt ts j → IsRefusedAt ts k → j < k → ⊥
not_before ts j k v w h = v.after (omega (arith, h, w.inside)) (shorter ts (j + 1) k (omega (arith, h)) w.before)

pub are_refused_once : AreRefusedOnce
are_refused_once ts j k v w =
    let a : k ≤ j = not_less j k (not_before ts j k v w) in
    let b : j ≤ k = not_less k j (not_before ts k j w v) in
    omega arith
