-- The loop over the tokens, and what a refusal says: lemmas for the code that reads.
use Rattle.std.proofs.Common.{ℕ, ◌≡◌, ◌≤◌, ◌<◌, ◌+◌, List, [], ◌∷◌, length, get_or, take, drop, Option, Some, None, refl, sym, ap, subst, ◌∙◌, arith}
use Rattle.std.proofs.lemmas.List.{take_more, take_all, take-append-drop}
use Rattle.jd_grammar.specs.declared.token.Token.{Token}
use Rattle.jd_grammar.specs.Script.{Block}
use Rattle.jd_grammar.specs.Reader.{Config, start, step, and_then, run, finish}
use Rattle.jd_grammar.specs.ScriptDepth.{limit, needs}
use Rattle.jd_grammar.specs.Promise.{Spells, SpellsWithin, IsPrefix, IsPrefixWithin, IsRefusedAt, IsTooDeepAt, IsMisplacedAt}
use Rattle.jd_grammar.proofs.Theorems.{run_append, viable, stuck, answered}
use Rattle.jd_grammar.proofs.Limit.{sound_within, viable_within, too_deep}

and_then_some : (x : Option Config) → and_then x (run []) ≡ x
and_then_some None = refl
and_then_some (Some c) = refl

-- one token more
pub run_next : (ts : List Token) (i : ℕ) (d : Token) (c : Config) (x : Option Config) → i < length ts → run (take i ts) start ≡ Some c → step (get_or ts i d) c ≡ x → run (take (i + 1) ts) start ≡ x
run_next ts i d c x h r s =
    ap (λ us. run us start) (take_more ts i d h) ∙ run_append (take i ts) (get_or ts i d ∷ []) start
    ∙ ap (λ y. and_then y (run (get_or ts i d ∷ []))) r ∙ and_then_some (step (get_or ts i d) c) ∙ s

front_of : (ts : List Token) (k : ℕ) (s : Block) → SpellsWithin ts s → IsPrefixWithin (take k ts)
front_of ts k s w = (drop k ts, s, (subst (λ us. Spells us s) (sym (take-append-drop k ts)) w.0, w.1))

front_unlimited : (ts : List Token) → IsPrefixWithin ts → IsPrefix ts
front_unlimited ts p = (p.0, p.1, p.2.0)

-- the token at k has no place
pub misplaced_inside : (ts : List Token) (k : ℕ) (c : Config) → k < length ts → run (take k ts) start ≡ Some c → needs c ≤ limit → run (take (k + 1) ts) start ≡ None → IsMisplacedAt ts k
misplaced_inside ts k c h r n e = record {
  refused = record {
    inside = omega arith;
    before = viable_within (take k ts) c r n;
    after = λ _ p. stuck (take (k + 1) ts) e (front_unlimited (take (k + 1) ts) p);
    no_script = λ s w. stuck (take (k + 1) ts) e (front_unlimited (take (k + 1) ts) (front_of ts (k + 1) s w));
  };
  unlimited = λ _. stuck (take (k + 1) ts) e;
}

-- the token at k nests too deep
pub deep_inside : (ts : List Token) (k : ℕ) (c d : Config) → k < length ts → run (take k ts) start ≡ Some c → needs c ≤ limit → run (take (k + 1) ts) start ≡ Some d → limit < needs d → IsTooDeepAt ts k
deep_inside ts k c d h r n e m = record {
  refused = record {
    inside = omega arith;
    before = viable_within (take k ts) c r n;
    after = λ _. too_deep (take (k + 1) ts) d e m;
    no_script = λ s w. too_deep (take (k + 1) ts) d e m (front_of ts (k + 1) s w);
  };
  there = h;
  unlimited = viable (take (k + 1) ts) d e;
}

run_all : (ts : List Token) (k : ℕ) (c : Config) → length ts ≤ k → run (take k ts) start ≡ Some c → run ts start ≡ Some c
run_all ts k c h r = ap (λ us. run us start) (sym (take_all k ts h)) ∙ r

pub read_sound : (ts : List Token) (k : ℕ) (c : Config) (s : Block) → length ts ≤ k → run (take k ts) start ≡ Some c → needs c ≤ limit → finish c ≡ Some s → SpellsWithin ts s
read_sound ts k c s h r n f = sound_within ts c s (run_all ts k c h r) n f

pub read_is : (ts : List Token) (k : ℕ) (c : Config) (s : Block) → length ts ≤ k → run (take k ts) start ≡ Some c → finish c ≡ Some s → (t : Block) → Spells ts t → s ≡ t
read_is ts k c s h r f t w =
    let a = answered ts t w in
    let e : Some a.0 ≡ Some c = sym a.1 ∙ run_all ts k c h r in
    let g : finish a.0 ≡ Some t = a.2 in
    cc

no_end : (ts : List Token) (c : Config) (s : Block) → run ts start ≡ Some c → finish c ≡ None → Spells ts s → ⊥
no_end ts c s r f w =
    let a = answered ts s w in
    let e : Some a.0 ≡ Some c = sym a.1 ∙ r in
    let g : finish a.0 ≡ Some s = a.2 in
    cc

-- the script may not end there
pub misplaced_end : (ts : List Token) (k : ℕ) (c : Config) → length ts ≤ k → run (take k ts) start ≡ Some c → needs c ≤ limit → finish c ≡ None → IsMisplacedAt ts (length ts)
misplaced_end ts k c h r n f = record {
  refused = record {
    inside = omega arith;
    before = viable_within (take (length ts) ts) c (ap (λ us. run us start) (take_all (length ts) ts (omega arith)) ∙ run_all ts k c h r) n;
    after = λ g. absurd (omega arith);
    no_script = λ s w. no_end ts c s (run_all ts k c h r) f w.0;
  };
  unlimited = λ g. absurd (omega arith);
}

-- a refusal within the text leaves no script
pub refused_no_script : (ts : List Token) (k : ℕ) → IsRefusedAt ts k → (s : Block) → SpellsWithin ts s → ⊥
refused_no_script ts k r s w = r.no_script s w
