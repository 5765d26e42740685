-- Tokens are a script or are refused.
use Rattle.std.proofs.Common.{ℕ, zero, suc, ◌≡◌, ◌≤◌, ◌<◌, ◌+◌, ◌⊎◌, Bool, true, false, List, length, get_or, Option, Some, None, nat_le, refl, ⊎_elim, inl, inr, arith}
use Rattle.std.proofs.lemmas.Bool.Decides.{nat_tests}
use Rattle.std.proofs.lemmas.Option.{slice_get_cases}
use Rattle.jd_grammar.specs.declared.token.Token.{Token}
use Rattle.jd_grammar.specs.Script.{Block}
use Rattle.jd_grammar.specs.Reader.{Config, start, step, finish}
use Rattle.jd_grammar.specs.ScriptDepth.{limit, needs}
use Rattle.jd_grammar.specs.Promise.{SpellsWithin}
use Rattle.jd_grammar.proofs.Close.{le_of}
use Rattle.jd_grammar.proofs.Refuse.{run_next, read_sound}
use Rattle.jd_reader.specs.declared.refusal.Refusal.{Refusal}
use Rattle.jd_reader.specs.declared.refusal.Refusal.TheVariants.{Misplaced, TooDeep}
use Rattle.jd_reader.specs.Answers.{IsRefusal, refusal_at}
use Rattle.jd_reader.specs.Reading.{HasRead}
use Rattle.jd_reader.proofs.Verdicts.{refused_there, deep_there, refused_end}

abbrev pub IsJudged : List Token → Type 0
IsJudged ts = ((s : Block) × SpellsWithin ts s) ⊎ ((k : ℕ) × (r : Refusal) × IsRefusal ts k r)

-- behind all tokens
at_end : (ts : List Token) (k : ℕ) (c : Config) → length ts ≤ k → HasRead ts k c → (x : Option Block) → finish c ≡ x → IsJudged ts
at_end ts k c l h None f = inr (length ts, Misplaced, refused_end ts k c l h.read h.within f)
at_end ts k c l h (Some s) f = inl (s, read_sound ts k c s l h.read h.within f)

above : (a b : ℕ) → nat_le a b ≡ false → b < a
above a b h = grind (arith, nat_tests)

-- at a token, where what stands behind it is judged
module _ (ts : List Token) (k : ℕ) (d : Token) (c : Config) (inside : k < length ts) (before : HasRead ts k c) (behind : (e : Config) → HasRead ts (k + 1) e → IsJudged ts) where
  taken : (e : Config) → step (get_or ts k d) c ≡ Some e → (b : Bool) → nat_le (needs e) limit ≡ b → IsJudged ts
  taken e s true n = behind e (record { read = run_next ts k d c (Some e) inside before.read s; within = le_of (needs e) limit n })
  taken e s false n = inr (k, refusal_at (get_or ts k d).kind TooDeep, deep_there ts k d c e inside before.read before.within s (above (needs e) limit n))

  at_token : (x : Option Config) → step (get_or ts k d) c ≡ x → IsJudged ts
  at_token None s = inr (k, refusal_at (get_or ts k d).kind Misplaced, refused_there ts k d c inside before.read before.within s)
  at_token (Some e) s = taken e s (nat_le (needs e) limit) refl

-- from a place on, with so many tokens left
from : (ts : List Token) (left k : ℕ) (c : Config) → length ts ≤ k + left → HasRead ts k c → IsJudged ts
from ts zero k c l h = at_end ts k c (omega (arith, l)) h (finish c) refl
from ts (suc left) k c l h = ⊎_elim
    (λ there. at_token ts k there.0 c there.1 h (λ e g. from ts left (k + 1) e (omega (arith, l)) g) (step (get_or ts k there.0) c) refl)
    (λ past. at_end ts k c past.0 h (finish c) refl)
    (slice_get_cases ts k).1

pub are_judged : (ts : List Token) → IsJudged ts
are_judged ts = from ts (length ts) 0 start (omega arith) (record { read = refl; within = omega arith })
