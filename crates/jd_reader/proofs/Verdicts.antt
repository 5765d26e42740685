-- What the reader's answers say of the tokens.
use Rattle.std.proofs.Common.{ℕ, ◌≡◌, ◌≤◌, ◌<◌, min, Bool, true, false, List, length, get_or, take, Some, None, option_map, unwrap_or, slice_get, Result, Ok, Err, IfOk, IfErr, if◌then◌else◌, refl, sym, ap, subst, ◌∙◌, arith}
use Rattle.std.proofs.lemmas.Option.{slice_get-get_or, slice_get_past}
use Rattle.jd_grammar.specs.declared.token.Token.{Token}
use Rattle.jd_grammar.specs.Kinds.{is_wide}
use Rattle.jd_grammar.specs.Script.{Block}
use Rattle.jd_grammar.specs.Reader.{Config, start, step, run, finish}
use Rattle.jd_grammar.specs.ScriptDepth.{limit, needs}
use Rattle.jd_grammar.specs.Promise.{SpellsWithin, IsRefusedAt, IsTooLargeAt, IsTooDeepAt, IsMisplacedAt}
use Rattle.jd_grammar.proofs.Refuse.{run_next, misplaced_inside, deep_inside, misplaced_end}
use Rattle.jd_grammar.proofs.Promises.{spell_one_script, are_refused_once}
use Rattle.jd_reader.specs.declared.refusal.Refusal.{Refusal}
use Rattle.jd_reader.specs.declared.refusal.Refusal.TheVariants.{Misplaced, TooDeep, TooLarge}
use Rattle.jd_reader.specs.declared.refusal.Fault.{Fault}
use Rattle.jd_reader.specs.declared.refusal.Fault.TheVariants.{Refused, OutOfMemory}
use Rattle.jd_reader.specs.Answers.{IsRefusal, Reads, Refuses, RefusesFor, RefusesAt, refusal_at, fault_from}
use Rattle.jd_precedence.specs.declared.stop.Stop.{Stop}
use Rattle.jd_precedence.specs.declared.stop.Stop.TheVariants as stop
use Rattle.jd_reader.specs.Reading.{Leads, Ends}
use Rattle.jd_script.specs.declared.tree.Block as code-block
use Rattle.jd_script.specs.PlainScript.{plain_block}

-- ---- a refusal at a token

number_at : (ts : List Token) (k : ℕ) (d : Token) → k < length ts → unwrap_or (option_map (λ (t : Token). is_wide t.kind) (slice_get ts k)) false ≡ is_wide (get_or ts k d).kind
number_at ts k d h = ap (λ o. unwrap_or (option_map (λ (t : Token). is_wide t.kind) o) false) (slice_get-get_or ts k d h)

no_number : (ts : List Token) (k : ℕ) → length ts ≤ k → IsTooLargeAt ts k → ⊥
no_number ts k h w =
    let e = ap (λ o. unwrap_or (option_map (λ (t : Token). is_wide t.kind) o) false) (slice_get_past ts k h) in
    let f = w.number in
    cc

not_number : (ts : List Token) (k : ℕ) (d : Token) → k < length ts → is_wide (get_or ts k d).kind ≡ false → IsTooLargeAt ts k → ⊥
not_number ts k d h n w = let e = number_at ts k d h in let f = w.number in cc

misplaced_for : (ts : List Token) (k : ℕ) (d : Token) (b : Bool) → k < length ts → is_wide (get_or ts k d).kind ≡ b → IsMisplacedAt ts k → IsRefusal ts k (if b then TooLarge else Misplaced)
misplaced_for ts k d true h n m = record { refused = m.refused; number = number_at ts k d h ∙ n }
misplaced_for ts k d false h n m = (m, not_number ts k d h n)

deep_for : (ts : List Token) (k : ℕ) (d : Token) (b : Bool) → k < length ts → is_wide (get_or ts k d).kind ≡ b → IsTooDeepAt ts k → IsRefusal ts k (if b then TooLarge else TooDeep)
deep_for ts k d true h n m = record { refused = m.refused; number = number_at ts k d h ∙ n }
deep_for ts k d false h n m = (m, not_number ts k d h n)

-- the machine doesn't take the token
pub refused_there : (ts : List Token) (k : ℕ) (d : Token) (c : Config) → k < length ts → run (take k ts) start ≡ Some c → needs c ≤ limit → step (get_or ts k d) c ≡ None → IsRefusal ts k (refusal_at (get_or ts k d).kind Misplaced)
refused_there ts k d c h r n e = misplaced_for ts k d (is_wide (get_or ts k d).kind) h refl (misplaced_inside ts k c h r n (run_next ts k d c None h r e))

-- it takes it, and nests too deep then
pub deep_there : (ts : List Token) (k : ℕ) (d : Token) (c e : Config) → k < length ts → run (take k ts) start ≡ Some c → needs c ≤ limit → step (get_or ts k d) c ≡ Some e → limit < needs e → IsRefusal ts k (refusal_at (get_or ts k d).kind TooDeep)
deep_there ts k d c e h r n s m = deep_for ts k d (is_wide (get_or ts k d).kind) h refl (deep_inside ts k c e h r n (run_next ts k d c (Some e) h r s) m)

-- the tokens may not end
pub refused_end : (ts : List Token) (k : ℕ) (c : Config) → length ts ≤ k → run (take k ts) start ≡ Some c → needs c ≤ limit → finish c ≡ None → IsRefusal ts (length ts) Misplaced
refused_end ts k c h r n f = (misplaced_end ts k c h r n f, no_number ts (length ts) (omega arith))

-- ---- what follows from an answer that is right

refused_of : (ts : List Token) (k : ℕ) (r : Refusal) → IsRefusal ts k r → IsRefusedAt ts k
refused_of ts k TooLarge h = h.refused
refused_of ts k TooDeep h = h.0.refused
refused_of ts k Misplaced h = h.0.refused

pub only_from : (ts : List Token) (x : Result code-block.Block Fault) → IfOk x (λ b. SpellsWithin ts (plain_block b)) → IfErr x (Refuses ts) → (s : Block) → SpellsWithin ts s → Reads x s
only_from ts (Ok b) f g s w = spell_one_script ts (plain_block b) s f.0 w.0
only_from ts (Err (Refused k r)) f g s w = (refused_of ts k r g).no_script s w
only_from ts (Err OutOfMemory) f g s w = tt

pub place_from : (ts : List Token) (x : Result code-block.Block Fault) → IfOk x (λ b. SpellsWithin ts (plain_block b)) → IfErr x (Refuses ts) → (k : ℕ) → IsRefusedAt ts k → RefusesAt x k
place_from ts (Ok b) f g k w = w.no_script (plain_block b) f
place_from ts (Err (Refused j r)) f g k w = are_refused_once ts j k (refused_of ts j r g) w
place_from ts (Err OutOfMemory) f g k w = tt

too_deep_apart : (ts : List Token) (k : ℕ) → IsTooDeepAt ts k → IsMisplacedAt ts k → ⊥
too_deep_apart ts k d m = m.unlimited d.there d.unlimited

one_reason : (ts : List Token) (k : ℕ) (q r : Refusal) → IsRefusal ts k q → IsRefusal ts k r → q ≡ r
one_reason ts k TooLarge TooLarge v w = refl
one_reason ts k TooLarge TooDeep v w = absurd (w.1 v)
one_reason ts k TooLarge Misplaced v w = absurd (w.1 v)
one_reason ts k TooDeep TooLarge v w = absurd (v.1 w)
one_reason ts k TooDeep TooDeep v w = refl
one_reason ts k TooDeep Misplaced v w = absurd (too_deep_apart ts k v.0 w.0)
one_reason ts k Misplaced TooLarge v w = absurd (v.1 w)
one_reason ts k Misplaced TooDeep v w = absurd (too_deep_apart ts k w.0 v.0)
one_reason ts k Misplaced Misplaced v w = refl

pub reason_from : (ts : List Token) (x : Result code-block.Block Fault) → IfOk x (λ b. SpellsWithin ts (plain_block b)) → IfErr x (Refuses ts) → (k : ℕ) (r : Refusal) → IsRefusal ts k r → RefusesFor x k r
reason_from ts (Ok b) f g k r w = (refused_of ts k r w).no_script (plain_block b) f
reason_from ts (Err (Refused j q)) f g k r w =
    let e : j ≡ k = are_refused_once ts j k (refused_of ts j q g) (refused_of ts k r w) in
    (e, one_reason ts k q r (subst (λ i. IsRefusal ts i q) e g) w)
reason_from ts (Err OutOfMemory) f g k r w = tt

-- ---- what the code answers

pub stopped_there : (ts : List Token) (k : ℕ) (d : Token) (c : Config) (x : Stop) (q : Refusal) (f : Fault) → k < length ts → run (take k ts) start ≡ Some c → needs c ≤ limit →
    Leads (step (get_or ts k d) c) (Err x) → q ≡ refusal_at (get_or ts k d).kind Misplaced → f ≡ fault_from x k q → Refuses ts f
stopped_there ts k d c stop.Refused q f h r n l e g = subst (Refuses ts) (sym g) (subst (IsRefusal ts k) (sym e) (refused_there ts k d c h r n l))
stopped_there ts k d c stop.OutOfMemory q f h r n l e g = subst (Refuses ts) (sym g) tt

pub ended_there : (ts : List Token) (k : ℕ) (c : Config) (x : Stop) (f : Fault) → length ts ≤ k → run (take k ts) start ≡ Some c → needs c ≤ limit →
    Ends (finish c) (Err x) → f ≡ fault_from x (length ts) Misplaced → Refuses ts f
ended_there ts k c stop.Refused f h r n l g = subst (Refuses ts) (sym g) (refused_end ts k c h r n l)
ended_there ts k c stop.OutOfMemory f h r n l g = subst (Refuses ts) (sym g) tt

pub deep_at : (ts : List Token) (k : ℕ) (d : Token) (c e : Config) (m : ℕ) (q : Refusal) → k < length ts → run (take k ts) start ≡ Some c → needs c ≤ limit → step (get_or ts k d) c ≡ Some e →
    m ≡ min (needs e) 255 → 100 < m → q ≡ refusal_at (get_or ts k d).kind TooDeep → IsRefusal ts k q
deep_at ts k d c e m q h r n s w l g = subst (IsRefusal ts k) (sym g) (deep_there ts k d c e h r n s (deeper (needs e) m w l))
  where
    deeper : (a b : ℕ) → b ≡ min a 255 → 100 < b → limit < a
    deeper a b u v = omega arith

pub within_limit : (e : Config) (m : ℕ) → m ≡ min (needs e) 255 → m ≤ 100 → needs e ≤ limit
within_limit e m w l = shallower (needs e) m w l
  where
    shallower : (a b : ℕ) → b ≡ min a 255 → b ≤ 100 → a ≤ limit
    shallower a b u v = omega arith
