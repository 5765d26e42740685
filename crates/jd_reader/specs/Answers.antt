-- What reading tokens may answer.
use Rattle.std.specs.Prelude.{ℕ, ◌≡◌, List, Result, Ok, Err, if◌then◌else◌}
use Rattle.jd_grammar.specs.declared.token.Token.{Token}
use Rattle.jd_grammar.specs.declared.token.Kind.{Kind}
use Rattle.jd_grammar.specs.Kinds.{is_wide}
use Rattle.jd_grammar.specs.Script.{Block}
use Rattle.jd_grammar.specs.Promise.{IsTooLargeAt, IsTooDeepAt, IsMisplacedAt}
use Rattle.jd_script.specs.declared.tree.Block as code-block
use Rattle.jd_script.specs.PlainScript.{plain_block}
use Rattle.jd_precedence.specs.declared.stop.Stop.{Stop}
use Rattle.jd_precedence.specs.declared.stop.Stop.TheVariants as stop
use Rattle.jd_reader.specs.declared.refusal.Refusal.{Refusal}
use Rattle.jd_reader.specs.declared.refusal.Refusal.TheVariants.{Misplaced, TooDeep, TooLarge}
use Rattle.jd_reader.specs.declared.refusal.Fault.{Fault}
use Rattle.jd_reader.specs.declared.refusal.Fault.TheVariants.{Refused, OutOfMemory}

-- The token at k is refused for this reason: it is a number that is too large there, and else nests too deep, or has no place.
abbrev pub IsRefusal : List Token → ℕ → Refusal → Type 0
IsRefusal ts k TooLarge = IsTooLargeAt ts k
IsRefusal ts k TooDeep = IsTooDeepAt ts k × (IsTooLargeAt ts k → ⊥)
IsRefusal ts k Misplaced = IsMisplacedAt ts k × (IsTooLargeAt ts k → ⊥)

-- the answer is this script, unless memory ran out
abbrev pub Reads : Result code-block.Block Fault → Block → Type 0
Reads (Ok b) s = plain_block b ≡ s
Reads (Err OutOfMemory) s = Unit {0}
Reads (Err (Refused k r)) s = ⊥

-- an answer that refuses does so for its reason
abbrev pub Refuses : List Token → Fault → Type 0
Refuses ts OutOfMemory = Unit {0}
Refuses ts (Refused k r) = IsRefusal ts k r

-- the answer refuses the token at k for this reason, unless memory ran out
abbrev pub RefusesFor : Result code-block.Block Fault → ℕ → Refusal → Type 0
RefusesFor (Ok b) k r = ⊥
RefusesFor (Err OutOfMemory) k r = Unit {0}
RefusesFor (Err (Refused j q)) k r = (j ≡ k) × (q ≡ r)

-- the answer refuses the token at k, unless memory ran out
abbrev pub RefusesAt : Result code-block.Block Fault → ℕ → Type 0
RefusesAt (Ok b) k = ⊥
RefusesAt (Err OutOfMemory) k = Unit {0}
RefusesAt (Err (Refused j q)) k = j ≡ k

-- why a token of this kind is refused that might be so for another reason
abbrev pub refusal_at : Kind → Refusal → Refusal
refusal_at k other = if is_wide k then TooLarge else other

abbrev pub fault_from : Stop → ℕ → Refusal → Fault
fault_from stop.Refused k r = Refused k r
fault_from stop.OutOfMemory k r = OutOfMemory
