-- What a call of `parse` may answer.
use Rattle.std.specs.Prelude.{◌≡◌, ℕ, ◌==◌, List, length, Option, Some, None, Result, Ok, Err, if◌then◌else◌}
use Rattle.jd_grammar.specs.declared.token.Token.{Token}
use Rattle.jd_grammar.specs.Promise.{SpellsWithin}
use Rattle.jd_reader.specs.declared.refusal.Refusal.{Refusal}
use Rattle.jd_reader.specs.declared.refusal.Refusal.TheVariants as refusal
use Rattle.jd_script.specs.declared.tree.Block as code-block
use Rattle.jd_script.specs.PlainScript.{plain_block}
use Rattle.jd_syntax.specs.declared.script.Script as code-script
use Rattle.jd_syntax.specs.declared.fault.ParseFault.{ParseFault}
use Rattle.jd_syntax.specs.declared.fault.ParseFault.TheVariants as fault
use Rattle.jd_syntax.specs.declared.fault.ParseKind.{ParseKind}
use Rattle.jd_syntax.specs.declared.fault.ParseKind.TheVariants as kind
use Rattle.jd_syntax.specs.declared.parsing.Stop.{Stop}
use Rattle.jd_syntax.specs.declared.parsing.Stop.TheVariants as stop
use Rattle.jd_syntax.specs.Spelling.{Script, Spells}
use Rattle.jd_syntax.specs.Refusal.{IsRefusedToken, place_of, IsRefused, line_at}

-- the code's script as a plain one
abbrev pub plain_script : code-script.Script → Script
plain_script s = record { block = plain_block s.block; texts = s.texts; names = s.names }

-- the answer is this script, unless memory ran out
abbrev pub Parses : Result code-script.Script ParseFault → Script → Type 0
Parses (Ok s) t = plain_script s ≡ t
Parses (Err fault.OutOfMemory) t = Unit {0}
Parses (Err (fault.Refused line kind)) t = ⊥

-- the bytes are refused so, and the line is that of the place
abbrev pub Refuses : List ℕ → ParseFault → Type 0
Refuses bytes (fault.Refused line kind) = (place : ℕ) × IsRefused bytes kind place × (line ≡ line_at bytes place)
Refuses bytes fault.OutOfMemory = Unit {0}

-- the answer is this refusal, unless memory ran out
abbrev pub Tells : Result code-script.Script ParseFault → ParseKind → ℕ → Type 0
Tells (Ok s) kind line = ⊥
Tells (Err fault.OutOfMemory) kind line = Unit {0}
Tells (Err (fault.Refused l k)) kind line = (k ≡ kind) × (l ≡ line)

-- ---- on the way

-- the kinds by the reader's names
abbrev pub kind_of : Refusal → ParseKind
kind_of refusal.Misplaced = kind.Form
kind_of refusal.TooDeep = kind.TooDeep
kind_of refusal.TooLarge = kind.WideNumber

-- what reading the tokens gives: a refused token by its number
abbrev pub ReadsTokens : List Token → Result code-block.Block Stop → Type 0
ReadsTokens ts (Ok b) = SpellsWithin ts (plain_block b)
ReadsTokens ts (Err (stop.Refused kind number)) = IsRefusedToken kind ts number
ReadsTokens ts (Err stop.OutOfMemory) = Unit {0}

-- what reading the bytes gives
abbrev pub Reads : List ℕ → Result code-script.Script Stop → Type 0
Reads bytes (Ok s) = Spells bytes (plain_script s)
Reads bytes (Err (stop.Refused kind place)) = IsRefused bytes kind place
Reads bytes (Err stop.OutOfMemory) = Unit {0}

-- Behind tokens that are all a beginning stands the place where no token begins, if there is one.
abbrev pub refused_at : List Token → ParseKind → ℕ → Option ℕ → ℕ → Stop
refused_at ts k number None end = stop.Refused k (place_of ts number end)
refused_at ts k number (Some place) end = if number == length ts then stop.Refused kind.Token place else stop.Refused k (place_of ts number end)
