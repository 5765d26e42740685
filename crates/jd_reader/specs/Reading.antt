-- The reader's state as the machine's, and what its functions answer where the machine goes on so.
use Rattle.std.specs.Prelude.{◌≡◌, ◌≤◌, ℕ, List, [], ◌∷◌, take, Option, Some, None, Result, Ok, Err}
use Rattle.jd_grammar.specs.Reader as machine
use Rattle.jd_grammar.specs.Reader.{Config, run, start}
use Rattle.jd_grammar.specs.ScriptDepth.{limit, needs}
use Rattle.jd_grammar.specs.declared.token.Token.{Token}
use Rattle.jd_grammar.specs.Script.{Block, Scope}
use Rattle.jd_script.specs.declared.tree.Block as code-block
use Rattle.jd_tree.specs.Code.{plain_measured}
use Rattle.jd_script.specs.PlainScript.{plain_block, plain_header, plain_lead, plain_opening, plain_packages, plain_parameters, plain_signature, plain_stmt, plain_target}
use Rattle.jd_reader.specs.declared.context.Outer as code-outer
use Rattle.jd_reader.specs.declared.context.Context as code-context
use Rattle.jd_reader.specs.declared.context.Bottom as code-bottom
use Rattle.jd_reader.specs.declared.context.Bottom.TheVariants as bottom
use Rattle.jd_reader.specs.declared.context.Owner as code-owner
use Rattle.jd_reader.specs.declared.context.Owner.TheVariants as owner
use Rattle.jd_reader.specs.declared.context.Awaited as code-awaited
use Rattle.jd_reader.specs.declared.context.Awaited.TheVariants as words
use Rattle.jd_reader.specs.declared.context.Mode as code-mode
use Rattle.jd_reader.specs.declared.context.Mode.TheVariants as mode
use Rattle.jd_reader.specs.declared.context.Config as code-config
use Rattle.jd_reader.specs.declared.context.Whole as code-whole
use Rattle.jd_reader.specs.declared.context.Whole.TheVariants as whole
use Rattle.jd_reader.specs.declared.scopes.Scope as code-scope
use Rattle.jd_precedence.specs.declared.stop.Stop.{Stop}
use Rattle.jd_precedence.specs.declared.stop.Stop.TheVariants.{Refused, OutOfMemory}
use Rattle.jd_precedence.specs.declared.frames.Frame.{Frame}
use Rattle.jd_precedence.specs.declared.frames.Now.{Now}
use Rattle.jd_precedence.specs.State.{state}
use Rattle.jd_script.specs.CodeScript.{plain_arms, plain_lines, plain_place}

abbrev pub plain_outer : code-outer.Outer → machine.Outer
plain_outer o = record { lines = plain_lines o.lines; before = plain_arms o.before; opening = plain_opening o.opening.opening }

abbrev pub plain_outers : List code-outer.Outer → List machine.Outer
plain_outers [] = []
plain_outers (o ∷ os) = plain_outer o ∷ plain_outers os

abbrev pub plain_context : code-context.Context → machine.Context
plain_context c = record { outer = plain_outers c.outer; lines = plain_lines c.lines }

abbrev pub plain_bottom : code-bottom.Bottom → machine.Bottom
plain_bottom (bottom.Lead l) = machine.in_lead (plain_lead l)
plain_bottom (bottom.Header x h) = machine.in_header (plain_arms x) (plain_header h)

abbrev pub plain_owner : code-owner.Owner → machine.Owner
plain_owner (owner.Function every t) = machine.of_function every t
plain_owner (owner.Everywhere every) = machine.of_everywhere every

abbrev pub plain_awaited : code-awaited.Awaited → machine.Awaited
plain_awaited (words.ForName t) = machine.for_name t
plain_awaited (words.ForIn t n) = machine.for_in t n
plain_awaited (words.DistributedOpen d) = machine.distributed_open (plain_target d.target) d.word
plain_awaited (words.DistributedReducer d o) = machine.distributed_reducer (plain_target d.target) d.word o
plain_awaited (words.DistributedClose d o op) = machine.distributed_close (plain_target d.target) d.word o op
plain_awaited (words.DistributedFor d o op c) = machine.distributed_for (plain_target d.target) d.word o op c
plain_awaited (words.DistributedName d o op c f) = machine.distributed_name (plain_target d.target) d.word o op c f
plain_awaited (words.DistributedIn d o op c f n) = machine.distributed_in (plain_target d.target) d.word o op c f n
plain_awaited (words.FunctionName every f) = machine.function_name every f
plain_awaited (words.SignatureOpen w f) = machine.signature_open (plain_owner w) f
plain_awaited (words.SignatureFirst s) = machine.signature_first (plain_owner s.owner) s.name s.opens
plain_awaited (words.SignatureNext s ps) = machine.signature_next (plain_owner s.owner) s.name s.opens (plain_parameters ps.parameters)
plain_awaited (words.SignatureName s ps comma) = machine.signature_name (plain_owner s.owner) s.name s.opens (plain_parameters ps.parameters) comma
plain_awaited (words.SignatureEnd every s) = machine.signature_end every (plain_signature s)
plain_awaited (words.Everywhere every) = machine.everywhere every
plain_awaited (words.EverywherePackage every t) = machine.everywhere_package every t
plain_awaited (words.PackageFirst t) = machine.package_first t
plain_awaited (words.PackageNext ns comma) = machine.package_next (plain_packages ns) comma
plain_awaited (words.CatchWords x t) = machine.catch_words (plain_arms x) t
plain_awaited (words.CatchNamed x t n) = machine.catch_named (plain_arms x) t n

abbrev pub plain_mode : code-mode.Mode → machine.Mode
plain_mode (mode.Expression b fs n) = machine.at_expression (plain_bottom b) (state fs n)
plain_mode (mode.Words w) = machine.at_words (plain_awaited w)
plain_mode (mode.Complete s) = machine.complete (plain_stmt s.stmt)

abbrev pub plain_config : code-config.Config → Config
plain_config c = record { context = plain_context c.context; mode = plain_mode c.mode }

-- an expression is read, with what stands round it
abbrev pub plain_reading : code-context.Context → code-bottom.Bottom → List Frame → Now → Config
plain_reading ctx b fs n = record { context = plain_context ctx; mode = machine.at_expression (plain_bottom b) (state fs n) }

abbrev pub plain_whole : code-whole.Whole → machine.Whole
plain_whole whole.Nothing = machine.nothing_whole
plain_whole (whole.Place m) = machine.a_place (plain_place m)
plain_whole (whole.Header x h e) = machine.a_header (plain_arms x) (plain_header h) (plain_measured e)

-- the tokens before the place were read, within the limit
pub record HasRead (ts : List Token) (place : ℕ) (c : Config) : Type 0 where
  pub read : run (take place ts) start ≡ Some c
  pub within : needs c ≤ limit

-- the code goes on as the machine does, and refuses where it does, unless memory runs out
abbrev pub Leads : Option Config → Result code-config.Config Stop → Type 0
Leads x (Ok c) = x ≡ Some (plain_config c)
Leads x (Err OutOfMemory) = Unit {0}
Leads x (Err Refused) = x ≡ None

-- the code ends where the machine does, unless memory runs out
abbrev pub Ends : Option Block → Result code-block.Block Stop → Type 0
Ends x (Ok b) = x ≡ Some (plain_block b)
Ends x (Err OutOfMemory) = Unit {0}
Ends x (Err Refused) = x ≡ None

-- the code's scopes as the grammar's
abbrev pub plain_scope : code-scope.Scope → Scope
plain_scope s = record { top = s.top; loop = s.in_loop; function = s.in_function }
