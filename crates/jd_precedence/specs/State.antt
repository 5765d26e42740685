-- The code's frames as the machine's, and what its functions answer where the machine goes on so.
use Rattle.std.specs.Prelude.{ℕ, Bool, true, false, ◌≡◌, List, [], ◌∷◌, Option, Some, None, Result, Ok, Err}
use Rattle.jd_grammar.specs.Grammar.{Syntax}
use Rattle.jd_grammar.specs.Frames as machine
use Rattle.jd_grammar.specs.Frames.{State}
use Rattle.jd_grammar.specs.Machine.{close}
use Rattle.jd_tree.specs.declared.measured.Measured.{Measured}
use Rattle.jd_tree.specs.Plain.{plain_channel}
use Rattle.jd_tree.specs.Code.{plain_measured, plain_arguments, plain_first, plain_atoms, plain_generators, plain_head, plain_bracket}
use Rattle.jd_precedence.specs.declared.frames.Hold.{Hold}
use Rattle.jd_precedence.specs.declared.frames.Hold.TheVariants as hold
use Rattle.jd_precedence.specs.declared.frames.Fixed.{Fixed}
use Rattle.jd_precedence.specs.declared.frames.Fixed.TheVariants as fixed
use Rattle.jd_precedence.specs.declared.frames.Frame.{Frame}
use Rattle.jd_precedence.specs.declared.frames.Frame.TheVariants as frame
use Rattle.jd_precedence.specs.declared.frames.Words.{Words}
use Rattle.jd_precedence.specs.declared.frames.Words.TheVariants as words
use Rattle.jd_precedence.specs.declared.frames.Now.{Now}
use Rattle.jd_precedence.specs.declared.frames.Now.TheVariants as now
use Rattle.jd_precedence.specs.declared.stop.Stop.{Stop}
use Rattle.jd_precedence.specs.declared.stop.Stop.TheVariants.{Refused, OutOfMemory}

abbrev pub plain_hold : Hold → machine.Hold
plain_hold (hold.Spawning t) = machine.spawning t
plain_hold (hold.Rows r) = machine.rows r.opens (plain_first r.atoms) (plain_atoms r.atoms) r.pending

abbrev pub plain_fixed : Fixed → machine.Fixed
plain_fixed (fixed.InBracket l) = machine.in_bracket (plain_bracket l.bracket) l.opens (plain_arguments l.most)
plain_fixed (fixed.InMiddle c q) = machine.in_middle (plain_measured c) q
plain_fixed (fixed.InGroup h o) = machine.in_group (plain_hold h) o
plain_fixed (fixed.InGenerator c v) = machine.in_generator c.opens (plain_measured c.element) (plain_generators c.generators) v.begins v.name v.within
plain_fixed (fixed.InSize t) = machine.in_size (plain_channel t.channel) t.element t.shut t.opens
plain_fixed (fixed.InPlace t s) = machine.in_place (plain_channel t.channel) t.element t.shut t.opens (plain_measured s.size) s.closes s.comma

abbrev pub plain_frame : Frame → machine.Frame
plain_frame (frame.OpenEnd h) = machine.open_end (plain_head h)
plain_frame (frame.Fixed f) = machine.fixed (plain_fixed f)

abbrev pub plain_frames : List Frame → List machine.Frame
plain_frames [] = []
plain_frames (f ∷ fs) = plain_frame f ∷ plain_frames fs

abbrev pub plain_words : Words → machine.Words
plain_words (words.Operator t) = machine.operator t
plain_words (words.Atoms h) = machine.atoms (plain_hold h)
plain_words (words.Minus h t) = machine.minus (plain_hold h) t
plain_words (words.GeneratorName c t) = machine.generator_name c.opens (plain_measured c.element) (plain_generators c.generators) t
plain_words (words.GeneratorIn c t n) = machine.generator_in c.opens (plain_measured c.element) (plain_generators c.generators) t n
plain_words (words.ElementType c) = machine.element_type (plain_channel c)
plain_words (words.TypeEnd c type) = machine.type_end (plain_channel c) type
plain_words (words.SizeBegin c type shut) = machine.size_begin (plain_channel c) type shut
plain_words (words.PlaceBegin t size closes) = machine.place_begin (plain_channel t.channel) t.element t.shut t.opens (plain_measured size) closes

abbrev pub plain_now : Now → machine.Now
plain_now now.Wanted = machine.wanted
plain_now (now.Got e) = machine.got (plain_measured e)
plain_now (now.Pending w) = machine.pending (plain_words w)

abbrev pub state : List Frame → Now → State
state fs n = record { frames = plain_frames fs; now = plain_now n }

-- what is left open, and the operand, where all is ended that binds so tightly
abbrev pub closed : ℕ → List Frame → Measured → List machine.Frame × Syntax
closed p fs e = close p (plain_frames fs) (plain_measured e)

abbrev pub Closes : ℕ → List Frame → Measured → List Frame → Measured → Type 0
Closes p fs e gs d = (plain_frames gs, plain_measured d) ≡ closed p fs e

-- the code goes on as the machine does, and refuses where it does, unless memory runs out
abbrev pub Steps : Option State → List Frame → Result Now Stop → Type 0
Steps x fs (Ok n) = x ≡ Some (state fs n)
Steps x fs (Err OutOfMemory) = Unit {0}
Steps x fs (Err Refused) = x ≡ None

abbrev pub no_operator : machine.Words → Bool
no_operator (machine.operator t) = false
no_operator _ = true
