-- What the frames that are open are written with, and what holds of them between two tokens.
use Rattle.std.proofs.Common.{◌≡◌, ◌≤◌, Bool, true, false, ◌&&◌, IsTrue, List, [], ◌∷◌, Option, Some, None, if◌then◌else◌, refl}
use Rattle.jd_grammar.specs.declared.token.Token.{Token}
use Rattle.jd_grammar.specs.declared.token.Kind.{Kind}
use Rattle.jd_grammar.specs.declared.token.Kind.TheVariants.{Minus, Question, Comma, Semicolon, For, In, OpenParen, CloseParen, OpenBracket, CloseBrace}
use Rattle.jd_grammar.specs.Kinds.{is_name, is_argument, is_spawn, is_element_type}
use Rattle.jd_grammar.specs.Grammar.{Channel, Syntax, called, Cells, Generators, no_more, generator, put_channel, put, put_head, put_bracket, put_cells, put_items, put_generators, opens, count, level, IsChannel, IsAt, IsHead, IsBracket, AreCells, AreItems, AreGenerators}
use Rattle.jd_grammar.specs.Rows.{is_atom, are_many, are_even, first_width, are_begun, may_go_on}
use Rattle.jd_grammar.specs.Machine.{takes}
use Rattle.jd_grammar.specs.Frames.{Hold, spawning, rows, Fixed, in_bracket, in_middle, in_group, in_generator, in_size, in_place, Frame, open_end, fixed, Words, operator, atoms, minus, generator_name, generator_in, element_type, type_end, size_begin, place_begin, Now, wanted, got, pending, State, demand, ranges, negated}

-- ---- the tokens read so far, in front of the rest

abbrev pub put_pending : Option Token → List Token → List Token
put_pending None rest = rest
put_pending (Some t) rest = t ∷ rest

abbrev pub put_hold : Hold → List Token → List Token
put_hold (spawning t) rest = t ∷ rest
put_hold (rows o a cells q) rest = o ∷ put a (put_cells cells (put_pending q rest))

abbrev pub put_fixed : Fixed → List Token → List Token
put_fixed (in_bracket b o es) rest = put_bracket b (o ∷ put_items es rest)
put_fixed (in_middle c q) rest = put c (q ∷ rest)
put_fixed (in_group hold p) rest = put_hold hold (p ∷ rest)
put_fixed (in_generator o e gens t n i) rest = o ∷ put e (put_generators gens (t ∷ n ∷ i ∷ rest))
put_fixed (in_size c type shut o) rest = put_channel c (type ∷ shut ∷ o ∷ rest)
put_fixed (in_place c type shut o size closes comma) rest = put_channel c (type ∷ shut ∷ o ∷ put size (closes ∷ comma ∷ rest))

abbrev pub put_frame : Frame → List Token → List Token
put_frame (open_end h) rest = put_head h rest
put_frame (fixed f) rest = put_fixed f rest

abbrev pub put_frames : List Frame → List Token → List Token
put_frames [] rest = rest
put_frames (f ∷ fs) rest = put_frames fs (put_frame f rest)

abbrev pub put_words : Words → List Token → List Token
put_words (operator t) rest = t ∷ rest
put_words (atoms hold) rest = put_hold hold rest
put_words (minus hold m) rest = put_hold hold (m ∷ rest)
put_words (generator_name o e gens t) rest = o ∷ put e (put_generators gens (t ∷ rest))
put_words (generator_in o e gens t n) rest = o ∷ put e (put_generators gens (t ∷ n ∷ rest))
put_words (element_type c) rest = put_channel c rest
put_words (type_end c type) rest = put_channel c (type ∷ rest)
put_words (size_begin c type shut) rest = put_channel c (type ∷ shut ∷ rest)
put_words (place_begin c type shut o size closes) rest = put_channel c (type ∷ shut ∷ o ∷ put size (closes ∷ rest))

abbrev pub put_now : Now → List Token → List Token
put_now wanted rest = rest
put_now (got e) rest = put e rest
put_now (pending w) rest = put_words w rest

abbrev pub put_state : State → List Token → List Token
put_state s rest = put_frames s.frames (put_now s.now rest)

-- ---- what holds of a state: each part is in the grammar, and fits what stands round it

-- what stands before the next generator, where k stands before the first
abbrev pub next_kind : Kind → Generators → Kind
next_kind k no_more = k
next_kind k (generator t n i e gens) = Comma

-- with one atom it waits for the second row
abbrev pub IsPending : Cells → Option Token → Type 0
IsPending cells None = IsTrue (are_many cells)
IsPending cells (Some t) = (t.kind ≡ Semicolon) × IsTrue (may_go_on cells)

abbrev pub IsHold : List Frame → Hold → Type 0
IsHold fs (spawning t) = IsTrue (is_spawn t.kind) × (demand fs ≤ 1)
IsHold fs (rows o a cells q) = (o.kind ≡ OpenBracket) × IsAt true false 9 a × IsTrue (is_atom a) × AreCells cells
    × IsTrue (are_even (first_width 1 cells) 1 cells) × IsTrue (are_begun cells) × IsPending cells q

abbrev pub AreBegun : Token → Syntax → Generators → Token → Type 0
AreBegun o e gens t = (o.kind ≡ OpenBracket) × IsAt true false 1 e × AreGenerators For gens × (count gens ≤ 2) × (t.kind ≡ next_kind For gens)

abbrev pub IsTyped : Channel → Token → Type 0
IsTyped c type = IsChannel c × IsTrue (is_element_type type.kind)

abbrev pub IsSized : Channel → Token → Token → Token → Type 0
IsSized c type shut o = IsTyped c type × (shut.kind ≡ CloseBrace) × (o.kind ≡ OpenParen)

abbrev pub IsFixed : List Frame → Fixed → Type 0
IsFixed fs (in_bracket b o es) = IsBracket (ranges fs) (negated fs) b × (o.kind ≡ opens b) × AreItems b es
IsFixed fs (in_middle c q) = IsAt (ranges fs) (negated fs) 3 c × (q.kind ≡ Question) × (demand fs ≤ 2)
IsFixed fs (in_group hold p) = IsHold fs hold × (p.kind ≡ OpenParen) × IsTrue (takes hold p)
IsFixed fs (in_generator o e gens t n i) = AreBegun o e gens t × IsTrue (is_name n.kind) × (i.kind ≡ In)
IsFixed fs (in_size c type shut o) = IsSized c type shut o
IsFixed fs (in_place c type shut o size closes comma) = IsSized c type shut o × IsAt true false 1 size × (closes.kind ≡ CloseParen) × (comma.kind ≡ Comma)

abbrev pub AreFrames : List Frame → Type 0
AreFrames [] = Unit {0}
AreFrames (open_end h ∷ fs) = IsHead (ranges fs) (negated fs) h × (demand fs ≤ level h) × AreFrames fs
AreFrames (fixed f ∷ fs) = IsFixed fs f × AreFrames fs

-- a call's arguments stand there
abbrev pub IsCall : List Frame → Type 0
IsCall (fixed (in_bracket (called f) o es) ∷ fs) = Unit {0}
IsCall _ = ⊥

abbrev pub IsWords : List Frame → Words → Type 0
IsWords fs (operator t) = IsTrue (is_argument t.kind) × IsCall fs
IsWords fs (atoms hold) = IsHold fs hold
IsWords fs (minus hold m) = IsHold fs hold × (m.kind ≡ Minus) × IsTrue (takes hold m)
IsWords fs (generator_name o e gens t) = AreBegun o e gens t
IsWords fs (generator_in o e gens t n) = AreBegun o e gens t × IsTrue (is_name n.kind)
IsWords fs (element_type c) = IsChannel c
IsWords fs (type_end c type) = IsTyped c type
IsWords fs (size_begin c type shut) = IsTyped c type × (shut.kind ≡ CloseBrace)
IsWords fs (place_begin c type shut o size closes) = IsSized c type shut o × IsAt true false 1 size × (closes.kind ≡ CloseParen)

abbrev pub IsNow : List Frame → Now → Type 0
IsNow fs wanted = Unit {0}
IsNow fs (got e) = IsAt (ranges fs) (negated fs) 10 e
IsNow fs (pending w) = IsWords fs w

pub record IsState (s : State) : Type 0 where
  pub frames : AreFrames s.frames
  pub now : IsNow s.frames s.now

-- After a step the state is in order, and written with one token more.
pub record IsStep (t : Token) (s d : State) : Type 0 where
  pub state : IsState d
  pub tokens : (rest : List Token) → put_state d rest ≡ put_state s (t ∷ rest)

abbrev pub MayStep : Token → State → Option State → Type 0
MayStep t s None = Unit {0}
MayStep t s (Some d) = IsStep t s d

pub may_if : (t : Token) (s d : State) (b : Bool) → (b ≡ true → IsStep t s d) → MayStep t s (if b then Some d else None)
may_if t s d true h = h refl
may_if t s d false h = tt

pub both : (a b : Bool) → (a && b) ≡ true → (a ≡ true) × (b ≡ true)
both true b h = (refl, h)
both false b h = cc
