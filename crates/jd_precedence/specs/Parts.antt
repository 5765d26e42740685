-- What the code asks of the grammar's trees.
use Rattle.std.specs.Prelude.{Bool, true, false, ◌&&◌, List, Option, Some, None, if◌then◌else◌}
use Rattle.jd_grammar.specs.declared.token.Token.{Token}
use Rattle.jd_grammar.specs.declared.token.Word.TheVariants as word
use Rattle.jd_grammar.specs.declared.token.Kind.{Kind}
use Rattle.jd_grammar.specs.declared.token.Kind.TheVariants.{OpenParen, OpenBracket, CloseBracket, OpenBrace, Arrow, Assign, Question, Semicolon}
use Rattle.jd_grammar.specs.Kinds.{is_word}
use Rattle.jd_grammar.specs.Grammar.{Channel, Syntax, leaf, bracket, Bracket, grouped, called, itemed, Items, none, Maybe, nothing}
use Rattle.jd_tree.specs.Plain.{Inside}
use Rattle.jd_precedence.specs.declared.frames.Signs.{Signs}
use Rattle.jd_grammar.specs.Frames.{Hold, Frame, element_type, State, await}
use Rattle.jd_grammar.specs.Machine.{atoms_step, have_more}

-- a bracket whose first element is read
abbrev pub is_first_element : Bracket → Items → Bool
is_first_element itemed none = true
is_first_element _ _ = false

-- the token of an operand of one token
abbrev pub leaf_token_in : Syntax → Option Token
leaf_token_in (leaf t) = Some t
leaf_token_in _ = None

-- whether nothing stands between parentheses
abbrev pub is_nothing : Items → Maybe → Bool
is_nothing none nothing = true
is_nothing _ _ = false

abbrev pub empty_between : Token → Items → Maybe → Token → Option (Token × Token)
empty_between o es m c = if is_nothing es m then Some (o, c) else None

abbrev pub empty_inside : Inside → Option (Token × Token)
empty_inside l = empty_between l.opens l.most l.last l.closes

-- the tokens of `()`
abbrev pub empty_group_in : Syntax → Option (Token × Token)
empty_group_in (bracket grouped o es m c) = empty_between o es m c
empty_group_in _ = None

-- ---- the parts of a channel's beginning

abbrev pub callee_token : Bracket → Option Token
callee_token (called f) = leaf_token_in f
callee_token _ = None

abbrev pub are_none : Items → Bool
are_none none = true
are_none _ = false

abbrev pub a_channel : Signs → Token × Token → Token → Token → Channel
a_channel s ns f w = record { callee = f; opens = s.opens; none_opens = ns.0; none_closes = ns.1; arrow = s.arrow; word = w; brace = s.brace }

-- `()` before the arrow, `RemoteChannel` that is called with nothing before it, and `Channel`, where all of them are there
abbrev pub channel_from : Signs → Option (Token × Token) → Option Token → Bool → Option Token → Option Channel
channel_from s (Some ns) (Some f) true (Some w) = if is_word word.RemoteChannel f.kind && is_word word.Channel w.kind then Some (a_channel s ns f w) else None
channel_from s _ _ _ _ = None

-- the same by the whole of what stands before the `{`
abbrev pub channel_in : Token → Syntax → Token → Bracket → Items → Token → Syntax → Option Channel
channel_in o ns a b es t e = channel_from (record { opens = o; arrow = a; brace = t }) (empty_group_in ns) (callee_token b) (are_none es) (leaf_token_in e)

abbrev pub awaits_type : List Frame → Option Channel → Option State
awaits_type fs None = None
awaits_type fs (Some c) = Some (await fs (element_type c))

-- ---- kinds of tokens

-- what goes on behind an operand and is no binary operator
abbrev pub is_more : Kind → Bool
is_more OpenParen = true
is_more OpenBracket = true
is_more OpenBrace = true
is_more Arrow = true
is_more Assign = true
is_more Question = true
is_more _ = false

-- what ends a row of atoms
abbrev pub ends_row : Kind → Bool
ends_row Semicolon = true
ends_row CloseBracket = true
ends_row _ = false

-- ---- steps at such kinds alone

abbrev pub more_step : Kind → Token → List Frame → Syntax → Option State
more_step k t fs e = if is_more k then have_more k t fs e else None

abbrev pub row_step : Hold → Kind → Token → List Frame → Option State
row_step hold k t fs = if ends_row k then atoms_step hold k t fs else None
