-- Reading an expression, a token at a time.
use Rattle.std.specs.Prelude.{ℕ, Bool, true, false, ◌&&◌, List, [], ◌∷◌, Option, Some, None, nat_le, if◌then◌else◌}
use Rattle.jd_grammar.specs.declared.token.Token.{Token}
use Rattle.jd_grammar.specs.declared.token.Word.TheVariants as word
use Rattle.jd_grammar.specs.declared.token.Kind.{Kind}
use Rattle.jd_grammar.specs.declared.token.Kind.TheVariants.{Number, Wide, Text, Name, True, False, Nothing, In, For, SpawnAt, FetchFrom, Plus, Minus, Star, And, Or, Xor, Not, Complement, Question, Colon, Comma, Arrow, Assign, OpenParen, CloseParen, OpenBracket, CloseBracket, OpenBrace, CloseBrace, Semicolon}
use Rattle.jd_grammar.specs.Kinds.{is_name, is_least, is_minus, is_argument, strength, left, stands, is_word, is_element_type}
use Rattle.jd_grammar.specs.Grammar.{Channel, Syntax, leaf, sign, ending, bracket, matrix, comprehension, remote, unary, binary, choice, lambda, spawn, keyword, Bracket, grouped, called, itemed, indexed, Items, none, more, nothing, just, Generators, no_more, generator, are_parameters, is_separator, is_shape, touches, is_tight, count, level}
use Rattle.jd_grammar.specs.Rows.{is_chain, is_full, first_of, cells_of, with_cell, are_begun, may_go_on}
use Rattle.jd_grammar.specs.Frames.{Hold, spawning, rows, Fixed, in_bracket, in_middle, in_group, in_generator, in_size, in_place, Frame, open_end, fixed, Words, operator, atoms, minus, generator_name, generator_in, element_type, type_end, size_begin, place_begin, Now, wanted, got, pending, State, want, have, await, demand, ranges, negated}

-- Ends what binds at least as tightly as a token of this strength; 0 ends all but what a token of its own ends.
abbrev pub close : ℕ → List Frame → Syntax → List Frame × Syntax
close p [] e = ([], e)
close p (open_end h ∷ fs) e = if nat_le p (level h) then close p fs (ending h e) else (open_end h ∷ fs, e)
close p (fixed f ∷ fs) e = (fixed f ∷ fs, e)

-- ---- parentheses and brackets

abbrev pub with_item : Items → Syntax → Token → Items
with_item none e t = more e t none
with_item (more x c es) e t = more x c (with_item es e t)

abbrev pub is_closer : Bracket → Kind → Bool
is_closer grouped CloseParen = true
is_closer (called f) CloseParen = true
is_closer itemed CloseBracket = true
is_closer (indexed f) CloseBracket = true
is_closer _ _ = false

-- a separator behind an item
abbrev pub item_step : Bracket → Token → Items → Token → List Frame → Syntax → Option State
item_step b o es t fs e = if is_separator b t.kind && touches e t then Some (want (fixed (in_bracket b o (with_item es e t)) ∷ fs)) else None

-- what is no list is a matrix of one row
abbrev pub row_end : Token → Token → List Frame → Syntax → Option State
row_end o t fs e = if is_full (cells_of e) then Some (have fs (matrix o (first_of e) (cells_of e) t)) else None

abbrev pub close_step : Bracket → Token → Items → Token → List Frame → Syntax → Option State
close_step b o es t fs e =
    if is_closer b t.kind && touches e t then (if is_shape b es (just e) then Some (have fs (bracket b o es (just e) t)) else row_end o t fs e) else None

-- a second atom behind a first element: the bracket is a matrix
abbrev pub second_step : Bracket → Token → Items → Token → List Frame → Syntax → Option State
second_step itemed o none t fs e =
    if (t.spaced && is_chain e) && are_begun (with_cell (cells_of e) None (leaf t))
    then Some (await fs (atoms (rows o (first_of e) (with_cell (cells_of e) None (leaf t)) None))) else None
second_step _ o es t fs e = None

-- `;` behind an item: it separates arguments, or ends a matrix's first row
abbrev pub semicolon_step : Bracket → Token → Items → Token → List Frame → Syntax → Option State
semicolon_step itemed o none t fs e = if is_chain e && may_go_on (cells_of e) then Some (await fs (atoms (rows o (first_of e) (cells_of e) (Some t)))) else None
semicolon_step b o es t fs e = item_step b o es t fs e

-- `for` behind a list's first element
abbrev pub for_step : Bracket → Token → Items → Token → List Frame → Syntax → Option State
for_step itemed o none t fs e = Some (await fs (generator_name o e no_more t))
for_step _ o es t fs e = None

abbrev pub bracket_step : Bracket → Token → Items → Kind → Token → List Frame → Syntax → Option State
bracket_step b o es Comma t fs e = item_step b o es t fs e
bracket_step b o es Semicolon t fs e = semicolon_step b o es t fs e
bracket_step b o es (Number n) t fs e = second_step b o es t fs e
bracket_step b o es (Name n) t fs e = second_step b o es t fs e
bracket_step b o es CloseParen t fs e = close_step b o es t fs e
bracket_step b o es CloseBracket t fs e = close_step b o es t fs e
bracket_step b o es For t fs e = for_step b o es t fs e
bracket_step b o es _ t fs e = None

-- the end where an item could stand
abbrev pub empty_step : Bracket → Token → Items → Token → List Frame → Option State
empty_step b o es t fs = if is_closer b t.kind && is_shape b es nothing then Some (have fs (bracket b o es nothing t)) else None

-- ---- conditionals, atoms, generators and channels

abbrev pub middle_step : Syntax → Token → Kind → Token → List Frame → Syntax → Option State
middle_step c q Colon t fs e = Some (want (open_end (choice c q e t) ∷ fs))
middle_step c q _ t fs e = None

-- behind an atom
abbrev pub filled : Hold → Syntax → List Frame → State
filled (spawning s) a fs = want (open_end (spawn s a) ∷ fs)
filled (rows o x cells q) a fs = await fs (atoms (rows o x (with_cell cells q a) None))

-- whether an atom may begin there: in a row it stands behind a blank
abbrev pub takes_atom : Token → Option Token → Bool
takes_atom t None = t.spaced
takes_atom t (Some q) = true

abbrev pub takes : Hold → Token → Bool
takes (spawning s) t = true
takes (rows o x cells q) t = takes_atom t q && are_begun (with_cell cells q (leaf t))

abbrev pub group_step : Hold → Token → Kind → Token → List Frame → Syntax → Option State
group_step hold p CloseParen t fs e = Some (filled hold (bracket grouped p none (just e) t) fs)
group_step hold p _ t fs e = None

abbrev pub atom_step : Hold → Kind → Token → List Frame → Option State
atom_step hold (Number n) t fs = Some (filled hold (leaf t) fs)
atom_step hold (Name n) t fs = Some (filled hold (leaf t) fs)
atom_step hold Minus t fs = Some (await fs (minus hold t))
atom_step hold OpenParen t fs = Some (want (fixed (in_group hold t) ∷ fs))
atom_step hold _ t fs = None

abbrev pub next_row : Hold → Token → List Frame → Option State
next_row (rows o x cells None) t fs = if may_go_on cells then Some (await fs (atoms (rows o x cells (Some t)))) else None
next_row hold t fs = None

abbrev pub rows_end : Hold → Token → List Frame → Option State
rows_end (rows o x cells None) t fs = if is_full cells then Some (have fs (matrix o x cells t)) else None
rows_end hold t fs = None

abbrev pub atoms_step : Hold → Kind → Token → List Frame → Option State
atoms_step hold Semicolon t fs = next_row hold t fs
atoms_step hold CloseBracket t fs = rows_end hold t fs
atoms_step hold k t fs = if takes hold t then atom_step hold k t fs else None

abbrev pub minus_step : Hold → Token → Token → List Frame → Option State
minus_step hold m t fs = if is_tight t then Some (filled hold (ending (unary m) (leaf t)) fs) else None

abbrev pub with_generator : Generators → Token → Token → Token → Syntax → Generators
with_generator no_more t n i e = generator t n i e no_more
with_generator (generator s m j x gens) t n i e = generator s m j x (with_generator gens t n i e)

abbrev pub generator_name_step : Token → Syntax → Generators → Token → Token → List Frame → Option State
generator_name_step o x gens f t fs = if is_name t.kind then Some (await fs (generator_in o x gens f t)) else None

abbrev pub generator_in_step : Token → Syntax → Generators → Token → Token → Kind → Token → List Frame → Option State
generator_in_step o x gens f n In t fs = Some (want (fixed (in_generator o x gens f n t) ∷ fs))
generator_in_step o x gens f n _ t fs = None

abbrev pub generator_step : Token → Syntax → Generators → Token → Token → Token → Kind → Token → List Frame → Syntax → Option State
generator_step o x gens f n i Comma t fs e = if nat_le (count gens) 1 then Some (await fs (generator_name o x (with_generator gens f n i e) t)) else None
generator_step o x gens f n i CloseBracket t fs e = Some (have fs (comprehension o x (with_generator gens f n i e) t))
generator_step o x gens f n i _ t fs e = None

abbrev pub element_type_step : Channel → Token → List Frame → Option State
element_type_step c t fs = if is_element_type t.kind then Some (await fs (type_end c t)) else None

abbrev pub type_end_step : Channel → Token → Kind → Token → List Frame → Option State
type_end_step c type CloseBrace t fs = Some (await fs (size_begin c type t))
type_end_step c type _ t fs = None

abbrev pub size_begin_step : Channel → Token → Token → Kind → Token → List Frame → Option State
size_begin_step c type shut OpenParen t fs = Some (want (fixed (in_size c type shut t) ∷ fs))
size_begin_step c type shut _ t fs = None

abbrev pub size_step : Channel → Token → Token → Token → Kind → Token → List Frame → Syntax → Option State
size_step c type shut o CloseParen t fs e = Some (await fs (place_begin c type shut o e t))
size_step c type shut o _ t fs e = None

abbrev pub place_begin_step : Channel → Token → Token → Token → Syntax → Token → Kind → Token → List Frame → Option State
place_begin_step c type shut o size closes Comma t fs = Some (want (fixed (in_place c type shut o size closes t) ∷ fs))
place_begin_step c type shut o size closes _ t fs = None

abbrev pub place_step : Channel → Token → Token → Token → Syntax → Token → Token → Kind → Token → List Frame → Syntax → Option State
place_step c type shut o size closes comma CloseParen t fs e = Some (have fs (remote c type shut o size closes comma e t))
place_step c type shut o size closes comma _ t fs e = None

-- ---- where an operand is wanted

abbrev pub operator_step : Token → List Frame → Option State
operator_step t (fixed (in_bracket (called f) o es) ∷ fs) = Some (await (fixed (in_bracket (called f) o es) ∷ fs) (operator t))
operator_step t fs = None

abbrev pub spawn_step : Token → List Frame → Option State
spawn_step t fs = if nat_le (demand fs) 1 then Some (await fs (atoms (spawning t))) else None

-- 2^63 behind a `-`: behind a difference in a first element it can only be an atom
abbrev pub wide_step : Token → List Frame → Option State
wide_step t (open_end (binary l m) ∷ (fixed (in_bracket itemed o none) ∷ fs)) =
    if ((is_minus m.kind && m.spaced) && (is_least t.kind t.spaced && is_chain l)) && are_begun (with_cell (cells_of l) None (ending (unary m) (leaf t)))
    then Some (await fs (atoms (rows o (first_of l) (with_cell (cells_of l) None (ending (unary m) (leaf t))) None))) else None
wide_step t fs = if negated fs && is_least t.kind t.spaced then Some (have fs (leaf t)) else None

-- what no operand begins with
abbrev pub want_end : Kind → Token → List Frame → Option State
want_end k t (fixed (in_bracket b o es) ∷ fs) = empty_step b o es t fs
want_end k t (open_end (unary s) ∷ (fixed (in_bracket (called f) o es) ∷ fs)) = if is_argument s.kind then bracket_step (called f) o es k t fs (sign s) else None
want_end k t fs = None

abbrev pub want_step : Kind → Token → List Frame → Option State
want_step (Number n) t fs = Some (have fs (leaf t))
want_step (Text n) t fs = Some (have fs (leaf t))
want_step (Name n) t fs = Some (have fs (leaf t))
want_step True t fs = Some (have fs (leaf t))
want_step False t fs = Some (have fs (leaf t))
want_step Nothing t fs = Some (have fs (leaf t))
want_step (Wide b) t fs = wide_step t fs
want_step Plus t fs = Some (want (open_end (unary t) ∷ fs))
want_step Minus t fs = Some (want (open_end (unary t) ∷ fs))
want_step Not t fs = Some (want (open_end (unary t) ∷ fs))
want_step Complement t fs = Some (want (open_end (unary t) ∷ fs))
want_step Star t fs = operator_step t fs
want_step And t fs = operator_step t fs
want_step Or t fs = operator_step t fs
want_step Xor t fs = operator_step t fs
want_step OpenParen t fs = Some (want (fixed (in_bracket grouped t none) ∷ fs))
want_step OpenBracket t fs = Some (want (fixed (in_bracket itemed t none) ∷ fs))
want_step SpawnAt t fs = spawn_step t fs
want_step FetchFrom t fs = spawn_step t fs
want_step k t fs = want_end k t fs

-- ---- behind an operand

abbrev pub at_binary : Token → List Frame × Syntax → Option State
at_binary t (fs, e) = if nat_le (demand fs) (strength t.kind) then Some (want (open_end (binary e t) ∷ fs)) else None

abbrev pub at_question : Token → List Frame × Syntax → Option State
at_question t (fs, e) = if nat_le (demand fs) 2 then Some (want (fixed (in_middle e t) ∷ fs)) else None

abbrev pub at_arrow : Token → List Frame → Syntax → Option State
at_arrow t fs e = if nat_le (demand fs) 1 && are_parameters e then Some (want (open_end (lambda e t) ∷ fs)) else None

abbrev pub at_keyword : Token → List Frame → Syntax → Option State
at_keyword t fs (leaf n) = if nat_le (demand fs) 0 && is_name n.kind then Some (want (open_end (keyword n t) ∷ fs)) else None
at_keyword t fs e = None

-- `{` behind `RemoteChannel(() -> Channel`
abbrev pub at_brace : Token → List Frame → Syntax → Option State
at_brace t (open_end (lambda (bracket grouped l none nothing r) a) ∷ (fixed (in_bracket (called (leaf f)) o none) ∷ fs)) (leaf w) =
    if is_word word.RemoteChannel f.kind && is_word word.Channel w.kind
    then Some (await fs (element_type (record { callee = f; opens = o; none_opens = l; none_closes = r; arrow = a; word = w; brace = t }))) else None
at_brace t fs e = None

abbrev pub fixed_step : Fixed → Kind → Token → List Frame → Syntax → Option State
fixed_step (in_bracket b o es) k t fs e = bracket_step b o es k t fs e
fixed_step (in_middle c q) k t fs e = middle_step c q k t fs e
fixed_step (in_group hold p) k t fs e = group_step hold p k t fs e
fixed_step (in_generator o x gens f n i) k t fs e = generator_step o x gens f n i k t fs e
fixed_step (in_size c type shut o) k t fs e = size_step c type shut o k t fs e
fixed_step (in_place c type shut o size closes comma) k t fs e = place_step c type shut o size closes comma k t fs e

-- what ends an operand, or a construct round it
abbrev pub at_end : Kind → Token → List Frame × Syntax → Option State
at_end k t (fixed f ∷ fs, e) = fixed_step f k t fs e
at_end k t r = None

abbrev pub have_more : Kind → Token → List Frame → Syntax → Option State
have_more OpenParen t fs e = Some (want (fixed (in_bracket (called e) t none) ∷ fs))
have_more OpenBracket t fs e = Some (want (fixed (in_bracket (indexed e) t none) ∷ fs))
have_more OpenBrace t fs e = at_brace t fs e
have_more Arrow t fs e = at_arrow t fs e
have_more Assign t fs e = at_keyword t fs e
have_more Question t fs e = at_question t (close 3 fs e)
have_more k t fs e = at_end k t (close 0 fs e)

abbrev pub have_step : Kind → Token → List Frame → Syntax → Option State
have_step k t fs e =
    if nat_le 1 (strength k)
    then (if stands k (ranges fs) then at_binary t (close (left k) fs e) else at_end k t (close 0 fs e))
    else have_more k t fs e

-- ---- a step

abbrev pub words_step : Words → Token → List Frame → Option State
words_step (operator s) t (fixed (in_bracket (called f) o es) ∷ fs) = bracket_step (called f) o es t.kind t fs (sign s)
words_step (operator s) t fs = None
words_step (atoms hold) t fs = atoms_step hold t.kind t fs
words_step (minus hold m) t fs = minus_step hold m t fs
words_step (generator_name o x gens f) t fs = generator_name_step o x gens f t fs
words_step (generator_in o x gens f n) t fs = generator_in_step o x gens f n t.kind t fs
words_step (element_type c) t fs = element_type_step c t fs
words_step (type_end c type) t fs = type_end_step c type t.kind t fs
words_step (size_begin c type shut) t fs = size_begin_step c type shut t.kind t fs
words_step (place_begin c type shut o size closes) t fs = place_begin_step c type shut o size closes t.kind t fs

abbrev pub step_at : Token → List Frame → Now → Option State
step_at t fs wanted = want_step t.kind t fs
step_at t fs (got e) = have_step t.kind t fs e
step_at t fs (pending w) = words_step w t fs

abbrev pub step : Token → State → Option State
step t s = step_at t s.frames s.now
