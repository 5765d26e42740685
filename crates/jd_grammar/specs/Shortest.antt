-- The shallowest expression that begins with what was read, and the tokens that it wants besides.
use Rattle.std.specs.Prelude.{ℕ, zero, suc, ◌-◌, true, false, ◌&&◌, List, [], ◌∷◌, None, nat_le, if◌then◌else◌}
use Rattle.jd_grammar.specs.declared.token.Token.{Token}
use Rattle.jd_grammar.specs.declared.token.Word.TheVariants as word
use Rattle.jd_grammar.specs.declared.token.Name.TheVariants as name
use Rattle.jd_grammar.specs.declared.token.Kind.{Kind}
use Rattle.jd_grammar.specs.declared.token.Kind.TheVariants.{Number, Name, Colon, Comma, In, OpenParen, CloseParen, CloseBracket, CloseBrace}
use Rattle.jd_grammar.specs.Kinds.{is_argument}
use Rattle.jd_grammar.specs.Grammar.{Channel, Syntax, leaf, sign, ending, bracket, matrix, comprehension, remote, unary, choice, spawn, Bracket, grouped, called, itemed, Cells, Items, none, more, just, closes, is_shape, is_full}
use Rattle.jd_grammar.specs.Rows.{first_of, cells_of, with_cell, first_width, last_width}
use Rattle.jd_grammar.specs.Depth.{height}
use Rattle.jd_grammar.specs.Frames.{Hold, spawning, rows, Fixed, in_bracket, in_middle, in_group, in_generator, in_size, in_place, Frame, open_end, fixed, Words, operator, atoms, minus, generator_name, generator_in, element_type, type_end, size_begin, place_begin, Now, wanted, got, pending, State}
use Rattle.jd_grammar.specs.Machine.{with_generator}

abbrev pub token : Kind → Token
token k = record { kind = k; start = 0; end = 0; spaced = false }

abbrev pub zero_leaf : Syntax
zero_leaf = leaf (token (Number 0))

-- ---- rows

abbrev pub zero_token : Token
zero_token = record { kind = Number 0; start = 0; end = 0; spaced = true }

-- n zeros more in the last row
abbrev pub fill : ℕ → Cells → Cells
fill zero cells = cells
fill (suc n) cells = fill n (with_cell cells None (leaf zero_token))

abbrev pub zeros : ℕ → List Token → List Token
zeros zero rest = rest
zeros (suc n) rest = zero_token ∷ zeros n rest

-- how many the last row wants
abbrev pub missing : Cells → ℕ
missing cells = first_width 1 cells - last_width 1 cells

abbrev pub filled_rows : Token → Syntax → Cells → Syntax
filled_rows o a cells = matrix o a (fill (missing cells) cells) (token CloseBracket)

abbrev pub rows_rest : Cells → List Token → List Token
rows_rest cells rest = zeros (missing cells) (token CloseBracket ∷ rest)

-- ---- the shortest end of what is open

abbrev pub held : Hold → Syntax → Syntax
held (spawning s) a = ending (spawn s a) zero_leaf
held (rows o x cells q) a = filled_rows o x (with_cell cells q a)

abbrev pub held_end : Hold → Syntax → List Token → List Token
held_end (spawning s) a rest = token (Number 0) ∷ rest
held_end (rows o x cells q) a rest = rows_rest (with_cell cells q a) rest

-- a first element that is no list is a matrix of one row, or, with too many atoms, the first of two elements
abbrev pub shut_row : Token → Syntax → Syntax
shut_row o e =
    if is_full (cells_of e) then matrix o (first_of e) (cells_of e) (token CloseBracket)
    else bracket itemed o (more e (token Comma) none) (just zero_leaf) (token CloseBracket)

abbrev pub shut_bracket : Bracket → Token → Items → Syntax → Syntax
shut_bracket b o es e = if is_shape b es (just e) then bracket b o es (just e) (token (closes b)) else shut_row o e

abbrev pub row_rest : Syntax → List Token → List Token
row_rest e rest = if is_full (cells_of e) then token CloseBracket ∷ rest else token Comma ∷ token (Number 0) ∷ token CloseBracket ∷ rest

abbrev pub bracket_rest : Bracket → Items → Syntax → List Token → List Token
bracket_rest b es e rest = if is_shape b es (just e) then token (closes b) ∷ rest else row_rest e rest

abbrev pub shut : Fixed → Syntax → Syntax
shut (in_bracket b o es) e = shut_bracket b o es e
shut (in_middle c q) e = ending (choice c q e (token Colon)) zero_leaf
shut (in_group hold p) e = held hold (bracket grouped p none (just e) (token CloseParen))
shut (in_generator o x gens t n i) e = comprehension o x (with_generator gens t n i e) (token CloseBracket)
shut (in_size c type z o) e = remote c type z o e (token CloseParen) (token Comma) zero_leaf (token CloseParen)
shut (in_place c type z o size p comma) e = remote c type z o size p comma e (token CloseParen)

abbrev pub shut_end : Fixed → Syntax → List Token → List Token
shut_end (in_bracket b o es) e rest = bracket_rest b es e rest
shut_end (in_middle c q) e rest = token Colon ∷ token (Number 0) ∷ rest
shut_end (in_group hold p) e rest = token CloseParen ∷ held_end hold (bracket grouped p none (just e) (token CloseParen)) rest
shut_end (in_generator o x gens t n i) e rest = token CloseBracket ∷ rest
shut_end (in_size c type z o) e rest = token CloseParen ∷ token Comma ∷ token (Number 0) ∷ token CloseParen ∷ rest
shut_end (in_place c type z o size p comma) e rest = token CloseParen ∷ rest

abbrev pub wrap : List Frame → Syntax → Syntax
wrap [] e = e
wrap (open_end h ∷ fs) e = wrap fs (ending h e)
wrap (fixed f ∷ fs) e = wrap fs (shut f e)

abbrev pub closing : List Frame → Syntax → List Token → List Token
closing [] e rest = rest
closing (open_end h ∷ fs) e rest = closing fs (ending h e) rest
closing (fixed f ∷ fs) e rest = shut_end f e (closing fs (shut f e) rest)

-- ---- what was read last, made an operand

pub record Ready : Type 0 where
  pub frames : List Frame
  pub operand : Syntax
  pub ahead : List Token → List Token

abbrev pub ready : List Frame → Syntax → (List Token → List Token) → Ready
ready fs e go = record { frames = fs; operand = e; ahead = go }

abbrev pub zero_ready : List Frame → Ready
zero_ready fs = ready fs zero_leaf (λ rest. token (Number 0) ∷ rest)

abbrev pub sign_ready : Syntax → Token → Items → Token → List Frame → Ready
sign_ready f o es t fs = ready fs (bracket (called f) o es (just (sign t)) (token CloseParen)) (λ rest. token CloseParen ∷ rest)

abbrev pub depth_of : Ready → ℕ
depth_of r = height (wrap r.frames r.operand)

-- an operator that may still be an argument is one where that is no deeper
abbrev pub want_ready : List Frame → Ready
want_ready (open_end (unary s) ∷ (fixed (in_bracket (called f) o es) ∷ fs)) =
    if is_argument s.kind && nat_le (depth_of (sign_ready f o es s fs)) (depth_of (zero_ready (open_end (unary s) ∷ (fixed (in_bracket (called f) o es) ∷ fs))))
    then sign_ready f o es s fs else zero_ready (open_end (unary s) ∷ (fixed (in_bracket (called f) o es) ∷ fs))
want_ready fs = zero_ready fs

abbrev pub a_name : Token
a_name = token (Name (name.Other 0))

abbrev pub an_int : Token
an_int = token (Name (name.Word word.Int))

abbrev pub channel_end : List Token → List Token
channel_end rest = token CloseParen ∷ token Comma ∷ token (Number 0) ∷ token CloseParen ∷ rest

abbrev pub a_remote : Channel → Token → Token → Token → Syntax → Token → Syntax
a_remote c type z o size p = remote c type z o size p (token Comma) zero_leaf (token CloseParen)

abbrev pub atoms_ready : Hold → List Frame → Ready
atoms_ready (rows o x cells None) fs = ready fs (filled_rows o x cells) (rows_rest cells)
atoms_ready hold fs = ready fs (held hold zero_leaf) (λ rest. token (Number 0) ∷ held_end hold zero_leaf rest)

abbrev pub words_ready : Words → List Frame → Ready
words_ready (operator s) (fixed (in_bracket (called f) o es) ∷ fs) = sign_ready f o es s fs
words_ready (operator s) fs = zero_ready fs
words_ready (atoms hold) fs = atoms_ready hold fs
words_ready (minus hold m) fs = ready fs (held hold (ending (unary m) zero_leaf)) (λ rest. token (Number 0) ∷ held_end hold (ending (unary m) zero_leaf) rest)
words_ready (generator_name o x gens t) fs = ready fs (comprehension o x (with_generator gens t a_name (token In) zero_leaf) (token CloseBracket))
    (λ rest. a_name ∷ token In ∷ token (Number 0) ∷ token CloseBracket ∷ rest)
words_ready (generator_in o x gens t n) fs = ready fs (comprehension o x (with_generator gens t n (token In) zero_leaf) (token CloseBracket))
    (λ rest. token In ∷ token (Number 0) ∷ token CloseBracket ∷ rest)
words_ready (element_type c) fs = ready fs (a_remote c an_int (token CloseBrace) (token OpenParen) zero_leaf (token CloseParen))
    (λ rest. an_int ∷ token CloseBrace ∷ token OpenParen ∷ token (Number 0) ∷ channel_end rest)
words_ready (type_end c type) fs = ready fs (a_remote c type (token CloseBrace) (token OpenParen) zero_leaf (token CloseParen))
    (λ rest. token CloseBrace ∷ token OpenParen ∷ token (Number 0) ∷ channel_end rest)
words_ready (size_begin c type z) fs = ready fs (a_remote c type z (token OpenParen) zero_leaf (token CloseParen)) (λ rest. token OpenParen ∷ token (Number 0) ∷ channel_end rest)
words_ready (place_begin c type z o size p) fs = ready fs (a_remote c type z o size p) (λ rest. token Comma ∷ token (Number 0) ∷ token CloseParen ∷ rest)

abbrev pub now_ready : List Frame → Now → Ready
now_ready fs wanted = want_ready fs
now_ready fs (got e) = ready fs e (λ rest. rest)
now_ready fs (pending w) = words_ready w fs

-- ---- the expression, its tokens, and its depth

abbrev pub whole : State → Syntax
whole s = let r = now_ready s.frames s.now in wrap r.frames r.operand

abbrev pub to_end : State → List Token → List Token
to_end s rest = let r = now_ready s.frames s.now in r.ahead (closing r.frames r.operand rest)

-- the least depth of an expression that begins with what was read
abbrev pub needs : State → ℕ
needs s = height (whole s)
