-- Which expressions the grammar has.
use Rattle.std.specs.Prelude.{ℕ, ◌≡◌, ◌≤◌, ◌+◌, Bool, true, false, ◌&&◌, not, IsTrue, if◌then◌else◌}
use Rattle.jd_grammar.specs.declared.token.Token.{Token}
use Rattle.jd_grammar.specs.declared.token.Word.TheVariants as word
use Rattle.jd_grammar.specs.declared.token.Kind.{Kind}
use Rattle.jd_grammar.specs.declared.token.Kind.TheVariants.{Name, Question, Colon, Comma, Semicolon, Arrow, Assign, For, In, OpenParen, CloseParen, OpenBracket, CloseBracket, OpenBrace, CloseBrace}
use Rattle.jd_grammar.specs.Kinds.{is_leaf, is_name, is_least, is_unary, is_minus, is_argument, is_spawn, strength, left, stands, is_named, is_word, is_element_type}
pub use Rattle.jd_grammar.specs.Trees.{Channel, Syntax, leaf, sign, ending, bracket, matrix, comprehension, remote, Head, unary, binary, choice, lambda, spawn, keyword, Bracket, grouped, called, itemed, indexed, Cells, no_cells, cell, row, Items, none, more, Maybe, nothing, just, Generators, no_more, generator, put_channel, put, put_head, put_bracket, put_cells, put_items, put_maybe, put_generators}
pub use Rattle.jd_grammar.specs.Rows.{is_tight, is_atom, is_spaced, is_row, are_many, is_full}

-- ---- names in parentheses

-- the kind of a name alone
abbrev pub name_of : Syntax → Kind
name_of (leaf t) = t.kind
name_of (sign t) = Comma
name_of (ending h e) = Comma
name_of (bracket b o es last c) = Comma
name_of (matrix o a cells c) = Comma
name_of (comprehension o e gens c) = Comma
name_of (remote c type shut o size closes comma place last) = Comma

abbrev pub is_name_leaf : Syntax → Bool
is_name_leaf e = is_name (name_of e)

-- whether two tokens are one name
abbrev pub are_same : Kind → Kind → Bool
are_same (Name a) k = is_named a k
are_same _ k = false

-- whether the name stands in none of the places
abbrev pub is_new : Kind → Items → Bool
is_new n none = true
is_new n (more e t es) = not (are_same n (name_of e)) && is_new n es

abbrev pub are_distinct : Items → Kind → Bool
are_distinct none last = true
are_distinct (more e t es) last = (is_new (name_of e) es && not (are_same (name_of e) last)) && are_distinct es last

abbrev pub are_names : Items → Bool
are_names none = true
are_names (more e t es) = is_name_leaf e && are_names es

-- names, each of them once, with no comma behind the last one
abbrev pub is_list_of_names : Items → Maybe → Bool
is_list_of_names none nothing = true
is_list_of_names (more e t es) nothing = false
is_list_of_names es (just e) = (are_names es && is_name_leaf e) && are_distinct es (name_of e)

-- a name, or names in parentheses
abbrev pub are_parameters : Syntax → Bool
are_parameters (leaf t) = is_name t.kind
are_parameters (bracket grouped o most last c) = is_list_of_names most last
are_parameters _ = false

-- ---- brackets

abbrev pub opens : Bracket → Kind
opens grouped = OpenParen
opens (called f) = OpenParen
opens itemed = OpenBracket
opens (indexed f) = OpenBracket

abbrev pub closes : Bracket → Kind
closes grouped = CloseParen
closes (called f) = CloseParen
closes itemed = CloseBracket
closes (indexed f) = CloseBracket

-- what stands there: an argument, or an expression
abbrev pub item_level : Bracket → ℕ
item_level (called f) = 0
item_level _ = 1

-- what stands between the items: commas, and in calls `;` too
abbrev pub is_separator : Bracket → Kind → Bool
is_separator b Comma = true
is_separator (called f) Semicolon = true
is_separator _ _ = false

-- Which places may be left out: `()`, `f()` and `[]`, and `(e,)`. A list of one element isn't what is a matrix of one row.
abbrev pub is_shape : Bracket → Items → Maybe → Bool
is_shape itemed none (just e) = not (is_row e)
is_shape b most (just e) = true
is_shape grouped none nothing = true
is_shape grouped (more e t none) nothing = true
is_shape (called f) none nothing = true
is_shape itemed none nothing = true
is_shape _ _ nothing = false

-- an operator as an argument stands directly before what follows it
abbrev pub touches : Syntax → Token → Bool
touches (sign t) u = not u.spaced
touches _ u = true

abbrev pub last_touches : Maybe → Token → Bool
last_touches nothing u = true
last_touches (just e) u = touches e u

-- ---- the grammar's trees

abbrev pub count : Generators → ℕ
count no_more = 0
count (generator t n i e gens) = count gens + 1

-- how tightly a construct that ends with an operand binds, and how tightly it asks that operand to bind
abbrev pub level : Head → ℕ
level (unary t) = 9
level (binary l t) = strength t.kind
level (choice c q x t) = 2
level (lambda ns t) = 1
level (spawn t a) = 1
level (keyword n t) = 0

abbrev pub asks : Head → ℕ
asks (unary t) = 9
asks (binary l t) = strength t.kind + 1
asks (choice c q x t) = 2
asks (lambda ns t) = 1
asks (spawn t a) = 1
asks (keyword n t) = 1

abbrev pub is_negation : Head → Bool
is_negation (unary t) = is_minus t.kind
is_negation _ = false

abbrev pub IsChannel : Channel → Type 0
IsChannel c = IsTrue (is_word word.RemoteChannel c.callee.kind) × (c.opens.kind ≡ OpenParen) × (c.none_opens.kind ≡ OpenParen)
    × (c.none_closes.kind ≡ CloseParen) × (c.arrow.kind ≡ Arrow) × IsTrue (is_word word.Channel c.word.kind) × (c.brace.kind ≡ OpenBrace)

-- An expression of a level, which stands where a range may or may not stand, and directly behind a `-` or not.
abbrev mutual
  pub IsAt : Bool → Bool → ℕ → Syntax → Type 0
  IsAt ranges negated n (leaf t) = IsTrue (if is_leaf t.kind then true else negated && is_least t.kind t.spaced)
  IsAt ranges negated n (sign t) = (n ≤ 0) × IsTrue (is_argument t.kind)
  IsAt ranges negated n (ending h e) = (n ≤ level h) × IsHead ranges negated h × IsAt ranges (is_negation h) (asks h) e
  IsAt ranges negated n (bracket b o most last c) =
      IsBracket ranges negated b × (o.kind ≡ opens b) × AreItems b most × IsAtMaybe (item_level b) last × (c.kind ≡ closes b)
      × IsTrue (is_shape b most last) × IsTrue (last_touches last c)
  IsAt ranges negated n (matrix o a cells c) =
      (o.kind ≡ OpenBracket) × IsAt true false 9 a × IsTrue (is_atom a) × AreCells cells × IsTrue (are_many cells) × IsTrue (is_full cells) × (c.kind ≡ CloseBracket)
  IsAt ranges negated n (comprehension o e gens c) =
      (o.kind ≡ OpenBracket) × IsAt true false 1 e × AreGenerators For gens × (1 ≤ count gens) × (count gens ≤ 3) × (c.kind ≡ CloseBracket)
  IsAt ranges negated n (remote c type shut o size closes comma place last) =
      IsChannel c × IsTrue (is_element_type type.kind) × (shut.kind ≡ CloseBrace) × (o.kind ≡ OpenParen) × IsAt true false 1 size
      × (closes.kind ≡ CloseParen) × (comma.kind ≡ Comma) × IsAt true false 1 place × (last.kind ≡ CloseParen)

  pub IsHead : Bool → Bool → Head → Type 0
  IsHead ranges negated (unary t) = IsTrue (is_unary t.kind)
  IsHead ranges negated (binary l t) = (1 ≤ strength t.kind) × IsTrue (stands t.kind ranges) × IsAt ranges negated (left t.kind) l
  IsHead ranges negated (choice c q x t) = IsAt ranges negated 3 c × (q.kind ≡ Question) × IsAt false false 3 x × (t.kind ≡ Colon)
  IsHead ranges negated (lambda ns t) = IsAt ranges negated 10 ns × IsTrue (are_parameters ns) × (t.kind ≡ Arrow)
  IsHead ranges negated (spawn t a) = IsTrue (is_spawn t.kind) × IsAt true false 9 a × IsTrue (is_atom a)
  IsHead ranges negated (keyword n t) = IsTrue (is_name n.kind) × (t.kind ≡ Assign)

  pub IsBracket : Bool → Bool → Bracket → Type 0
  IsBracket ranges negated grouped = Unit {0}
  IsBracket ranges negated (called f) = IsAt ranges negated 10 f
  IsBracket ranges negated itemed = Unit {0}
  IsBracket ranges negated (indexed f) = IsAt ranges negated 10 f

  pub AreCells : Cells → Type 0
  AreCells no_cells = Unit {0}
  AreCells (cell a cells) = IsAt true false 9 a × IsTrue (is_atom a) × IsTrue (is_spaced a) × AreCells cells
  AreCells (row t a cells) = (t.kind ≡ Semicolon) × IsAt true false 9 a × IsTrue (is_atom a) × AreCells cells

  pub AreItems : Bracket → Items → Type 0
  AreItems b none = Unit {0}
  AreItems b (more e t es) = IsAt true false (item_level b) e × IsTrue (is_separator b t.kind) × IsTrue (touches e t) × AreItems b es

  pub IsAtMaybe : ℕ → Maybe → Type 0
  IsAtMaybe n nothing = Unit {0}
  IsAtMaybe n (just e) = IsAt true false n e

  pub AreGenerators : Kind → Generators → Type 0
  AreGenerators k no_more = Unit {0}
  AreGenerators k (generator t n i e gens) = (t.kind ≡ k) × IsTrue (is_name n.kind) × (i.kind ≡ In) × IsAt true false 1 e × AreGenerators Comma gens
