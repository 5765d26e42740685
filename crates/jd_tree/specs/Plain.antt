-- The code's expressions as the grammar's.
use Rattle.std.specs.Prelude.{List, [], ◌∷◌, Option, Some, None}
use Rattle.jd_grammar.specs.declared.token.Token.{Token}
use Rattle.jd_tree.specs.declared.tree.Application.{Application, fold-Application}
use Rattle.jd_tree.specs.declared.tree.Expr.{Expr, fold-Expr}
use Rattle.jd_tree.specs.declared.tree.Cell.{Cell, fold-Cell}
use Rattle.jd_tree.specs.declared.tree.Choice.{Choice, fold-Choice}
use Rattle.jd_tree.specs.declared.tree.Comprehension.{Comprehension, fold-Comprehension}
use Rattle.jd_tree.specs.declared.tree.Generator.{Generator, fold-Generator}
use Rattle.jd_tree.specs.declared.tree.Item.{Item, fold-Item}
use Rattle.jd_tree.specs.declared.tree.Keyword.{Keyword, fold-Keyword}
use Rattle.jd_tree.specs.declared.tree.Listing.{Listing, fold-Listing}
use Rattle.jd_tree.specs.declared.tree.Matrix.{Matrix, fold-Matrix}
use Rattle.jd_tree.specs.declared.tree.Operation.{Operation, fold-Operation}
use Rattle.jd_tree.specs.declared.tree.Remote.{Remote, fold-Remote}
use Rattle.jd_tree.specs.declared.tree.Channel as code-channel
use Rattle.jd_tree.specs.declared.tree.Application.TheOpen.{Application-F, Expr-F, Cell-F, Choice-F, Comprehension-F, Generator-F, Item-F, Keyword-F, Listing-F, Matrix-F, Operation-F, Remote-F}
use Rattle.jd_tree.specs.declared.tree.Application.TheOpen as layer
use Rattle.jd_grammar.specs.Trees.{Channel, Syntax, leaf, sign, ending, bracket, matrix, comprehension, remote, unary, binary, choice, lambda, spawn, keyword, grouped, called, itemed, indexed, Cells, no_cells, cell, row, Items, none, more, Maybe, nothing, just, Generators, no_more, generator}

-- ---- lists

abbrev pub items_of : List (Syntax × Token) → Items
items_of [] = none
items_of (e ∷ es) = more e.0 e.1 (items_of es)

abbrev pub maybe : Option Syntax → Maybe
maybe None = nothing
maybe (Some e) = just e

-- an atom, behind the `;` before it or behind none
abbrev pub one_cell : Option Token → Syntax → Cells → Cells
one_cell None a rest = cell a rest
one_cell (Some t) a rest = row t a rest

abbrev pub cells_at : List (Option Token × Syntax) → Cells
cells_at [] = no_cells
cells_at (c ∷ cs) = one_cell c.0 c.1 (cells_at cs)

-- `for name in e`, or `, name in e`
pub record Clause : Type 0 where
  pub begins : Token
  pub name : Token
  pub within : Token
  pub collection : Syntax

abbrev pub generators_of : List Clause → Generators
generators_of [] = no_more
generators_of (g ∷ gs) = generator g.begins g.name g.within g.collection (generators_of gs)

-- operators and their right operands behind an operand: each takes all before it
abbrev pub operated : Syntax → List (Token × Syntax) → Syntax
operated e [] = e
operated e (o ∷ os) = operated (ending (binary e o.0) o.1) os

-- parentheses or brackets, and what stands between them
pub record Inside : Type 0 where
  pub opens : Token
  pub most : Items
  pub last : Maybe
  pub closes : Token

-- arguments or indexes behind an operand
pub data Suffix : Type 0 where
  arguments : (l : Inside) → Suffix
  indexes : (l : Inside) → Suffix

abbrev pub apply : Syntax → Suffix → Syntax
apply e (arguments l) = bracket (called e) l.opens l.most l.last l.closes
apply e (indexes l) = bracket (indexed e) l.opens l.most l.last l.closes

-- each takes all before it
abbrev pub applied : Syntax → List Suffix → Syntax
applied e [] = e
applied e (s ∷ ss) = applied (apply e s) ss

abbrev pub plain_channel : code-channel.Channel → Channel
plain_channel c = record { callee = c.callee; opens = c.opens; none_opens = c.none_opens; none_closes = c.none_closes; arrow = c.arrow; word = c.word; brace = c.brace }

-- ---- one level of a tree

abbrev pub application_at : Application-F Suffix Syntax (Option Token × Syntax) Syntax Syntax Clause (Syntax × Token) Syntax Inside Syntax (Token × Syntax) Syntax → Suffix
application_at (layer.Arguments l) = arguments l
application_at (layer.Indexes l) = indexes l

abbrev pub expr_at : Expr-F Suffix Syntax (Option Token × Syntax) Syntax Syntax Clause (Syntax × Token) Syntax Inside Syntax (Token × Syntax) Syntax → Syntax
expr_at (layer.Leaf t) = leaf t
expr_at (layer.Sign t) = sign t
expr_at (layer.Unary t e) = ending (unary t) e
expr_at (layer.Binary e os o) = ending (binary (operated e os) o.0) o.1
expr_at (layer.Choice e) = e
expr_at (layer.Lambda ns t e) = ending (lambda ns t) e
expr_at (layer.Spawn t a e) = ending (spawn t a) e
expr_at (layer.Keyword e) = e
expr_at (layer.Group l) = bracket grouped l.opens l.most l.last l.closes
expr_at (layer.List l) = bracket itemed l.opens l.most l.last l.closes
expr_at (layer.Call f os l) = bracket (called (applied f os)) l.opens l.most l.last l.closes
expr_at (layer.Index f os l) = bracket (indexed (applied f os)) l.opens l.most l.last l.closes
expr_at (layer.Matrix e) = e
expr_at (layer.Comprehension e) = e
expr_at (layer.Remote e) = e

abbrev pub cell_at : Cell-F Suffix Syntax (Option Token × Syntax) Syntax Syntax Clause (Syntax × Token) Syntax Inside Syntax (Token × Syntax) Syntax → Option Token × Syntax
cell_at c = (c.semicolon, c.atom)

abbrev pub choice_at : Choice-F Suffix Syntax (Option Token × Syntax) Syntax Syntax Clause (Syntax × Token) Syntax Inside Syntax (Token × Syntax) Syntax → Syntax
choice_at c = ending (choice c.condition c.question c.chosen c.colon) c.other

abbrev pub comprehension_at : Comprehension-F Suffix Syntax (Option Token × Syntax) Syntax Syntax Clause (Syntax × Token) Syntax Inside Syntax (Token × Syntax) Syntax → Syntax
comprehension_at c = comprehension c.opens c.element (generators_of c.generators) c.closes

abbrev pub generator_at : Generator-F Suffix Syntax (Option Token × Syntax) Syntax Syntax Clause (Syntax × Token) Syntax Inside Syntax (Token × Syntax) Syntax → Clause
generator_at g = record { begins = g.begins; name = g.name; within = g.within; collection = g.collection }

abbrev pub item_at : Item-F Suffix Syntax (Option Token × Syntax) Syntax Syntax Clause (Syntax × Token) Syntax Inside Syntax (Token × Syntax) Syntax → Syntax × Token
item_at i = (i.expr, i.separator)

abbrev pub keyword_at : Keyword-F Suffix Syntax (Option Token × Syntax) Syntax Syntax Clause (Syntax × Token) Syntax Inside Syntax (Token × Syntax) Syntax → Syntax
keyword_at k = ending (keyword k.name k.assign) k.value

abbrev pub listing_at : Listing-F Suffix Syntax (Option Token × Syntax) Syntax Syntax Clause (Syntax × Token) Syntax Inside Syntax (Token × Syntax) Syntax → Inside
listing_at l = record { opens = l.opens; most = items_of l.items; last = maybe l.last; closes = l.closes }

abbrev pub matrix_at : Matrix-F Suffix Syntax (Option Token × Syntax) Syntax Syntax Clause (Syntax × Token) Syntax Inside Syntax (Token × Syntax) Syntax → Syntax
matrix_at m = matrix m.opens m.first (cells_at m.cells) m.closes

abbrev pub operation_at : Operation-F Suffix Syntax (Option Token × Syntax) Syntax Syntax Clause (Syntax × Token) Syntax Inside Syntax (Token × Syntax) Syntax → Token × Syntax
operation_at o = (o.operator, o.operand)

abbrev pub remote_at : Remote-F Suffix Syntax (Option Token × Syntax) Syntax Syntax Clause (Syntax × Token) Syntax Inside Syntax (Token × Syntax) Syntax → Syntax
remote_at r = remote (plain_channel r.channel) r.element r.shut r.opens r.size r.closes r.comma r.place r.last

-- ---- whole trees

abbrev pub plain_application : Application → Suffix
plain_application = fold-Application Suffix Syntax (Option Token × Syntax) Syntax Syntax Clause (Syntax × Token) Syntax Inside Syntax (Token × Syntax) Syntax application_at expr_at cell_at choice_at comprehension_at generator_at item_at keyword_at listing_at matrix_at operation_at remote_at

abbrev pub plain : Expr → Syntax
plain = fold-Expr Suffix Syntax (Option Token × Syntax) Syntax Syntax Clause (Syntax × Token) Syntax Inside Syntax (Token × Syntax) Syntax application_at expr_at cell_at choice_at comprehension_at generator_at item_at keyword_at listing_at matrix_at operation_at remote_at

abbrev pub plain_cell : Cell → Option Token × Syntax
plain_cell = fold-Cell Suffix Syntax (Option Token × Syntax) Syntax Syntax Clause (Syntax × Token) Syntax Inside Syntax (Token × Syntax) Syntax application_at expr_at cell_at choice_at comprehension_at generator_at item_at keyword_at listing_at matrix_at operation_at remote_at

abbrev pub plain_choice : Choice → Syntax
plain_choice = fold-Choice Suffix Syntax (Option Token × Syntax) Syntax Syntax Clause (Syntax × Token) Syntax Inside Syntax (Token × Syntax) Syntax application_at expr_at cell_at choice_at comprehension_at generator_at item_at keyword_at listing_at matrix_at operation_at remote_at

abbrev pub plain_comprehension : Comprehension → Syntax
plain_comprehension = fold-Comprehension Suffix Syntax (Option Token × Syntax) Syntax Syntax Clause (Syntax × Token) Syntax Inside Syntax (Token × Syntax) Syntax application_at expr_at cell_at choice_at comprehension_at generator_at item_at keyword_at listing_at matrix_at operation_at remote_at

abbrev pub plain_generator : Generator → Clause
plain_generator = fold-Generator Suffix Syntax (Option Token × Syntax) Syntax Syntax Clause (Syntax × Token) Syntax Inside Syntax (Token × Syntax) Syntax application_at expr_at cell_at choice_at comprehension_at generator_at item_at keyword_at listing_at matrix_at operation_at remote_at

abbrev pub plain_item : Item → Syntax × Token
plain_item = fold-Item Suffix Syntax (Option Token × Syntax) Syntax Syntax Clause (Syntax × Token) Syntax Inside Syntax (Token × Syntax) Syntax application_at expr_at cell_at choice_at comprehension_at generator_at item_at keyword_at listing_at matrix_at operation_at remote_at

abbrev pub plain_keyword : Keyword → Syntax
plain_keyword = fold-Keyword Suffix Syntax (Option Token × Syntax) Syntax Syntax Clause (Syntax × Token) Syntax Inside Syntax (Token × Syntax) Syntax application_at expr_at cell_at choice_at comprehension_at generator_at item_at keyword_at listing_at matrix_at operation_at remote_at

abbrev pub plain_listing : Listing → Inside
plain_listing = fold-Listing Suffix Syntax (Option Token × Syntax) Syntax Syntax Clause (Syntax × Token) Syntax Inside Syntax (Token × Syntax) Syntax application_at expr_at cell_at choice_at comprehension_at generator_at item_at keyword_at listing_at matrix_at operation_at remote_at

abbrev pub plain_matrix : Matrix → Syntax
plain_matrix = fold-Matrix Suffix Syntax (Option Token × Syntax) Syntax Syntax Clause (Syntax × Token) Syntax Inside Syntax (Token × Syntax) Syntax application_at expr_at cell_at choice_at comprehension_at generator_at item_at keyword_at listing_at matrix_at operation_at remote_at

abbrev pub plain_operation : Operation → Token × Syntax
plain_operation = fold-Operation Suffix Syntax (Option Token × Syntax) Syntax Syntax Clause (Syntax × Token) Syntax Inside Syntax (Token × Syntax) Syntax application_at expr_at cell_at choice_at comprehension_at generator_at item_at keyword_at listing_at matrix_at operation_at remote_at

abbrev pub plain_remote : Remote → Syntax
plain_remote = fold-Remote Suffix Syntax (Option Token × Syntax) Syntax Syntax Clause (Syntax × Token) Syntax Inside Syntax (Token × Syntax) Syntax application_at expr_at cell_at choice_at comprehension_at generator_at item_at keyword_at listing_at matrix_at operation_at remote_at
