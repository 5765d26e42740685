-- What the parts of the code's trees are in the grammar.
use Rattle.std.proofs.Common.{◌≡◌, ◌≤◌, false, List, [], ◌∷◌, map, length, Option, option_map, refl, ap, arith}
use Rattle.jd_grammar.specs.declared.token.Token.{Token}
use Rattle.jd_grammar.specs.declared.token.Kind.TheVariants.{Comma}
use Rattle.jd_grammar.specs.Trees.{Syntax}
use Rattle.jd_grammar.specs.Grammar.{name_of}
use Rattle.jd_tree.specs.declared.tree.Application.{Application}
use Rattle.jd_tree.specs.declared.tree.Cell.{Cell, out-Cell, fold_out-Cell}
use Rattle.jd_tree.specs.declared.tree.Item.{Item, out-Item, fold_out-Item}
use Rattle.jd_tree.specs.declared.tree.Listing.{Listing, out-Listing}
use Rattle.jd_tree.proofs.Levels.{inside_out}
use Rattle.jd_tree.specs.declared.tree.Operation.{Operation, out-Operation, fold_out-Operation}
use Rattle.jd_tree.specs.Plain.{Clause, Inside, Suffix, arguments, indexes, apply, application_at, expr_at, cell_at, choice_at, comprehension_at, generator_at, item_at, keyword_at, listing_at, matrix_at, operation_at, remote_at, plain, plain_cell, plain_item, plain_listing, plain_operation, plain_application, items_of, maybe, applied}
use Rattle.jd_lower.specs.Builtins.{is_none}

pub item_plain : (i : Item) → plain_item i ≡ (plain (out-Item i).expr, (out-Item i).separator)
item_plain i = fold_out-Item Suffix Syntax (Option Token × Syntax) Syntax Syntax Clause (Syntax × Token) Syntax Inside Syntax (Token × Syntax) Syntax application_at expr_at cell_at choice_at comprehension_at generator_at item_at keyword_at listing_at matrix_at operation_at remote_at i

pub operation_plain : (o : Operation) → plain_operation o ≡ ((out-Operation o).operator, plain (out-Operation o).operand)
operation_plain o = fold_out-Operation Suffix Syntax (Option Token × Syntax) Syntax Syntax Clause (Syntax × Token) Syntax Inside Syntax (Token × Syntax) Syntax application_at expr_at cell_at choice_at comprehension_at generator_at item_at keyword_at listing_at matrix_at operation_at remote_at o

-- the items of a listing that have a separator behind them
pub listing_most : (l : Listing) → (plain_listing l).most ≡ items_of (map plain_item (out-Listing l).items)
listing_most l = ap (λ i. i.most) (inside_out l)

pub listing_last : (l : Listing) → (plain_listing l).last ≡ maybe (option_map plain (out-Listing l).last)
listing_last l = ap (λ i. i.last) (inside_out l)

pub some_items : (es : List Item) → 1 ≤ length es → false ≡ is_none (items_of (map plain_item es))
some_items [] h = absurd (omega arith)
some_items (e ∷ es) h = refl

pub cell_plain : (c : Cell) → plain_cell c ≡ ((out-Cell c).semicolon, plain (out-Cell c).atom)
cell_plain c = fold_out-Cell Suffix Syntax (Option Token × Syntax) Syntax Syntax Clause (Syntax × Token) Syntax Inside Syntax (Token × Syntax) Syntax application_at expr_at cell_at choice_at comprehension_at generator_at item_at keyword_at listing_at matrix_at operation_at remote_at c

-- ---- what stands behind an operand makes no name

behind_at : (s : Suffix) (f : Syntax) → name_of (apply f s) ≡ Comma
behind_at (arguments l) f = refl
behind_at (indexes l) f = refl

behind_all : (e : Syntax) (ss : List Suffix) → name_of e ≡ Comma → name_of (applied e ss) ≡ Comma
behind_all e [] h = h
behind_all e (s ∷ ss) h = behind_all (apply e s) ss (behind_at s e)

pub behind_some : (e : Syntax) (os : List Application) → 1 ≤ length os → name_of (applied e (map plain_application os)) ≡ Comma
behind_some e [] h = absurd (omega arith)
behind_some e (o ∷ os) h = behind_all (apply e (plain_application o)) (map plain_application os) (behind_at (plain_application o) e)
