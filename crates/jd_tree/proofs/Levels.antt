-- What each level of the code's expressions is in the grammar.
use Rattle.std.proofs.Common.{◌≡◌, List, map, Option, Some, None, option_map, refl, sym, ap, ◌∙◌}
use Rattle.jd_grammar.specs.declared.token.Token.{Token}
use Rattle.jd_grammar.specs.Trees.{Syntax, leaf, ending, bracket, matrix, comprehension, remote, unary, binary, choice, lambda, spawn, keyword, grouped, called, itemed, indexed}
use Rattle.jd_tree.specs.declared.tree.Cell.{Cell, roll-Cell, fold-roll-Cell}
use Rattle.jd_tree.specs.declared.tree.Choice.{roll-Choice, fold-roll-Choice}
use Rattle.jd_tree.specs.declared.tree.Comprehension.{roll-Comprehension, fold-roll-Comprehension}
use Rattle.jd_tree.specs.declared.tree.Generator.{Generator, roll-Generator, fold-roll-Generator}
use Rattle.jd_tree.specs.declared.tree.Item.{Item, roll-Item, fold-roll-Item}
use Rattle.jd_tree.specs.declared.tree.Keyword.{roll-Keyword, fold-roll-Keyword}
use Rattle.jd_tree.specs.declared.tree.Listing.{roll-out-Listing, Listing, out-Listing, roll-Listing, fold-roll-Listing}
use Rattle.jd_tree.specs.declared.tree.Matrix.{roll-Matrix, fold-roll-Matrix}
use Rattle.jd_tree.specs.declared.tree.Operation.{roll-out-Operation, out-Operation, Operation, roll-Operation, fold-roll-Operation}
use Rattle.jd_tree.specs.declared.tree.Remote.{roll-Remote, fold-roll-Remote}
use Rattle.jd_tree.specs.declared.tree.Expr.{Expr, fold-roll-Expr}
use Rattle.jd_tree.specs.declared.tree.Expr.TheVariants as variant
use Rattle.jd_tree.specs.declared.tree.Application.{Application, fold-roll-Application}
use Rattle.jd_tree.specs.declared.tree.Application.TheVariants as behind-variant
use Rattle.jd_tree.specs.declared.tree.Channel as code-channel
use Rattle.jd_tree.specs.declared.tree.Application.TheOpen as layer
use Rattle.jd_tree.specs.Plain.{Clause, Inside, Suffix, arguments, indexes, application_at, expr_at, cell_at, choice_at, comprehension_at, generator_at, item_at, keyword_at, listing_at, matrix_at, operation_at, remote_at, plain_application, plain, plain_cell, plain_generator, plain_item, plain_listing, plain_operation, items_of, maybe, cells_at, generators_of, operated, applied, plain_channel}

pub plain_leaf : (t : Token) → plain (variant.Leaf t) ≡ leaf t
plain_leaf t = ap plain (sym (variant.rolls-Leaf t)) ∙ fold-roll-Expr Suffix Syntax (Option Token × Syntax) Syntax Syntax Clause (Syntax × Token) Syntax Inside Syntax (Token × Syntax) Syntax application_at expr_at cell_at choice_at comprehension_at generator_at item_at keyword_at listing_at matrix_at operation_at remote_at (layer.Leaf t)

pub plain_unary : (t : Token) (e : Expr) → plain (variant.Unary t e) ≡ ending (unary t) (plain e)
plain_unary t e = ap plain (sym (variant.rolls-Unary t e)) ∙ fold-roll-Expr Suffix Syntax (Option Token × Syntax) Syntax Syntax Clause (Syntax × Token) Syntax Inside Syntax (Token × Syntax) Syntax application_at expr_at cell_at choice_at comprehension_at generator_at item_at keyword_at listing_at matrix_at operation_at remote_at (layer.Unary t e)

pub plain_binary : (e : Expr) (os : List Operation) (o : Operation) → plain (variant.Binary e os o) ≡ ending (binary (operated (plain e) (map plain_operation os)) (plain_operation o).0) (plain_operation o).1
plain_binary e os o = ap plain (sym (variant.rolls-Binary e os o)) ∙ fold-roll-Expr Suffix Syntax (Option Token × Syntax) Syntax Syntax Clause (Syntax × Token) Syntax Inside Syntax (Token × Syntax) Syntax application_at expr_at cell_at choice_at comprehension_at generator_at item_at keyword_at listing_at matrix_at operation_at remote_at (layer.Binary e os o)

pub plain_lambda : (ns : Expr) (t : Token) (e : Expr) → plain (variant.Lambda ns t e) ≡ ending (lambda (plain ns) t) (plain e)
plain_lambda ns t e = ap plain (sym (variant.rolls-Lambda ns t e)) ∙ fold-roll-Expr Suffix Syntax (Option Token × Syntax) Syntax Syntax Clause (Syntax × Token) Syntax Inside Syntax (Token × Syntax) Syntax application_at expr_at cell_at choice_at comprehension_at generator_at item_at keyword_at listing_at matrix_at operation_at remote_at (layer.Lambda ns t e)

pub plain_spawn : (t : Token) (a e : Expr) → plain (variant.Spawn t a e) ≡ ending (spawn t (plain a)) (plain e)
plain_spawn t a e = ap plain (sym (variant.rolls-Spawn t a e)) ∙ fold-roll-Expr Suffix Syntax (Option Token × Syntax) Syntax Syntax Clause (Syntax × Token) Syntax Inside Syntax (Token × Syntax) Syntax application_at expr_at cell_at choice_at comprehension_at generator_at item_at keyword_at listing_at matrix_at operation_at remote_at (layer.Spawn t a e)

pub plain_call : (f : Expr) (os : List Application) (l : Listing) → plain (variant.Call f os l) ≡ bracket (called (applied (plain f) (map plain_application os))) (plain_listing l).opens (plain_listing l).most (plain_listing l).last (plain_listing l).closes
plain_call f os l = ap plain (sym (variant.rolls-Call f os l)) ∙ fold-roll-Expr Suffix Syntax (Option Token × Syntax) Syntax Syntax Clause (Syntax × Token) Syntax Inside Syntax (Token × Syntax) Syntax application_at expr_at cell_at choice_at comprehension_at generator_at item_at keyword_at listing_at matrix_at operation_at remote_at (layer.Call f os l)

pub plain_index : (f : Expr) (os : List Application) (l : Listing) → plain (variant.Index f os l) ≡ bracket (indexed (applied (plain f) (map plain_application os))) (plain_listing l).opens (plain_listing l).most (plain_listing l).last (plain_listing l).closes
plain_index f os l = ap plain (sym (variant.rolls-Index f os l)) ∙ fold-roll-Expr Suffix Syntax (Option Token × Syntax) Syntax Syntax Clause (Syntax × Token) Syntax Inside Syntax (Token × Syntax) Syntax application_at expr_at cell_at choice_at comprehension_at generator_at item_at keyword_at listing_at matrix_at operation_at remote_at (layer.Index f os l)

pub plain_choice_of : (c : Expr) (q : Token) (x : Expr) (t : Token) (e : Expr) → plain (variant.Choice (roll-Choice (record { condition = c; question = q; chosen = x; colon = t; other = e }))) ≡ ending (choice (plain c) q (plain x) t) (plain e)
plain_choice_of c q x t e = ap plain (sym (variant.rolls-Choice (roll-Choice (record { condition = c; question = q; chosen = x; colon = t; other = e })))) ∙ fold-roll-Expr Suffix Syntax (Option Token × Syntax) Syntax Syntax Clause (Syntax × Token) Syntax Inside Syntax (Token × Syntax) Syntax application_at expr_at cell_at choice_at comprehension_at generator_at item_at keyword_at listing_at matrix_at operation_at remote_at (layer.Choice (roll-Choice (record { condition = c; question = q; chosen = x; colon = t; other = e }))) ∙ fold-roll-Choice Suffix Syntax (Option Token × Syntax) Syntax Syntax Clause (Syntax × Token) Syntax Inside Syntax (Token × Syntax) Syntax application_at expr_at cell_at choice_at comprehension_at generator_at item_at keyword_at listing_at matrix_at operation_at remote_at (record { condition = c; question = q; chosen = x; colon = t; other = e })

pub plain_keyword_of : (n t : Token) (e : Expr) → plain (variant.Keyword (roll-Keyword (record { name = n; assign = t; value = e }))) ≡ ending (keyword n t) (plain e)
plain_keyword_of n t e = ap plain (sym (variant.rolls-Keyword (roll-Keyword (record { name = n; assign = t; value = e })))) ∙ fold-roll-Expr Suffix Syntax (Option Token × Syntax) Syntax Syntax Clause (Syntax × Token) Syntax Inside Syntax (Token × Syntax) Syntax application_at expr_at cell_at choice_at comprehension_at generator_at item_at keyword_at listing_at matrix_at operation_at remote_at (layer.Keyword (roll-Keyword (record { name = n; assign = t; value = e }))) ∙ fold-roll-Keyword Suffix Syntax (Option Token × Syntax) Syntax Syntax Clause (Syntax × Token) Syntax Inside Syntax (Token × Syntax) Syntax application_at expr_at cell_at choice_at comprehension_at generator_at item_at keyword_at listing_at matrix_at operation_at remote_at (record { name = n; assign = t; value = e })

pub plain_matrix_of : (o : Token) (e : Expr) (cells : List Cell) (c : Token) → plain (variant.Matrix (roll-Matrix (record { opens = o; first = e; cells = cells; closes = c }))) ≡ matrix o (plain e) (cells_at (map plain_cell cells)) c
plain_matrix_of o e cells c = ap plain (sym (variant.rolls-Matrix (roll-Matrix (record { opens = o; first = e; cells = cells; closes = c })))) ∙ fold-roll-Expr Suffix Syntax (Option Token × Syntax) Syntax Syntax Clause (Syntax × Token) Syntax Inside Syntax (Token × Syntax) Syntax application_at expr_at cell_at choice_at comprehension_at generator_at item_at keyword_at listing_at matrix_at operation_at remote_at (layer.Matrix (roll-Matrix (record { opens = o; first = e; cells = cells; closes = c }))) ∙ fold-roll-Matrix Suffix Syntax (Option Token × Syntax) Syntax Syntax Clause (Syntax × Token) Syntax Inside Syntax (Token × Syntax) Syntax application_at expr_at cell_at choice_at comprehension_at generator_at item_at keyword_at listing_at matrix_at operation_at remote_at (record { opens = o; first = e; cells = cells; closes = c })

pub plain_comprehension_of : (o : Token) (e : Expr) (gens : List Generator) (c : Token) → plain (variant.Comprehension (roll-Comprehension (record { opens = o; element = e; generators = gens; closes = c }))) ≡ comprehension o (plain e) (generators_of (map plain_generator gens)) c
plain_comprehension_of o e gens c = ap plain (sym (variant.rolls-Comprehension (roll-Comprehension (record { opens = o; element = e; generators = gens; closes = c })))) ∙ fold-roll-Expr Suffix Syntax (Option Token × Syntax) Syntax Syntax Clause (Syntax × Token) Syntax Inside Syntax (Token × Syntax) Syntax application_at expr_at cell_at choice_at comprehension_at generator_at item_at keyword_at listing_at matrix_at operation_at remote_at (layer.Comprehension (roll-Comprehension (record { opens = o; element = e; generators = gens; closes = c }))) ∙ fold-roll-Comprehension Suffix Syntax (Option Token × Syntax) Syntax Syntax Clause (Syntax × Token) Syntax Inside Syntax (Token × Syntax) Syntax application_at expr_at cell_at choice_at comprehension_at generator_at item_at keyword_at listing_at matrix_at operation_at remote_at (record { opens = o; element = e; generators = gens; closes = c })

pub plain_remote_of : (ch : code-channel.Channel) (w s o : Token) (e : Expr) (c t : Token) (p : Expr) (z : Token) → plain (variant.Remote (roll-Remote (record { channel = ch; element = w; shut = s; opens = o; size = e; closes = c; comma = t; place = p; last = z }))) ≡ remote (plain_channel ch) w s o (plain e) c t (plain p) z
plain_remote_of ch w s o e c t p z = ap plain (sym (variant.rolls-Remote (roll-Remote (record { channel = ch; element = w; shut = s; opens = o; size = e; closes = c; comma = t; place = p; last = z })))) ∙ fold-roll-Expr Suffix Syntax (Option Token × Syntax) Syntax Syntax Clause (Syntax × Token) Syntax Inside Syntax (Token × Syntax) Syntax application_at expr_at cell_at choice_at comprehension_at generator_at item_at keyword_at listing_at matrix_at operation_at remote_at (layer.Remote (roll-Remote (record { channel = ch; element = w; shut = s; opens = o; size = e; closes = c; comma = t; place = p; last = z }))) ∙ fold-roll-Remote Suffix Syntax (Option Token × Syntax) Syntax Syntax Clause (Syntax × Token) Syntax Inside Syntax (Token × Syntax) Syntax application_at expr_at cell_at choice_at comprehension_at generator_at item_at keyword_at listing_at matrix_at operation_at remote_at (record { channel = ch; element = w; shut = s; opens = o; size = e; closes = c; comma = t; place = p; last = z })

-- parentheses or brackets round expressions
pub plain_inside : (o : Token) (es : List Item) (last : Option Expr) (c : Token) → plain_listing (roll-Listing (record { opens = o; items = es; last = last; closes = c }))
    ≡ record { opens = o; most = items_of (map plain_item es); last = maybe (option_map plain last); closes = c }
plain_inside o es None c = fold-roll-Listing Suffix Syntax (Option Token × Syntax) Syntax Syntax Clause (Syntax × Token) Syntax Inside Syntax (Token × Syntax) Syntax application_at expr_at cell_at choice_at comprehension_at generator_at item_at keyword_at listing_at matrix_at operation_at remote_at (record { opens = o; items = es; last = None; closes = c })
plain_inside o es (Some e) c = fold-roll-Listing Suffix Syntax (Option Token × Syntax) Syntax Syntax Clause (Syntax × Token) Syntax Inside Syntax (Token × Syntax) Syntax application_at expr_at cell_at choice_at comprehension_at generator_at item_at keyword_at listing_at matrix_at operation_at remote_at (record { opens = o; items = es; last = Some e; closes = c })

pub inside_out : (l : Listing) → plain_listing l
    ≡ record { opens = (out-Listing l).opens; most = items_of (map plain_item (out-Listing l).items); last = maybe (option_map plain (out-Listing l).last); closes = (out-Listing l).closes }
inside_out l = at_last (out-Listing l).last refl
  where
    at_last : (o : Option Expr) → (out-Listing l).last ≡ o → plain_listing l ≡ record { opens = (out-Listing l).opens; most = items_of (map plain_item (out-Listing l).items); last = maybe (option_map plain (out-Listing l).last); closes = (out-Listing l).closes }
    at_last None h = ap plain_listing (sym (roll-out-Listing l)) ∙ fold-roll-Listing Suffix Syntax (Option Token × Syntax) Syntax Syntax Clause (Syntax × Token) Syntax Inside Syntax (Token × Syntax) Syntax application_at expr_at cell_at choice_at comprehension_at generator_at item_at keyword_at listing_at matrix_at operation_at remote_at (out-Listing l) ∙ rw h refl
    at_last (Some e) h = ap plain_listing (sym (roll-out-Listing l)) ∙ fold-roll-Listing Suffix Syntax (Option Token × Syntax) Syntax Syntax Clause (Syntax × Token) Syntax Inside Syntax (Token × Syntax) Syntax application_at expr_at cell_at choice_at comprehension_at generator_at item_at keyword_at listing_at matrix_at operation_at remote_at (out-Listing l) ∙ rw h refl

pub plain_group : (l : Listing) → plain (variant.Group l) ≡ bracket grouped (plain_listing l).opens (plain_listing l).most (plain_listing l).last (plain_listing l).closes
plain_group l = ap plain (sym (variant.rolls-Group l)) ∙ fold-roll-Expr Suffix Syntax (Option Token × Syntax) Syntax Syntax Clause (Syntax × Token) Syntax Inside Syntax (Token × Syntax) Syntax application_at expr_at cell_at choice_at comprehension_at generator_at item_at keyword_at listing_at matrix_at operation_at remote_at (layer.Group l)

pub plain_list : (l : Listing) → plain (variant.List l) ≡ bracket itemed (plain_listing l).opens (plain_listing l).most (plain_listing l).last (plain_listing l).closes
plain_list l = ap plain (sym (variant.rolls-List l)) ∙ fold-roll-Expr Suffix Syntax (Option Token × Syntax) Syntax Syntax Clause (Syntax × Token) Syntax Inside Syntax (Token × Syntax) Syntax application_at expr_at cell_at choice_at comprehension_at generator_at item_at keyword_at listing_at matrix_at operation_at remote_at (layer.List l)

pub plain_arguments : (l : Listing) → plain_application (behind-variant.Arguments l) ≡ arguments (plain_listing l)
plain_arguments l = ap plain_application (sym (behind-variant.rolls-Arguments l)) ∙ fold-roll-Application Suffix Syntax (Option Token × Syntax) Syntax Syntax Clause (Syntax × Token) Syntax Inside Syntax (Token × Syntax) Syntax application_at expr_at cell_at choice_at comprehension_at generator_at item_at keyword_at listing_at matrix_at operation_at remote_at (layer.Arguments l)

pub plain_indexes : (l : Listing) → plain_application (behind-variant.Indexes l) ≡ indexes (plain_listing l)
plain_indexes l = ap plain_application (sym (behind-variant.rolls-Indexes l)) ∙ fold-roll-Application Suffix Syntax (Option Token × Syntax) Syntax Syntax Clause (Syntax × Token) Syntax Inside Syntax (Token × Syntax) Syntax application_at expr_at cell_at choice_at comprehension_at generator_at item_at keyword_at listing_at matrix_at operation_at remote_at (layer.Indexes l)

-- parts of lists
pub plain_one_operation : (t : Token) (e : Expr) → plain_operation (roll-Operation (record { operator = t; operand = e })) ≡ (t, plain e)
plain_one_operation t e = fold-roll-Operation Suffix Syntax (Option Token × Syntax) Syntax Syntax Clause (Syntax × Token) Syntax Inside Syntax (Token × Syntax) Syntax application_at expr_at cell_at choice_at comprehension_at generator_at item_at keyword_at listing_at matrix_at operation_at remote_at (record { operator = t; operand = e })

pub plain_one_item : (e : Expr) (t : Token) → plain_item (roll-Item (record { expr = e; separator = t })) ≡ (plain e, t)
plain_one_item e t = fold-roll-Item Suffix Syntax (Option Token × Syntax) Syntax Syntax Clause (Syntax × Token) Syntax Inside Syntax (Token × Syntax) Syntax application_at expr_at cell_at choice_at comprehension_at generator_at item_at keyword_at listing_at matrix_at operation_at remote_at (record { expr = e; separator = t })

pub plain_one_cell : (q : Option Token) (e : Expr) → plain_cell (roll-Cell (record { semicolon = q; atom = e })) ≡ (q, plain e)
plain_one_cell q e = fold-roll-Cell Suffix Syntax (Option Token × Syntax) Syntax Syntax Clause (Syntax × Token) Syntax Inside Syntax (Token × Syntax) Syntax application_at expr_at cell_at choice_at comprehension_at generator_at item_at keyword_at listing_at matrix_at operation_at remote_at (record { semicolon = q; atom = e })

pub plain_one_generator : (t n i : Token) (e : Expr) → plain_generator (roll-Generator (record { begins = t; name = n; within = i; collection = e })) ≡ record { begins = t; name = n; within = i; collection = plain e }
plain_one_generator t n i e = fold-roll-Generator Suffix Syntax (Option Token × Syntax) Syntax Syntax Clause (Syntax × Token) Syntax Inside Syntax (Token × Syntax) Syntax application_at expr_at cell_at choice_at comprehension_at generator_at item_at keyword_at listing_at matrix_at operation_at remote_at (record { begins = t; name = n; within = i; collection = e })

pub operation_out : (o : Operation) → plain_operation o ≡ ((out-Operation o).operator, plain (out-Operation o).operand)
operation_out o = ap plain_operation (sym (roll-out-Operation o)) ∙ fold-roll-Operation Suffix Syntax (Option Token × Syntax) Syntax Syntax Clause (Syntax × Token) Syntax Inside Syntax (Token × Syntax) Syntax application_at expr_at cell_at choice_at comprehension_at generator_at item_at keyword_at listing_at matrix_at operation_at remote_at (out-Operation o)
