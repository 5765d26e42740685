use Rattle.std.proofs.Common.{◌≡◌, ◌∙◌, List, Option, Some, Err, true, false, map, drop, arith, ap, sym, subst}
use Rattle.std.proofs.lemmas.Bool.Decides.{nat_tests}
use Rattle.jd_value.specs.declared.expr.Expr.{Expr}
use Rattle.jd_grammar.specs.Kinds.{is_comma}
use Rattle.jd_grammar.specs.Grammar.{name_of}
use Rattle.jd_tree.specs.declared.tree.Item.{out-Item}
use Rattle.jd_tree.specs.Plain.{plain, plain_application, plain_item, plain_listing, plain_operation, items_of}
use Rattle.jd_lower.specs.Steps.{Lowers}
use Rattle.jd_lower.specs.Operators.{of_two}
use Rattle.jd_lower.specs.Expressions.{behind, element, expression_of, expressions_of, all_of, with_operations, with_suffixes}
use Rattle.jd_lower.proofs.Lowered.{operation_fails, binary_lowers, binary_stops, first_stops, suffix_fails, index_lowers, index_stops, indexed_stops}
use Rattle.jd_lower.proofs.Collecting.{behind_nothing, item_refused, item_lowers, item_fails, atom_lowers, atom_fails, cell_lowers, cell_fails}
use Rattle.jd_lower.proofs.expressions.+expressions.Goals as goal

pub lower_items-loop-item-init : goal.lower_items-loop-item-init
lower_items-loop-item-init t c =
    let all : Option (List Expr) = expressions_of c.args.scope.now (items_of (map plain_item c.args.items.now)) in
    behind_nothing all ∙ ap (λ xs. behind xs all) (sym c.new-args.ensures)

pub lower_items-returns-then-not-is_comma : goal.lower_items-returns-then-not-is_comma
lower_items-returns-then-not-is_comma t c =
    let comma : is_comma (out-Item c.item-item.result).separator.kind ≡ false = grind (arith, nat_tests) in
    c.loop-item.invariant ∙ item_refused c.args.scope.now c.loop-item.args c.args.items.now c.loop-item.item-index c.item-item.result c.loop-item-test.true c.item-item.is comma

pub lower_items-loop-item-preserved : goal.lower_items-loop-item-preserved
lower_items-loop-item-preserved t c =
    let comma : is_comma (out-Item c.item-item.result).separator.kind ≡ true = grind (arith, nat_tests) in
    c.loop-item.invariant
    ∙ item_lowers c.args.scope.now c.loop-item.args c.args.items.now c.loop-item.item-index c.item-item.result c.loop-item-test.true c.item-item.is comma c.in-Ok.next c.in-Ok.ensures

pub lower_items-returns-in-Err : goal.lower_items-returns-in-Err
lower_items-returns-in-Err t c =
    let comma : is_comma (out-Item c.item-item.result).separator.kind ≡ true = grind (arith, nat_tests) in
    subst (λ o. Lowers o (Err c.in-Err.fault)) (sym c.loop-item.invariant)
    (item_fails c.args.scope.now c.loop-item.args c.args.items.now c.loop-item.item-index c.item-item.result c.loop-item-test.true c.item-item.is comma c.in-Err.fault c.in-Err.ensures)

pub lower_atoms-loop-cell-preserved : goal.lower_atoms-loop-cell-preserved
lower_atoms-loop-cell-preserved t c =
    c.loop-cell.invariant ∙ atom_lowers c.args.scope.now c.loop-cell.atoms c.args.cells.now c.loop-cell.cell-index c.cell-item.result c.loop-cell-test.true c.cell-item.is c.in-Ok.next c.in-Ok.ensures

pub lower_atoms-returns-in-Err : goal.lower_atoms-returns-in-Err
lower_atoms-returns-in-Err t c =
    subst (λ o. Lowers o (Err c.in-Err.fault)) (sym c.loop-cell.invariant)
    (atom_fails c.args.scope.now c.loop-cell.atoms c.args.cells.now c.loop-cell.cell-index c.cell-item.result c.loop-cell-test.true c.cell-item.is c.in-Err.fault c.in-Err.ensures)

pub lower_cells-loop-cell-preserved : goal.lower_cells-loop-cell-preserved
lower_cells-loop-cell-preserved t c =
    c.loop-cell.invariant ∙ cell_lowers c.args.scope.now c.loop-cell.rows c.args.cells.now c.loop-cell.cell-index c.cell-item.result c.loop-cell-test.true c.cell-item.is c.in-Ok.next c.in-Ok.ensures

pub lower_cells-returns-in-Err : goal.lower_cells-returns-in-Err
lower_cells-returns-in-Err t c =
    subst (λ o. Lowers o (Err c.in-Err.fault)) (sym c.loop-cell.invariant)
    (cell_fails c.args.scope.now c.loop-cell.rows c.args.cells.now c.loop-cell.cell-index c.cell-item.result c.loop-cell-test.true c.cell-item.is c.in-Err.fault c.in-Err.ensures)

pub lower_operations-returns-in-Err : goal.lower_operations-returns-in-Err
lower_operations-returns-in-Err t c =
    let kept : with_operations c.args.scope.now (Some c.args.first) (map plain_operation c.args.operations.now)
    ≡ with_operations c.args.scope.now (Some c.loop-operation.left) (map plain_operation (drop c.loop-operation.operation-index c.args.operations.now)) = c.loop-operation.invariant in
    let failed = operation_fails c.args.scope.now (Some c.loop-operation.left) c.args.operations.now c.loop-operation.operation-index c.operation-item.result c.in-Err.fault c.loop-operation-test.true c.operation-item.is c.in-Err.ensures in
    subst (λ x. Lowers x (Err c.in-Err.fault)) (sym kept) failed

pub lower_suffixes-returns-in-Err : goal.lower_suffixes-returns-in-Err
lower_suffixes-returns-in-Err t c =
    let kept : with_suffixes c.args.scope.now c.args.f (Some c.args.first) (map plain_application c.args.suffixes.now)
    ≡ with_suffixes c.args.scope.now c.loop-suffix.name (Some c.loop-suffix.x) (map plain_application (drop c.loop-suffix.suffix-index c.args.suffixes.now)) = c.loop-suffix.invariant in
    let failed = suffix_fails c.args.scope.now c.loop-suffix.name (Some c.loop-suffix.x) c.args.suffixes.now c.loop-suffix.suffix-index c.suffix-item.result c.in-Err.fault c.loop-suffix-test.true c.suffix-item.is c.in-Err.ensures in
    subst (λ x. Lowers x (Err c.in-Err.fault)) (sym kept) failed

pub lower_expression-returns-in-Ok-lower_operations : goal.lower_expression-returns-in-Ok-lower_operations
lower_expression-returns-in-Ok-lower_operations t c =
    binary_lowers c.args.scope.now c.args.x.now c.in-Binary.first c.in-Binary.operations c.in-Binary.last c.in-Binary.is c.in-Ok.first c.in-Ok-lower_operations.left c.lower_operation.result
    (subst (λ e. expression_of c.args.scope.now (plain e) ≡ Some c.in-Ok.first) c.get-in-Binary.ensures c.in-Ok.ensures)
    (subst (λ os. with_operations c.args.scope.now (Some c.in-Ok.first) (map plain_operation os) ≡ Some c.in-Ok-lower_operations.left) c.as_slice.ensures c.in-Ok-lower_operations.ensures)
    (subst (λ o. Lowers (of_two (plain_operation o).0.kind (Some c.in-Ok-lower_operations.left) (expression_of c.args.scope.now (plain_operation o).1)) c.lower_operation.result)
    c.get-in-Ok-lower_operations.ensures c.lower_operation.ensures)

pub lower_expression-returns-in-Err-lower_operations : goal.lower_expression-returns-in-Err-lower_operations
lower_expression-returns-in-Err-lower_operations t c =
    binary_stops c.args.scope.now c.args.x.now c.in-Binary.first c.in-Binary.operations c.in-Binary.last c.in-Binary.is c.in-Ok.first c.in-Err-lower_operations.fault
    (subst (λ e. expression_of c.args.scope.now (plain e) ≡ Some c.in-Ok.first) c.get-in-Binary.ensures c.in-Ok.ensures)
    (subst (λ os. Lowers (with_operations c.args.scope.now (Some c.in-Ok.first) (map plain_operation os)) (Err c.in-Err-lower_operations.fault)) c.as_slice.ensures c.in-Err-lower_operations.ensures)

pub lower_expression-returns-in-Err : goal.lower_expression-returns-in-Err
lower_expression-returns-in-Err t c =
    first_stops c.args.scope.now c.args.x.now c.in-Binary.first c.in-Binary.operations c.in-Binary.last c.in-Binary.is c.in-Err.fault
    (subst (λ e. Lowers (expression_of c.args.scope.now (plain e)) (Err c.in-Err.fault)) c.get-in-Binary.ensures c.in-Err.ensures)

pub lower_expression-returns-in-Ok-lower_suffixes : goal.lower_expression-returns-in-Ok-lower_suffixes
lower_expression-returns-in-Ok-lower_suffixes t c =
    let scope = c.args.scope.now in
    let named : c.name_of-name.result ≡ name_of (plain c.in-Index.x) = c.name_of-name.ensures ∙ ap (λ x. name_of (plain x)) c.get-in-Ok-lower_expression.ensures in
    index_lowers scope c.args.x.now c.in-Index.x c.in-Index.before c.in-Index.listing c.in-Index.is c.in-Ok-lower_expression.first c.in-Ok-lower_suffixes.x c.lower_index.result
    (subst (λ e. expression_of scope (plain e) ≡ Some c.in-Ok-lower_expression.first) c.get-in-Index.ensures c.in-Ok-lower_expression.ensures)
    (subst (λ f. with_suffixes scope f (Some c.in-Ok-lower_expression.first) (map plain_application c.in-Index.before) ≡ Some c.in-Ok-lower_suffixes.x) named
    (subst (λ ss. with_suffixes scope c.name_of-name.result (Some c.in-Ok-lower_expression.first) (map plain_application ss) ≡ Some c.in-Ok-lower_suffixes.x) c.as_slice-in-Ok-lower_expression.ensures c.in-Ok-lower_suffixes.ensures))
    (subst (λ l. Lowers (element (Some c.in-Ok-lower_suffixes.x) (all_of scope (plain_listing l).most (plain_listing l).last)) c.lower_index.result) c.get-in-Ok-lower_suffixes.ensures c.lower_index.ensures)

pub lower_expression-returns-in-Err-lower_suffixes : goal.lower_expression-returns-in-Err-lower_suffixes
lower_expression-returns-in-Err-lower_suffixes t c =
    let scope = c.args.scope.now in
    let named : c.name_of-name.result ≡ name_of (plain c.in-Index.x) = c.name_of-name.ensures ∙ ap (λ x. name_of (plain x)) c.get-in-Ok-lower_expression.ensures in
    index_stops scope c.args.x.now c.in-Index.x c.in-Index.before c.in-Index.listing c.in-Index.is c.in-Ok-lower_expression.first c.in-Err-lower_suffixes.fault
    (subst (λ e. expression_of scope (plain e) ≡ Some c.in-Ok-lower_expression.first) c.get-in-Index.ensures c.in-Ok-lower_expression.ensures)
    (subst (λ f. Lowers (with_suffixes scope f (Some c.in-Ok-lower_expression.first) (map plain_application c.in-Index.before)) (Err c.in-Err-lower_suffixes.fault)) named
    (subst (λ ss. Lowers (with_suffixes scope c.name_of-name.result (Some c.in-Ok-lower_expression.first) (map plain_application ss)) (Err c.in-Err-lower_suffixes.fault)) c.as_slice-in-Ok-lower_expression.ensures c.in-Err-lower_suffixes.ensures))

pub lower_expression-returns-in-Err-lower_expression : goal.lower_expression-returns-in-Err-lower_expression
lower_expression-returns-in-Err-lower_expression t c =
    indexed_stops c.args.scope.now c.args.x.now c.in-Index.x c.in-Index.before c.in-Index.listing c.in-Index.is c.in-Err-lower_expression.fault
    (subst (λ e. Lowers (expression_of c.args.scope.now (plain e)) (Err c.in-Err-lower_expression.fault)) c.get-in-Index.ensures c.in-Err-lower_expression.ensures)
