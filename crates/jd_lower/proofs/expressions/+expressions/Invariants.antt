use Rattle.std.proofs.Common.{◌≡◌, Some, map, drop}
use Rattle.jd_tree.specs.Plain.{plain_application, plain_cell, plain_item, plain_operation, items_of, cells_at}
use Rattle.jd_lower.specs.Expressions.{behind, grid, expressions_of, atoms_of, rows_of, with_operations, with_suffixes}
use Rattle.jd_lower.proofs.expressions.+expressions.Given as goal

abbrev pub invariant-lower_items-loop-item : goal.invariant-lower_items-loop-item
invariant-lower_items-loop-item l =
    expressions_of l.scope (items_of (map plain_item l.items)) ≡ behind l.args (expressions_of l.scope (items_of (map plain_item (drop l.item-index l.items))))

abbrev pub invariant-lower_suffixes-loop-suffix : goal.invariant-lower_suffixes-loop-suffix
invariant-lower_suffixes-loop-suffix l =
    with_suffixes l.scope l.initial.name (Some l.initial.x) (map plain_application l.suffixes)
    ≡ with_suffixes l.scope l.name (Some l.x) (map plain_application (drop l.suffix-index l.suffixes))

abbrev pub invariant-lower_atoms-loop-cell : goal.invariant-lower_atoms-loop-cell
invariant-lower_atoms-loop-cell l =
    behind l.initial.atoms (atoms_of l.scope (cells_at (map plain_cell l.cells))) ≡ behind l.atoms (atoms_of l.scope (cells_at (map plain_cell (drop l.cell-index l.cells))))

abbrev pub invariant-lower_cells-loop-cell : goal.invariant-lower_cells-loop-cell
invariant-lower_cells-loop-cell l =
    grid l.initial.rows.rows l.initial.rows.begun (rows_of l.scope (cells_at (map plain_cell l.cells)))
    ≡ grid l.rows.rows l.rows.begun (rows_of l.scope (cells_at (map plain_cell (drop l.cell-index l.cells))))

abbrev pub invariant-lower_operations-loop-operation : goal.invariant-lower_operations-loop-operation
invariant-lower_operations-loop-operation l =
    with_operations l.scope (Some l.initial.left) (map plain_operation l.operations) ≡ with_operations l.scope (Some l.left) (map plain_operation (drop l.operation-index l.operations))
