use Rattle.std.proofs.Common.{◌≡◌, map, drop}
use Rattle.jd_lower.specs.Builtins.{builtin_among}
use Rattle.jd_lower.proofs.builtins.builtin_among.Given as goal

abbrev pub invariant-loop-row : goal.invariant-loop-row
invariant-loop-row l = builtin_among (map (λ row. (row.0.now, row.1)) (drop l.row-index l.rows)) l.name ≡ builtin_among (map (λ row. (row.0.now, row.1)) l.rows) l.name
