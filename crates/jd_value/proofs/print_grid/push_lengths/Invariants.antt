use Rattle.std.proofs.Common.{◌≡◌, ◌++◌, take, map, flat_map, decimal}
use Rattle.jd_value.specs.Words.{mark_text}
use Rattle.jd_value.specs.declared.mark.Mark.TheVariants as m
use Rattle.jd_value.proofs.print_grid.push_lengths.Given as goal

abbrev pub invariant-loop-length : goal.invariant-loop-length
invariant-loop-length l =
    l.out ≡ l.initial.out ++ flat_map (λ piece. mark_text m.Comma ++ piece) (map decimal (take l.length-index l.others))
