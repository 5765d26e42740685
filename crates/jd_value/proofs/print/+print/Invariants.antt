use Rattle.std.proofs.Common.{◌≡◌, ◌++◌, take, map, flat_map}
use Rattle.jd_value.specs.Shown.{shown_inside}
use Rattle.jd_value.specs.Words.{mark_text}
use Rattle.jd_value.specs.declared.mark.Mark.TheVariants as m
use Rattle.jd_value.proofs.print.+print.Given as goal

abbrev pub invariant-push_all-loop-value : goal.invariant-push_all-loop-value
invariant-push_all-loop-value l =
    l.out ≡ l.initial.out ++ flat_map (λ piece. mark_text m.Comma ++ piece) (map shown_inside (take l.value-index l.others))
