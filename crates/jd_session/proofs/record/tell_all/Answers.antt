use Rattle.std.proofs.Common.{rules, ◌≡◌, OnOk, OnErr, ℕ, ◌+◌, ◌-◌, ◌*◌, ◌<◌, ◌≤◌, length, ◌/◌, ◌%◌, Bool, true, false, nat_eq, nat_lt, List, [], ◌∷◌, ◌++◌, slice_index_or, slice_set, bit_and, bit_or, Fits, w8, w32, w64, Bor, MutBor}
use Rattle.jd_session.proofs.Telling.{told_next, first_before}
use Rattle.jd_session.proofs.record.tell_all.Goals as goal

pub loop-effects-preserved : goal.loop-effects-preserved
loop-effects-preserved g c =
    record {
      so_far = told_next _ _ _ _ _ _ _ c.loop-effects.invariant.so_far (first_before _ _ c.in-len1-up.len_at_least) c.in-Ok.ensures.told;
      begun = search rules;
      faults_later = search rules;
      limits_later = search rules;
    }
