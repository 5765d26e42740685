use Rattle.std.proofs.Common.{◌<◌, ◌≤◌, length, arith}
use Rattle.std.proofs.lemmas.Bool.Decides.{nat_tests}
use Rattle.jd_tree.specs.declared.tree.Listing.{out-Listing}
use Rattle.jd_lower.proofs.Lowered.{call_less, call_more}
use Rattle.jd_lower.proofs.calls.lower_remote_call.Goals as goal
use Rattle.jd_lower.proofs.calls.lower_remote_call.Goals.{in_default-as_slice-via-then-as_slice-lt2, in_default-as_slice-via-else-as_slice-lt2+else-this-lt3}

pub returns-in_default-as_slice : goal.returns-in_default-as_slice
returns-in_default-as_slice c =
    elim c.in_default-as_slice.branch [
      | in_default-as_slice-via-then-as_slice-lt2 w ↦
          let few : length (out-Listing c.args.listing.now).items < 2 = grind (arith, nat_tests) in call_less c.args.scope.now c.args.listing.now few
      | in_default-as_slice-via-else-as_slice-lt2+else-this-lt3 w ↦
          let many : 3 ≤ length (out-Listing c.args.listing.now).items = grind (arith, nat_tests) in call_more c.args.scope.now c.args.listing.now many
    ]
