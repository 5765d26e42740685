use Rattle.std.proofs.Common.{◌≡◌, ◌≤◌, ◌-◌, vec_len}
use Rattle.std.specs.Io.KnownBytes.{Consumes}
use Rattle.jd_source.proofs.transfer.read_up_to.Given as goal

abbrev pub invariant-fill : goal.invariant-fill
invariant-fill g l = (vec_len l.bytes ≤ l.limit)
    × Consumes (g.S.Source.left l.initial.source) (g.S.Source.left l.source) l.bytes.items
    × (g.S.Source.faults l.initial.source ≤ g.S.Source.faults l.source)
    × (g.S.Source.ends l.initial.source ≤ g.S.Source.ends l.source)
    × (g.S.Source.files l.source ≡ g.S.Source.files l.initial.source)
    × (g.S.Source.asked l.source ≡ g.S.Source.asked l.initial.source)

abbrev pub decreases-fill : goal.decreases-fill
decreases-fill g l = l.limit - vec_len l.bytes
