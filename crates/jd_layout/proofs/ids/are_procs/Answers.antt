use Rattle.jd_layout.proofs.Apart.{procs_known, known_procs}
use Rattle.jd_layout.proofs.ids.are_procs.Goals as goal

pub returns : goal.returns
returns c = (
  λ yes. procs_known c.in_ok-id_set.field-0 c.args.procs.now c.args.known.now c.in_ok-id_set.ensures (c.are_apart_in.ensures.0 yes),
  λ valid. c.are_apart_in.ensures.1 (known_procs c.in_ok-id_set.field-0 c.args.procs.now c.args.known.now c.in_ok-id_set.ensures valid),
)
