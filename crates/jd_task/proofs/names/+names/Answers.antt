use Rattle.jd_task.proofs.Uses.{names_apply}
use Rattle.jd_task.proofs.names.+names.Goals as goal

pub push_names-returns-in-Apply : goal.push_names-returns-in-Apply
push_names-returns-in-Apply t c = rw (c.in-Apply.is, names_apply c.in-Apply.field-0 c.in-Apply.args, ← c.as_slice.ensures) c.push_all_names.ensures
