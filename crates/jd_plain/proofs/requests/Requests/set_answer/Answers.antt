use Rattle.std.proofs.Common.{refl}
use Rattle.jd_plain.specs.declared.request.Request.{Request}
use Rattle.jd_plain.specs.Held.{request_of, answered_with}
use Rattle.jd_plain.proofs.Maps.{by_ask-write}
use Rattle.jd_plain.proofs.requests.Requests.set_answer.Goals as goal

pub returns-in-Some : goal.returns-in-Some
returns-in-Some c =
    let w : Request = record { task = c.in-Some.held.now.task; cell = c.in-Some.held.now.cell; is_here = c.in-Some.held.now.is_here; answer = c.replace.new.dest } in
    by_ask-write request_of (answered_with c.args.answer) c.args.self.now.held (c.get_mut.follows.lender w) c.args.ask c.in-Some.held.now w c.in-Some.ensures.value
    (c.get_mut.follows.holds w).3 (rw c.replace.ensures.after refl)
