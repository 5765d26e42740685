use Rattle.std.proofs.Common.{◌≡◌, ◌==◌, ℕ, false, sym, subst, arith}
use Rattle.std.proofs.lemmas.Bool.Decides.{nat_tests}
use Rattle.jd_world.specs.Outside.{told_of, told_with, linked}
use Rattle.jd_world.proofs.Written.{on_ok, on_ok_two}
use Rattle.jd_world.proofs.Views.{linked_main, linked_worker}
use Rattle.jd_world.proofs.outside.Outside.send.Goals as goal

pub returns-then-to-eq1-clause-sent : goal.returns-then-to-eq1-clause-sent
returns-then-to-eq1-clause-sent c = on_ok c.push.result c.push.ensures (λ h. let o = c.args.self.now in
    subst (λ (q : ℕ). told_with o.workers c.push.new.self o.events o.marks.items ≡ linked (told_of o) c.args.from q c.args.msg) (sym c.if-to-eq1.true)
    (linked_main o.workers o.to_main c.push.new.self o.events o.marks.items c.args.from c.args.msg h))

pub returns-clause-sent : goal.returns-clause-sent
returns-clause-sent c = let other : (c.args.to == 1) ≡ false = grind (arith, nat_tests, c.if-to-eq1.false) in let o = c.args.self.now in
    on_ok_two c.send.result c.send.ensures.nodes c.send.ensures.links (λ n l.
    linked_worker o.workers c.send.new.self o.to_main o.events o.marks.items c.args.from c.args.to c.args.msg other n l)
