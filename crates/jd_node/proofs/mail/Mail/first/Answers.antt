use Rattle.std.proofs.Common.{sym, ap, ◌∙◌, nat_eq, ℕ, List}
use Rattle.std.specs.List.{list_any}
use Rattle.jd_node.proofs.MailLemmas.{no_queue}
use Rattle.jd_node.proofs.mail.Mail.first.Goals as goal

pub loop-process-init : goal.loop-process-init
loop-process-init c = λ q h. let e = c.keys-process-items.ensures.rest in let f = c.into_iter-process-iterator.ensures.into_iter_gives in
    no_queue c.args.self.now q (ap (λ (ks : List ℕ). list_any (nat_eq q) ks) (sym (f ∙ e)) ∙ h)
