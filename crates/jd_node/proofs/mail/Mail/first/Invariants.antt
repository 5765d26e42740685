use Rattle.std.proofs.Common.{◌≡◌, ℕ, [], false, nat_eq}
use Rattle.std.specs.List.{list_any}
use Rattle.jd_node.specs.Mail.{mail_of}
use Rattle.jd_node.proofs.mail.Mail.first.Given as goal

-- what isn't to come has no message
abbrev pub invariant-loop-process : goal.invariant-loop-process
invariant-loop-process l = (q : ℕ) → list_any (nat_eq q) l.process-iterator ≡ false → mail_of l.self q ≡ []
