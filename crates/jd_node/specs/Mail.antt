-- Messages that wait, as a function from processes to lists.
use Rattle.std.specs.Prelude.{ℕ, List, [], Option, Some, None}
use Rattle.std.specs.Ordering.{nat_cmp}
use Rattle.std.specs.BTreeMap.{get}
use Rattle.jd_task.specs.declared.msg.Msg.{Msg}
use Rattle.jd_node.specs.declared.mail.Mail.{Mail}

abbrev pub items_or_none : {Q : Type 0} → (Q → List Msg) → Option Q → List Msg
items_or_none items None = []
items_or_none items (Some q) = items q

-- the messages of a process, the oldest first
unfoldable pub mail_of : Mail → ℕ → List Msg
mail_of m q = items_or_none (λ queue. queue.items) (get nat_cmp m.queues q)

abbrev pub no_mail : ℕ → List Msg
no_mail q = []
