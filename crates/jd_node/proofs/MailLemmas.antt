-- Looking for a message.
use Rattle.std.specs.Prelude.{◌≡◌, ℕ, ◌∷◌, List, [], None, false, nat_eq}
use Rattle.std.specs.List.{list_any}
use Rattle.std.specs.Map.{lookup, keys_of}
use Rattle.std.specs.Ordering.{nat_cmp}
use Rattle.std.specs.BTreeMap.{is_at}
use Rattle.std.specs.Cmp.{unsigned_ties}
use Rattle.std.proofs.Common.{refl, ap, arith}
use Rattle.jd_node.specs.declared.mail.Mail.{Mail}
use Rattle.jd_node.specs.Mail.{mail_of, items_or_none}

-- what is among no keys isn't found
pub absent : {V : Type 0} (q : ℕ) (es : List (ℕ × V)) → list_any (nat_eq q) (keys_of es) ≡ false → lookup (is_at (nat_cmp q)) es ≡ None
absent q [] h = refl
absent q (e ∷ es) h = grind (arith, unsigned_ties q e.0, absent q es, h)

-- a process without a queue has no message
pub no_queue : (m : Mail) (q : ℕ) → list_any (nat_eq q) (keys_of m.queues.entries) ≡ false → mail_of m q ≡ []
unfolding mail_of
no_queue m q h = ap (items_or_none (λ queue. queue.items)) (absent q m.queues.entries h)
