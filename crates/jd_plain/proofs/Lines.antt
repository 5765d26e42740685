-- Lines value by value.
use Rattle.std.proofs.Common.{◌≡◌, ℕ, ◌+◌, ◌<◌, List, [], ◌∷◌, ◌++◌, take, length, ap, ◌∙◌, sym, get_or, append_assoc, append-nil}
use Rattle.std.proofs.lemmas.List.{take_more}
use Rattle.jd_value.specs.declared.value.Value.{Value}
use Rattle.jd_value.specs.Shown.{shown}
use Rattle.jd_model.specs.Machine.{line}

pub line-push : (vs : List Value) (v : Value) → line (vs ++ v ∷ []) ≡ line vs ++ shown v
line-push [] v = append-nil (shown v)
line-push (w ∷ vs) v = ap (λ l. shown w ++ l) (line-push vs v) ∙ sym (append_assoc (shown w) (line vs) (shown v))

-- the line of one more value
pub line-take : (vs : List Value) (i : ℕ) (v : Value) → i < length vs → v ≡ get_or vs i v → line (take (i + 1) vs) ≡ line (take i vs) ++ shown v
line-take vs i v h e = ap line (take_more vs i v h ∙ ap (λ x. take i vs ++ x ∷ []) (sym e)) ∙ line-push (take i vs) v
