use Rattle.std.proofs.Common.{ℕ, List, ◌≡◌, ◌++◌, ◌∷◌, [], ◌∙◌, sym, ap, arith, append-nil}
use Rattle.std.proofs.lemmas.List.{drop_all}
use Rattle.jd_model.specs.Machine.{line}
use Rattle.jd_session.proofs.session.line_bytes.Goals as goal

pub returns-in-Ok-push_byte : goal.returns-in-Ok-push_byte
returns-in-Ok-push_byte c =
    let values = c.args.values.now in
    let whole : line values ≡ c.loop-value.text =
    c.loop-value.invariant ∙ ap (λ vs. c.loop-value.text ++ line vs) (drop_all c.loop-value.value-index values (omega arith)) ∙ append-nil c.loop-value.text in
    record { text = c.in-Ok-push_byte.ensures.ok ∙ ap (λ (bytes : List ℕ). bytes ++ 10 ∷ []) (sym whole); memory = tt }
