use Rattle.std.proofs.Common.{◌≡◌, ap, ◌∙◌, sym, rules, [], ◌∷◌, ◌++◌, if◌then◌else◌}
use Rattle.jd_model.specs.Machine.{add_once}
use Rattle.jd_model.specs.Table.{put}
use Rattle.jd_plain.specs.Tables.{fetched_of}
use Rattle.jd_plain.proofs.Puts.{put-put, put-same}
use Rattle.jd_plain.proofs.fetched.Fetched.add.Goals as goal

pub returns-then-has : goal.returns-then-has
returns-then-has c =
    let p = c.args.process in let old = fetched_of c.args.self.now in
    let e : add_once (old p) c.args.cell ≡ old p = ap (λ b. if b then old p else old p ++ c.args.cell ∷ []) (sym c.has.ensures ∙ c.if-has.true) in sym (put-same old p (add_once (old p) c.args.cell) (sym e))

pub returns : goal.returns
returns c =
    let p = c.args.process in let old = fetched_of c.args.self.now in
    let e : c.push.new.self.items ≡ add_once (old p) c.args.cell =
    c.in_ok-push.ensures.items ∙ ap (λ l. l ++ c.args.cell ∷ []) c.take-cells.ensures.list
    ∙ ap (λ b. if b then old p else old p ++ c.args.cell ∷ []) (sym c.if-has.false ∙ c.has.ensures) in
    c.in_ok-put.ensures ∙ ap (λ f. put f p c.push.new.self.items) c.take-cells.ensures.rest ∙ put-put old p [] c.push.new.self.items ∙ ap (put old p) e
