use Rattle.std.proofs.Common.{◌≡◌, ap, ◌∙◌, sym, rules, [], filter}
use Rattle.std.specs.HashSet.{contains}
use Rattle.std.proofs.lemmas.Fn.{filter_same}
use Rattle.jd_model.specs.Table.{put}
use Rattle.jd_plain.specs.Tables.{fetched_of, same_cell}
use Rattle.jd_plain.proofs.Puts.{put-put}
use Rattle.jd_plain.proofs.fetched.Fetched.keep.Goals as goal

pub returns : goal.returns
returns c =
    let p = c.args.process in let old = fetched_of c.args.self.now in
    let e : c.retain.new.self.items ≡ filter (contains same_cell c.args.kept.now) (old p) =
    filter_same _ (contains same_cell c.args.kept.now) _ (λ x b f' k. search rules) _ _ c.retain.ensures.filtered ∙ ap (filter (contains same_cell c.args.kept.now)) c.take-cells.ensures.list in
    c.in_ok-put.ensures ∙ ap (λ f. put f p c.retain.new.self.items) c.take-cells.ensures.rest ∙ put-put old p [] c.retain.new.self.items ∙ ap (put old p) e
