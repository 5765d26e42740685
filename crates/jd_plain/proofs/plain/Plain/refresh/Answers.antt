use Rattle.std.proofs.Common.{◌≡◌, ℕ, List, ap, ◌∙◌}
use mathlib.Core.Path.{fun_ext}
use Rattle.std.specs.List.{list_any, filter}
use Rattle.jd_value.specs.declared.reference.RefId.{RefId}
use Rattle.jd_model.specs.Machine.{State, occurs, in_task}
use Rattle.jd_model.specs.Table.{put}
use Rattle.jd_plain.specs.Occurs.{is_in}
use Rattle.jd_plain.specs.State.{state_of}
use Rattle.jd_plain.proofs.plain.Plain.refresh.Goals as goal

pub returns : goal.returns
returns c =
    let s = state_of c.args.self.now in let p = c.args.process in
    let at : (ℕ → List RefId) → State = λ f. record s { fetched = f } in
    let test : is_in c.in_ok-kept.kept ≡ occurs s p =
    fun_ext (λ r. c.in_ok-kept.ensures r ∙ ap (list_any (λ t. in_task p (s.tasks t.process t.number) r)) c.as_slice.ensures.value) in
    ap at (c.in_ok-keep.ensures ∙ ap (λ g. put s.fetched p (filter g (s.fetched p))) test)
