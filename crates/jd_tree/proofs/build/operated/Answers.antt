use Rattle.std.proofs.Common.{◌++◌, ◌∷◌, [], map, sym, ap, ◌∙◌}
use Rattle.jd_tree.specs.declared.tree.Operation.{Operation}
use Rattle.jd_tree.specs.Plain.{plain, operated, plain_operation}
use Rattle.jd_tree.proofs.Levels.{plain_binary}
use Rattle.jd_tree.proofs.Trees.{operation_end}
use Rattle.jd_tree.proofs.build.operated.Goals as goal

pub returns-in_ok-push-in-Binary : goal.returns-in_ok-push-in-Binary
returns-in_ok-push-in-Binary c =
    ap (λ os. operated (plain c.in-Binary.first) (map plain_operation os)) c.in_ok-push-in-Binary.ensures.ok
    ∙ ap (λ (o : Operation). operated (plain c.in-Binary.first) (map plain_operation (c.in-Binary.operations ++ (o ∷ [])))) c.into_inner.ensures
    ∙ operation_end (plain c.in-Binary.first) c.in-Binary.operations c.in-Binary.last
    ∙ sym (plain_binary c.in-Binary.first c.in-Binary.operations c.in-Binary.last)
    ∙ ap plain (sym c.in-Binary.is)
