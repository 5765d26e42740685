use Rattle.std.proofs.Common.{◌≡◌, List, map, sym, ap, subst, ◌∙◌}
use Rattle.std.specs.Prelude.{IfOk}
use Rattle.jd_grammar.specs.Trees.{Syntax}
use Rattle.jd_tree.specs.declared.tree.Application.{Application}
use Rattle.jd_tree.specs.declared.tree.Expr.{Expr}
use Rattle.jd_tree.specs.Plain.{plain, apply, applied, plain_application}
use Rattle.jd_tree.proofs.Levels.{plain_call, plain_index, plain_arguments, plain_indexes}
use Rattle.jd_tree.proofs.brackets.applied.Goals as goal

pub returns-in-Call : goal.returns-in-Call
returns-in-Call c = subst (λ (y : Syntax). IfOk c.with_application.result (λ (r : Expr × List Application). applied (plain r.0) (map plain_application r.1) ≡ y))
    (ap (apply (applied (plain c.in-Call.first) (map plain_application c.in-Call.applications))) (plain_arguments c.in-Call.arguments)
    ∙ sym (plain_call c.in-Call.first c.in-Call.applications c.in-Call.arguments) ∙ ap plain (sym c.in-Call.is)) c.with_application.ensures

pub returns-in-Index : goal.returns-in-Index
returns-in-Index c = subst (λ (y : Syntax). IfOk c.with_application-in-Index.result (λ (r : Expr × List Application). applied (plain r.0) (map plain_application r.1) ≡ y))
    (ap (apply (applied (plain c.in-Index.first) (map plain_application c.in-Index.applications))) (plain_indexes c.in-Index.indexes)
    ∙ sym (plain_index c.in-Index.first c.in-Index.applications c.in-Index.indexes) ∙ ap plain (sym c.in-Index.is)) c.with_application-in-Index.ensures
