use Rattle.std.proofs.Common.{ap, ◌∙◌}
use Rattle.jd_grammar.specs.Grammar.{ending, choice}
use Rattle.jd_tree.specs.declared.measured.Measured.{Measured}
use Rattle.jd_tree.specs.Measures.{measure}
use Rattle.jd_tree.specs.Code.{plain_measured}
use Rattle.jd_precedence.proofs.depth.behind.Goals as goal

pub returns-in-Choice : goal.returns-in-Choice
returns-in-Choice c = λ e h.
    let q = c.in-Choice.field-1 in
    let t = c.in-Choice.field-3 in
    rw c.in-Choice.is (c.in_choice.ensures q t e h
    ∙ ap (λ (m : Measured). measure (ending (choice (plain_measured m) q (plain_measured c.get-in-Choice.result.now) t) e)) c.get.ensures
    ∙ ap (λ (m : Measured). measure (ending (choice (plain_measured c.in-Choice.condition) q (plain_measured m) t) e)) c.get-in-Choice.ensures)

pub returns-in-Lambda : goal.returns-in-Lambda
returns-in-Lambda c = λ e h. rw c.in-Lambda.is (c.lambda_profile.ensures (plain_measured c.in-Lambda.names) e c.in-Lambda.field-1 c.in-Lambda.names.measured h)

pub returns-in-Spawn : goal.returns-in-Spawn
returns-in-Spawn c = λ e h. rw c.in-Spawn.is (c.spawn_profile.ensures (plain_measured c.in-Spawn.atom) e c.in-Spawn.field-0 c.in-Spawn.atom.measured h)

pub returns-in-Keyword : goal.returns-in-Keyword
returns-in-Keyword c = λ e h. rw c.in-Keyword.is (c.keyword_profile.ensures e c.in-Keyword.field-0 c.in-Keyword.field-1 h)
