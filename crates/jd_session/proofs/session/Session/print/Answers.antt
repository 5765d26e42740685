use Rattle.std.proofs.Common.{rules, arith, ◌≡◌, ◌∙◌, subst, sym, ap}
use Rattle.jd_node.specs.View.{node_of}
use Rattle.jd_session.proofs.Kept.{line_done, line_cut, line_written, unmade}
use Rattle.jd_session.proofs.session.Session.print.Goals as goal

pub returns-in-Err-clause-kept : goal.returns-in-Err-clause-kept
returns-in-Err-clause-kept g c = λ p st old j. unmade (node_of c.args.self.now.hub) _ _ c.in-Err.ensures.memory p st old _ j

pub returns-in-Err-write_whole-clause-kept : goal.returns-in-Err-write_whole-clause-kept
returns-in-Err-write_whole-clause-kept g c =
    line_cut (node_of c.args.self.now.hub) _ _ _ _ _ _ c.requires.running (sym c.in-Some.ensures) c.in-Ok-tell.ensures.told (c.as_bytes.ensures ∙ c.in-Ok.ensures.text) c.in-Err-write_whole.ensures.err

pub returns-in-Ok-main_answer-clause-kept : goal.returns-in-Ok-main_answer-clause-kept
returns-in-Ok-main_answer-clause-kept g c =
    line_done (node_of c.args.self.now.hub) _ _ _ _ _ _ _ c.requires.running (sym c.in-Some.ensures) c.in-Ok-tell.ensures.told (c.as_bytes.ensures ∙ c.in-Ok.ensures.text)
    c.in-Ok-write_whole.ensures.ok c.in-Ok-main_answer.ensures.node

pub returns-clause-kept : goal.returns-clause-kept
returns-clause-kept g c = λ p st old j.
    rw c.stop_of_node.ensures (line_written (node_of c.args.self.now.hub) _ _ _ _ _ _ _ c.requires.running (sym c.in-Some.ensures) c.in-Ok-tell.ensures.told
    (c.as_bytes.ensures ∙ c.in-Ok.ensures.text) c.in-Ok-write_whole.ensures.ok c.in-Err-main_answer.ensures.memory p st old j)
