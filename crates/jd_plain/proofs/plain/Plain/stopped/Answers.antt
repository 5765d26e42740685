use Rattle.std.proofs.Common.{◌≡◌, None, sym, ◌∙◌, rules}
use Rattle.jd_plain.proofs.Moves.{nothing_legal, nothing_moves, ended_stopped, false_of, true_of}
use Rattle.jd_plain.proofs.plain.Plain.stopped.Goals as goal

pub returns-then-is_some : goal.returns-then-is_some
returns-then-is_some c = (λ _. ended_stopped c.args.self.now (sym c.is_some.ensures ∙ c.if-is_some.true), λ _. search rules)

pub returns : goal.returns
returns c =
    let x = c.args.self.now in let moves = c.has_moving.result in
    let running : x.ending ≡ None = search rules in
    (λ t. nothing_legal x (sym c.has_moving.ensures ∙ false_of moves t), λ h. true_of moves (c.has_moving.ensures ∙ nothing_moves x running h))
