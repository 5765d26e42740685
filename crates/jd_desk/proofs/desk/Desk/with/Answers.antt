use Rattle.jd_desk.proofs.desk.Desk.with.Goals as goal

pub turn-requires-clause-grows : goal.turn-requires-clause-grows
turn-requires-clause-grows g c = λ answer left fits returned. c.requires.grows _ left answer fits returned
