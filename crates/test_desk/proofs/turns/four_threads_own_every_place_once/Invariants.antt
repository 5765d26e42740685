use Rattle.test_desk.proofs.turns.four_threads_own_every_place_once.Given as goal

abbrev pub ghosts-work_in_four : goal.ghosts-work_in_four
ghosts-work_in_four g a = record { table = a.unnamed.table }
