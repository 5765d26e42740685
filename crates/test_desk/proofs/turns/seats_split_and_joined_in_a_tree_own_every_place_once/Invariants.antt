use Rattle.test_desk.proofs.turns.seats_split_and_joined_in_a_tree_own_every_place_once.Given as goal

abbrev pub ghosts-work_in_a_tree : goal.ghosts-work_in_a_tree
ghosts-work_in_a_tree g a = record { table = a.unnamed.table }
