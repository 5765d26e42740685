use Rattle.test_desk.proofs.turns.a_refusal_is_of_a_beginning_of_the_final_list.Given as goal

abbrev pub ghosts-offer_in_two : goal.ghosts-offer_in_two
ghosts-offer_in_two g a = record { table = a.unnamed.table }
