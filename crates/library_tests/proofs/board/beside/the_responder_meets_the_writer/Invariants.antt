use Rattle.library_tests.proofs.board.beside.the_responder_meets_the_writer.Given as goal

-- the list that was just opened
abbrev pub ghosts-is_met : goal.ghosts-is_met
ghosts-is_met g a = record { book = a.opened.seen.book }
