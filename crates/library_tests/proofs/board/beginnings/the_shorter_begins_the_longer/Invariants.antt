use Rattle.library_tests.proofs.board.beginnings.the_shorter_begins_the_longer.Given as goal

-- the list that was just opened
abbrev pub ghosts-is_grown : goal.ghosts-is_grown
ghosts-is_grown g a = record { book = a.opened.seen.book }
