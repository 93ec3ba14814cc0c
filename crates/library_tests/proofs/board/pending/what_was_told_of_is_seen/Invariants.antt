use Rattle.library_tests.proofs.board.pending.what_was_told_of_is_seen.Given as goal

-- the list that was just opened
abbrev pub ghosts-is_told : goal.ghosts-is_told
ghosts-is_told g a = record { book = a.opened.seen.book }
