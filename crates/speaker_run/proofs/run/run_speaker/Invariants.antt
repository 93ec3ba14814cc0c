use Rattle.speaker_words.specs.Seen.{said_seen}
use Rattle.speaker_run.proofs.run.run_speaker.Given as goal

-- the list that was just opened
abbrev pub ghosts-run_responder-J-Naming : goal.ghosts-run_responder-J-Naming
ghosts-run_responder-J-Naming g a = record { book = a.opened.seen.book }

-- the services of the words' class
abbrev pub ghosts-run_responder-J-Classed : goal.ghosts-run_responder-J-Classed
ghosts-run_responder-J-Classed g a = record { class = (said_seen a.said.now).class }
