-- What the words of the command line ask for: a run over lines or over two lanes, for the services of a class or for those of none, or a trial.
use Rattle.std.specs.Prelude.{ℕ, List, Option}
use Rattle.command_options.specs.Lanes.{LaneNames}
use Rattle.controller_words.specs.Words.{Run, Trial, Lanes, Say}

-- the words ask for a run over one stream
abbrev pub AskRun : List (List ℕ) → Type 0
AskRun words = (class : Option (List ℕ)) × Say words (Run class)

-- the words ask for a trial
abbrev pub AskTrial : List (List ℕ) → ℕ → ℕ → Type 0
AskTrial words seed steps = Say words (Trial seed steps)

-- the words ask for a run over these two files
abbrev pub AskLanes : List (List ℕ) → Option (List ℕ) → LaneNames → Type 0
AskLanes words class files = Say words (Lanes class files)

-- the words ask for no run over two files
abbrev pub AskNoLanes : List (List ℕ) → Type 0
AskNoLanes words = (class : Option (List ℕ)) (files : LaneNames) → ¬ (AskLanes words class files)
