-- What the words of the command line ask for: none for a run that answers reviews, `--explain` for one that says what each line is read as.
use Rattle.std.specs.Prelude.{◌≡◌, ◌⊎◌, ℕ, List, [], ◌∷◌, Option, Some, None, codes, if◌then◌else◌}
use Rattle.std.specs.Str.{bytes_eq}
use Rattle.pool_config.specs.Objects.{no_objects}
use Rattle.admit_run.specs.declared.work.Work.{Work}
use Rattle.admit_run.specs.declared.work.Work.TheVariants.{Judging, Explaining}

abbrev pub AskAnswers : List (List ℕ) → Type 0
AskAnswers words = words ≡ []

abbrev pub AskExplained : List (List ℕ) → Type 0
AskExplained words = words ≡ codes "--explain" ∷ []

-- the words of the table
abbrev pub AreKnown : List (List ℕ) → Type 0
AreKnown words = AskAnswers words ⊎ AskExplained words

-- what a run begins with that known words ask for; no object is held yet
abbrev pub begun_by : List (List ℕ) → Work
begun_by [] = Judging no_objects
begun_by (word ∷ more) = Explaining

-- ---- the same as a function of the words

abbrev pub explained_by : List ℕ → Option Work
explained_by word = if bytes_eq word (codes "--explain") then Some Explaining else None

abbrev pub asked_by : List (List ℕ) → Option Work
asked_by [] = Some (Judging no_objects)
asked_by (word ∷ []) = explained_by word
asked_by (word ∷ other ∷ more) = None
