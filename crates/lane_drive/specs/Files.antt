-- What contracts see of files.
use Rattle.std.specs.Prelude.{ℕ, List}

pub record FilesState : Type 0 where
  -- the names whose opening failed
  pub failed_opens : List (List ℕ)
  -- the names of those whose reading failed
  pub failed_reads : List (List ℕ)

-- files that tell this
abbrev pub files_state : List (List ℕ) → List (List ℕ) → FilesState
files_state opens reads = record { failed_opens = opens; failed_reads = reads }
