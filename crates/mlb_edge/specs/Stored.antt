-- What files in memory are.
use Rattle.std.specs.Prelude.{ℕ, List}
use Rattle.mlb_edge.specs.Memory.{Reads}

-- a file: its name, its bytes, how many of them a read gives at most, and the numbers of the reads that fail
pub record Stored : Type 0 where
  pub name : List ℕ
  pub bytes : List ℕ
  pub piece : ℕ
  pub failing : List ℕ

-- a file that is open: its name and what is left of it
pub record Opened : Type 0 where
  pub name : List ℕ
  pub reads : Reads

-- all the files, the newest first
pub record Shelf : Type 0 where
  pub files : List Stored
  -- the numbers of the openings that fail, from 1
  pub failing : List ℕ
  -- how many openings there have been
  pub calls : ℕ
  -- the names whose opening failed, and those whose reading failed
  pub failed_opens : List (List ℕ)
  pub failed_reads : List (List ℕ)
