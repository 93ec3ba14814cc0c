-- What contracts see of a source, and of what surrounds a reconciler.
use Rattle.std.specs.Prelude.{ℕ, Bool, false, List, Option}
use Rattle.mlb_edge.specs.Reading.{Reading}

-- a source
pub record SourceState : Type 0 where
  -- the bytes not yet read, where it tells them
  pub left : Option (List ℕ)
  -- the text that no read changes, where it has one
  pub name : Option (List ℕ)
  -- how often reading has failed
  pub faults : ℕ
  -- it is known that no read fails
  pub unfailing : Bool

-- a source that tells this, and of which any read may fail
abbrev pub source_state : Option (List ℕ) → Option (List ℕ) → ℕ → SourceState
source_state left name faults = record { left = left; name = name; faults = faults; unfailing = false }

-- a source that tells this, and whether it is known that no read fails
abbrev pub lane_state : Option (List ℕ) → Option (List ℕ) → ℕ → Bool → SourceState
lane_state left name faults unfailing = record { left = left; name = name; faults = faults; unfailing = unfailing }

-- the replies that a reconciler reads, and the sink that it writes to
pub record Outside : Type 0 where
  -- how far the reader of the replies has come
  pub reading : Reading
  -- the source of the replies
  pub replies : SourceState
  -- the bytes written, where the sink tells them
  pub written : Option (List ℕ)
  -- how often writing has failed
  pub faults : ℕ

-- a reader, its source, and a sink that tells this
abbrev pub outside : Reading → SourceState → Option (List ℕ) → ℕ → Outside
outside reading replies written faults = record { reading = reading; replies = replies; written = written; faults = faults }
