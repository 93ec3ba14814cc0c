-- A device after an adapter.
use Rattle.std.specs.Prelude.{ℕ, List, take, Option, Result, MatchResult}
use Rattle.std.specs.Io.KnownBytes.{Appends}

-- the device, and how often it has failed
pub record Counted (D : Type 0) : Type 0 where
  pub device : D
  pub faults : ℕ

-- the same, under the name that it was opened by
pub record NamedDevice (D : Type 0) : Type 0 where
  pub name : List ℕ
  pub counted : Counted D

-- What the writer holds has grown by the bytes taken, at Ok(n) the first n of the piece, and at Err by some beginning of it.
abbrev pub AppendsTaken : {E : Type 0} → Option (List ℕ) → Option (List ℕ) → Result ℕ E → List ℕ → Type 0
AppendsTaken old new result piece = MatchResult result (λ n. Appends old new (take n piece)) (λ _. (n : ℕ) × Appends old new (take n piece))
