-- Lists of runs of numbers.
use Rattle.std.specs.Prelude.{◌≡◌, ◌≤◌, ◌<◌, ◌+◌, ◌-◌, ◌==◌, ◌&&◌, ℕ, nat_le, Bool, true, false, if◌then◌else◌, List, [], ◌∷◌, length, take, slice_index, ⊤}
use Rattle.std.specs.List.{list_any}
use Rattle.std.specs.List.Sorted.{IsPartitionPoint}
use Rattle.number_sets.specs.declared.runs.Run.{Run}

-- the number is in the run
abbrev pub is_in_run : ℕ → Run → Bool
is_in_run n run = nat_le run.first n && nat_le n run.last

-- some run contains the number
abbrev pub has_number : List Run → ℕ → Bool
has_number runs n = list_any (is_in_run n) runs

-- the runs ascend from this number on, none is empty, and between two a number is absent
abbrev pub AreRunsFrom : ℕ → List Run → Type 0
AreRunsFrom low [] = ⊤
AreRunsFrom low (run ∷ runs) = (low ≤ run.first) × (run.first ≤ run.last) × AreRunsFrom (run.last + 2) runs

-- how many numbers the runs contain
abbrev pub count_numbers : List Run → ℕ
count_numbers [] = 0
count_numbers (run ∷ runs) = (run.last + 1 - run.first) + count_numbers runs

-- for each run up to this index there is the count of the numbers in the runs before it
abbrev pub AreCountedTo : ℕ → List Run → List ℕ → Type 0
AreCountedTo end runs before = (k : ℕ) → k < end → slice_index before k ≡ count_numbers (take k runs)

-- The runs hold so many numbers, for each there is the count of those before it, and the memory is enough for as many runs.
pub record AreHeld (runs : List Run) (before : List ℕ) (count capacity : ℕ) : Type 0 where
  pub apart : AreRunsFrom 0 runs
  pub counted : count ≡ count_numbers runs
  pub within : count ≤ capacity
  pub each : length before ≡ length runs
  pub ahead : AreCountedTo (length runs) runs before

-- in front of the index the runs end below the number, and from the index on they don't
abbrev pub IsFirstFrom : ℕ → List Run → ℕ → Type 0
IsFirstFrom n runs index = IsPartitionPoint (λ run. run.last < n) (λ run. n ≤ run.last) runs index

-- The index is that of the first run that ends at the number or after it.
pub record IsFound (n : ℕ) (runs : List Run) (index : ℕ) : Type 0 where
  pub apart : AreRunsFrom 0 runs
  pub point : IsFirstFrom n runs index
  pub within : index ≤ length runs

-- The old runs, but for the number n, which the new ones contain or not, as the flag says. They ascend from low on.
pub record IsSetTo (low n : ℕ) (flag : Bool) (old new : List Run) : Type 0 where
  pub has : (m : ℕ) → has_number new m ≡ (if m == n then flag else has_number old m)
  pub apart : AreRunsFrom low new
  pub counted : count_numbers new + (if has_number old n then 1 else 0) ≡ count_numbers old + (if flag then 1 else 0)

-- From the number on the runs contain all numbers up to the end of this run, and no further.
pub record IsRunOf (runs : List Run) (n : ℕ) (run : Run) : Type 0 where
  pub within : n ≤ run.last
  pub all : (m : ℕ) → n ≤ m → m ≤ run.last → has_number runs m ≡ true
  pub behind : has_number runs (run.last + 1) ≡ false
