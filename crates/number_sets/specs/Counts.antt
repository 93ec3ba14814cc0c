-- How many numbers pass a test.
use Rattle.std.specs.Prelude.{◌+◌, ℕ, zero, suc, Bool, ◌&&◌, not, if◌then◌else◌}
use Rattle.number_sets.specs.Runs.{RunsValue, has}

-- how many of the numbers below m pass
abbrev pub count_below : (ℕ → Bool) → ℕ → ℕ
count_below test zero = 0
count_below test (suc m) = (if test m then 1 else 0) + count_below test m

-- the number is in the one set and not in the other
abbrev pub is_beyond : RunsValue → RunsValue → ℕ → Bool
is_beyond s t n = has s n && not (has t n)
