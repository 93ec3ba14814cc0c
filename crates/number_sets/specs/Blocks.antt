-- Numbers in blocks of 256.
use Rattle.std.specs.Prelude.{◌≡◌, ◌==◌, ◌%◌, ◌||◌, ◌&&◌, not, ℕ, Bool, true}
use Rattle.number_sets.specs.Runs.{RunsValue, has}

-- the number is the first or the last of its block
abbrev pub is_edge : ℕ → Bool
is_edge n = (n % 256 == 0) || (n % 256 == 255)

-- the number isn't in the set, and no edge where it is sought inside blocks
abbrev pub is_open : Bool → RunsValue → ℕ → Bool
is_open inside s n = not (inside && is_edge n) && not (has s n)

-- each number of the set passes
abbrev pub IsLeft : (ℕ → Bool) → RunsValue → Type 0
IsLeft test s = (n : ℕ) → has s n ≡ true → test n ≡ true

-- each closed number is in the set or an edge
abbrev pub AreClosed : RunsValue → RunsValue → Type 0
AreClosed numbers closed = IsLeft (λ n. is_edge n || has numbers n) closed
