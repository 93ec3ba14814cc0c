-- The least number of a range that passes a test.
use Rattle.std.specs.Prelude.{◌≡◌, ◌≤◌, ◌<◌, ℕ, Bool, true, false}

-- n is the least number from low to high that passes
abbrev pub IsLeastIn : (ℕ → Bool) → ℕ → ℕ → ℕ → Type 0
IsLeastIn test low high n = (low ≤ n) × (n ≤ high) × (test n ≡ true) × ((m : ℕ) → low ≤ m → m < n → test m ≡ false)

-- no number from low to high passes
abbrev pub NonePasses : (ℕ → Bool) → ℕ → ℕ → Type 0
NonePasses test low high = (m : ℕ) → low ≤ m → m ≤ high → test m ≡ false
