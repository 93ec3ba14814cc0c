-- The lengths of the prefixes that are advertised.
use Rattle.std.specs.Prelude.{ℕ, ◌≤◌}

abbrev pub IsLengthV4 : ℕ → Type 0
IsLengthV4 bits = (1 ≤ bits) × (bits ≤ 32)

abbrev pub IsLengthV6 : ℕ → Type 0
IsLengthV6 bits = bits ≤ 128
