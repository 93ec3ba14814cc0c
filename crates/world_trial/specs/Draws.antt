-- The numbers that are drawn: SplitMix64 (Steele, Lea and Flood, 2014). A state is a number of 64 bits.
use Rattle.std.specs.Prelude.{ℕ, zero, suc, ◌+◌, ◌*◌, ◌/◌, ◌%◌, ◌^◌, List, [], ◌∷◌, bit_xor}

-- the state that a draw leaves
abbrev pub next_state : ℕ → ℕ
next_state s = (s + 0x9E3779B97F4A7C15) % 2 ^ 64

-- the number, mixed with itself so many places lower, times the factor
abbrev pub mixed : ℕ → ℕ → ℕ → ℕ
mixed places factor z = bit_xor z (z / 2 ^ places) * factor % 2 ^ 64

-- what is drawn in a state
unfoldable pub drawn : ℕ → ℕ
drawn s =
    let z = mixed 27 0x94D049BB133111EB (mixed 30 0xBF58476D1CE4E5B9 (next_state s)) in
    bit_xor z (z / 2 ^ 31)

-- the first so many draws of a state
abbrev pub draws : ℕ → ℕ → List ℕ
draws s zero = []
draws s (suc n) = drawn s ∷ draws (next_state s) n
