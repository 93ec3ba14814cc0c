-- What is left of a claim in the index once it was removed.
use Rattle.std.specs.Prelude.{ℕ, ◌==◌, not, List, filter, if◌then◌else◌}
use Rattle.ip_ranges.specs.Values.{AddressValue, has_address}

-- the other numbers
abbrev pub all_but : ℕ → List ℕ → List ℕ
all_but n numbers = filter (λ m. not (m == n)) numbers

-- the numbers at an address once this one was taken out at each of these addresses
abbrev pub left_at : ℕ → List AddressValue → (AddressValue → List ℕ) → AddressValue → List ℕ
left_at n addresses numbers a = if has_address addresses a then all_but n (numbers a) else numbers a
