-- The shortest list of prefixes that has exactly the addresses of a span.
use Rattle.std.specs.Prelude.{◌≡◌, ℕ, zero, suc, ◌+◌, ◌-◌, ◌^◌, ◌%◌, ◌≤◌, ◌↔◌, ⊤, Bool, ◌&&◌, ◌||◌, nat_le}
use Rattle.std.specs.Prelude.{nat_lt, IsTrue, List, [], ◌∷◌, ◌++◌, length, min, if◌then◌else◌}
use Rattle.std.specs.List.{AllByRecursion, list_any}
use Rattle.ip_ranges.specs.Values.{SpanValue, PrefixValue, IsPrefix, width_of, size_at}
use Rattle.ip_ranges.specs.declared.covers.Part.{Part}
use Rattle.ip_ranges.specs.declared.covers.Part.TheVariants.{Nothing, Whole, Halves}

-- how many addresses a prefix has
abbrev pub size_of : PrefixValue → ℕ
size_of p = size_at p.family p.length

-- whether the number is that of one of the prefix's addresses
abbrev pub has : PrefixValue → ℕ → Bool
has p n = nat_le p.number n && nat_lt n (p.number + size_of p)

-- prefixes of the span's family whose numbers are exactly the span's
pub record IsMadeOf (s : SpanValue) (ps : List PrefixValue) : Type 0 where
  pub prefixes : AllByRecursion (λ p. IsPrefix p × (p.family ≡ s.family)) ps
  pub numbers : (n : ℕ) → IsTrue (list_any (λ p. has p n) ps) ↔ ((s.low ≤ n) × (n ≤ s.high))

-- no prefix begins before the one in front of it has ended, so they ascend and share no address
abbrev pub IsAscending : List PrefixValue → Type 0
IsAscending [] = ⊤
IsAscending (p ∷ []) = ⊤
IsAscending (p ∷ q ∷ rest) = (p.number + size_of p ≤ q.number) × IsAscending (q ∷ rest)

-- an ascending list of disjoint prefixes that has exactly the span's addresses, and no list of
-- prefixes that does is shorter
pub record IsCover (s : SpanValue) (ps : List PrefixValue) : Type 0 where
  pub made : IsMadeOf s ps
  pub ascending : IsAscending ps
  pub shortest : (qs : List PrefixValue) → IsMadeOf s qs → length ps ≤ length qs

-- the prefix of the 2^bits numbers from base on
abbrev pub block : SpanValue → ℕ → ℕ → PrefixValue
block s bits base = record { family = s.family; number = base; length = width_of s.family - bits }

-- whether the span has none of those numbers
abbrev pub is_apart : SpanValue → ℕ → ℕ → Bool
is_apart s bits base = nat_lt (base + (2 ^ bits - 1)) s.low || nat_lt s.high base

-- whether the span has all of them
abbrev pub is_inside : SpanValue → ℕ → ℕ → Bool
is_inside s bits base = nat_le s.low base && nat_le (base + (2 ^ bits - 1)) s.high

-- those of the numbers that the span has: none, all of them as one prefix, or those of the lower and
-- those of the upper half
unfoldable pub cover_within : SpanValue → ℕ → ℕ → List PrefixValue
cover_within s zero base = if is_apart s 0 base then [] else block s 0 base ∷ []
cover_within s (suc bits) base =
    if is_apart s (suc bits) base then []
    else (if is_inside s (suc bits) base then block s (suc bits) base ∷ []
    else cover_within s bits base ++ cover_within s bits (base + 2 ^ bits))

-- 2^bits numbers from base on are a block of the span's family
pub record IsPlaced (s : SpanValue) (bits base : ℕ) : Type 0 where
  pub bits_fit : bits ≤ width_of s.family
  pub numbers_fit : base + 2 ^ bits ≤ 2 ^ width_of s.family
  pub aligned : base % 2 ^ bits ≡ 0

-- the cover of a block is that of its halves
pub record IsHalved (s : SpanValue) (bits base half middle : ℕ) : Type 0 where
  pub halves : bits ≡ suc half
  pub upper : middle ≡ base + 2 ^ half
  pub cover : cover_within s bits base ≡ cover_within s half base ++ cover_within s half middle

-- what a part says of the cover of a block
abbrev pub IsPart : SpanValue → ℕ → ℕ → Part → Type 0
IsPart s bits base Nothing = cover_within s bits base ≡ []
IsPart s bits base (Whole prefix) = cover_within s bits base ≡ prefix ∷ []
IsPart s bits base (Halves half middle) = IsHalved s bits base half middle

-- the cover of a span: its part of all the family's numbers
unfoldable pub cover_of : SpanValue → List PrefixValue
cover_of s = cover_within s (width_of s.family) 0

-- the least of the prefixes' lengths
abbrev pub least_of : List PrefixValue → ℕ
least_of [] = 128
least_of (p ∷ ps) = min p.length (least_of ps)

-- the least length in the cover
unfoldable pub least_length_of : SpanValue → ℕ
least_length_of s = least_of (cover_of s)
