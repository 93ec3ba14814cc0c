-- The checksum of the Internet protocols (RFC 1071), for ICMPv6 (RFC 4443, section 2.3).
use Rattle.std.specs.Prelude.{ℕ, ◌+◌, ◌*◌, ◌/◌, ◌%◌, List, [], ◌∷◌, ◌++◌, length}
use Rattle.std.specs.Int.{w32, to_be_bytes}

-- the ones' complement sum of two 16-bit numbers: the carry comes back in
abbrev pub plus : ℕ → ℕ → ℕ
plus a b = (a + b) % 0x1_0000 + (a + b) / 0x1_0000

-- the bytes as 16-bit numbers, high first, added to a sum; an odd last byte is a high one
abbrev pub sum_from : ℕ → List ℕ → ℕ
sum_from sum [] = sum
sum_from sum (last ∷ []) = plus sum (last * 256)
sum_from sum (high ∷ low ∷ rest) = sum_from (plus sum (high * 256 + low)) rest

-- the ones' complement sum of the bytes
abbrev pub ones_sum : List ℕ → ℕ
ones_sum bytes = sum_from 0 bytes

-- a message after its pseudo header: the source and the destination, its length, three zeros and the next header 58 (RFC 8200,
-- section 8.1)
abbrev pub with_pseudo_header : List ℕ → List ℕ → List ℕ
with_pseudo_header addresses message =
    addresses ++ (to_be_bytes w32 (length message) ++ ((0 ∷ 0 ∷ 0 ∷ 58 ∷ []) ++ message))
