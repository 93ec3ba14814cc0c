-- The checksum of RFC 1071 as a plain sum.
use Rattle.std.specs.Prelude.{◌≡◌, ◌≢◌, ◌↔◌, ◌≤◌, ◌<◌, ℕ, ◌+◌, ◌*◌, ◌%◌, List, [], ◌∷◌, length, slice_index, slice_range}
use Rattle.std.specs.List.{AllByRecursion}
use Rattle.neigh_frames.specs.Checksum.{ones_sum}
use Rattle.neigh_frames.specs.Solicitation.{HasRightChecksum}

-- the sum of the octets as 16-bit numbers, high first; an odd last octet is a high one
abbrev pub plain_sum : List ℕ → ℕ
plain_sum [] = 0
plain_sum (last ∷ []) = last * 0x100
plain_sum (high ∷ low ∷ rest) = (high * 0x100 + low) + plain_sum rest

-- it is a multiple of 65,535, and not 0
abbrev pub IsMultiple : ℕ → Type 0
IsMultiple sum = (sum % 65535 ≡ 0) × (sum ≢ 0)

abbrev pub AreOctets : List ℕ → Type 0
AreOctets octets = AllByRecursion (λ octet. octet < 0x100) octets

abbrev pub ChecksumsArePlainSums : Type 0
ChecksumsArePlainSums = (octets : List ℕ) → AreOctets octets → (ones_sum octets ≡ 0xffff) ↔ IsMultiple (plain_sum octets)

-- how many octets are after the IPv6 header, by the two at 18
abbrev pub message_length : List ℕ → ℕ
message_length frame = slice_index frame 18 * 0x100 + slice_index frame 19

-- the sum over the addresses, at 22 and 38, the message's length, the next header 58, and the message, at 54
abbrev pub summed : List ℕ → ℕ
summed frame = ((plain_sum (slice_range frame 22 54) + message_length frame) + 58) + plain_sum (slice_range frame 54 (54 + message_length frame))

abbrev pub FramesAreSummed : Type 0
FramesAreSummed = (frame : List ℕ) → AreOctets frame → 54 + message_length frame ≤ length frame → HasRightChecksum frame ↔ IsMultiple (summed frame)
