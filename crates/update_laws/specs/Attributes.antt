-- Path attributes in general, read by RFC 4271, section 4.3 alone: no definition of those who write messages is used here.
use Rattle.std.specs.Prelude.{ℕ, zero, suc, ◌+◌, ◌*◌, ◌/◌, ◌%◌, ◌==◌, Bool, if◌then◌else◌, nat_le, List, []}
use Rattle.std.specs.Prelude.{◌∷◌, length, take, drop, slice_index, Option, Some, None}
use Rattle.std.specs.Option.{option_map}

-- flags, a type code and a value
pub record Attribute : Type 0 where
  pub flags : ℕ
  pub code : ℕ
  pub value : List ℕ

-- the Extended Length bit, the fourth from the high end of the flags: the length has two octets, and not one
abbrev pub is_extended : ℕ → Bool
is_extended flags = flags / 0x10 % 2 == 1

-- an attribute whose value has so many octets, and what is read after it
abbrev pub value_then : (List ℕ → Option (List Attribute)) → ℕ → ℕ → ℕ → List ℕ → Option (List Attribute)
value_then read flags code size octets =
    if nat_le size (length octets)
    then option_map (λ more. record { flags = flags; code = code; value = take size octets } ∷ more) (read (drop size octets))
    else None

-- the same, after a length of one octet
abbrev pub short_then : (List ℕ → Option (List Attribute)) → ℕ → ℕ → List ℕ → Option (List Attribute)
short_then read flags code [] = None
short_then read flags code (size ∷ octets) = value_then read flags code size octets

-- the same, after one of two octets
abbrev pub long_then : (List ℕ → Option (List Attribute)) → ℕ → ℕ → List ℕ → Option (List Attribute)
long_then read flags code [] = None
long_then read flags code (high ∷ []) = None
long_then read flags code (high ∷ low ∷ octets) = value_then read flags code (high * 0x100 + low) octets

-- at most so many attributes, one after the other; `None` where the octets aren't that
abbrev pub attributes_within : ℕ → List ℕ → Option (List Attribute)
attributes_within most [] = Some []
attributes_within zero (flags ∷ rest) = None
attributes_within (suc most) (flags ∷ []) = None
attributes_within (suc most) (flags ∷ code ∷ rest) =
    if is_extended flags
    then long_then (attributes_within most) flags code rest
    else short_then (attributes_within most) flags code rest

-- the attributes that the octets are
abbrev pub attributes_in : List ℕ → Option (List Attribute)
attributes_in octets = attributes_within (length octets) octets

-- ---- where they lie in an UPDATE message: after the header of 19 octets come the withdrawn routes and then the path attributes, each
-- part after its length, and the announced prefixes to the end
abbrev pub two_octets : List ℕ → ℕ → ℕ
two_octets octets place = slice_index octets place * 0x100 + slice_index octets (place + 1)

abbrev pub behind_withdrawn : List ℕ → List ℕ
behind_withdrawn message = drop (two_octets message 19) (drop 21 message)

unfoldable pub withdrawn_octets : List ℕ → List ℕ
withdrawn_octets message = take (two_octets message 19) (drop 21 message)

unfoldable pub attribute_octets : List ℕ → List ℕ
attribute_octets message = take (two_octets (behind_withdrawn message) 0) (drop 2 (behind_withdrawn message))

unfoldable pub announced_octets : List ℕ → List ℕ
announced_octets message = drop (two_octets (behind_withdrawn message) 0) (drop 2 (behind_withdrawn message))
