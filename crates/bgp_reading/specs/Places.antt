-- Where the parts of UPDATE messages lie. What is read here is what stands at these places, and octets past the end count as 0; that
-- all octets are as they must be is seen by writing the parts again.
use Rattle.std.specs.Prelude.{ℕ, zero, suc, ◌+◌, ◌/◌, ◌%◌, Bool, ◌==◌, if◌then◌else◌, nat_le, List, [], ◌∷◌, take, drop, slice_index, Option, Some, None}
use Rattle.std.specs.Int.{w16, w32, w128, from_be_bytes}
use Rattle.std.specs.Ordering.{nat_cmp}
use Rattle.ip_ranges.specs.Values.{PrefixValue, masked, width_of}
use Rattle.ip_ranges.specs.declared.family.Family.{Family}
use Rattle.ip_ranges.specs.declared.family.Family.TheVariants.{V4, V6}
use Rattle.large_numbers.specs.Large.{large_cmp}
use Rattle.large_numbers.specs.declared.numbers.LargeCommunity.{LargeCommunity}
use Rattle.pool_config.specs.KeySets.{keys_with}
use Rattle.bgp_updates.specs.declared.route.Terms.{Terms}
use Rattle.bgp_updates.specs.declared.route.Peering.{Peering}

-- the number in two octets from a place on
abbrev pub short_at : ℕ → List ℕ → ℕ
short_at place bytes = from_be_bytes w16 (slice_index bytes place ∷ slice_index bytes (place + 1) ∷ [])

-- the number in four octets from a place on
abbrev pub number_at : ℕ → List ℕ → ℕ
number_at place bytes =
    from_be_bytes w32 (slice_index bytes place ∷ slice_index bytes (place + 1) ∷ slice_index bytes (place + 2) ∷ slice_index bytes (place + 3) ∷ [])

-- the number in the first sixteen octets
unfoldable pub wide_in : List ℕ → ℕ
wide_in bytes = from_be_bytes w128 bytes

-- ---- prefixes
-- the address whose first octets these are
abbrev pub address_in : Family → List ℕ → ℕ
address_in V4 octets = number_at 0 octets
address_in V6 octets = wide_in octets

-- the prefix of so many bits whose first octets these are, without bits past its length
abbrev pub prefix_in : Family → ℕ → List ℕ → PrefixValue
prefix_in family bits octets = masked (record { family = family; number = address_in family octets }) bits

-- Each prefix is its length, at most the family's width, and as few octets as hold it. The number counts the octets to come of a prefix
-- that has begun.
abbrev pub prefixes_behind : Family → ℕ → List ℕ → List PrefixValue
prefixes_behind family zero [] = []
prefixes_behind family zero (bits ∷ rest) =
    if nat_le bits (width_of family)
    then prefix_in family bits (take ((bits + 7) / 8) rest) ∷ prefixes_behind family ((bits + 7) / 8) rest
    else []
prefixes_behind family (suc left) [] = []
prefixes_behind family (suc left) (octet ∷ rest) = prefixes_behind family left rest

abbrev pub prefixes_in : Family → List ℕ → List PrefixValue
prefixes_in family bytes = prefixes_behind family 0 bytes

-- ---- communities
-- numbers of four octets each
abbrev pub numbers_in : List ℕ → List ℕ
numbers_in (a ∷ b ∷ c ∷ d ∷ rest) = from_be_bytes w32 (a ∷ b ∷ c ∷ d ∷ []) ∷ numbers_in rest
numbers_in (a ∷ b ∷ c ∷ []) = []
numbers_in (a ∷ b ∷ []) = []
numbers_in (a ∷ []) = []
numbers_in [] = []

-- the same, ascending, each once
abbrev pub ascending_in : List ℕ → List ℕ
ascending_in bytes = keys_with nat_cmp [] (numbers_in bytes)

-- three numbers are a large community
abbrev pub by_threes : List ℕ → List LargeCommunity
by_threes (a ∷ b ∷ c ∷ rest) = record { global = a; first = b; second = c } ∷ by_threes rest
by_threes (a ∷ b ∷ []) = []
by_threes (a ∷ []) = []
by_threes [] = []

-- large communities, ascending, each once
abbrev pub larges_in : List ℕ → List LargeCommunity
larges_in bytes = keys_with large_cmp [] (by_threes (numbers_in bytes))

-- ---- path attributes
-- whether the octets begin with an attribute of the type
abbrev pub is_of_type : ℕ → List ℕ → Bool
is_of_type kind rest = slice_index rest 1 == kind

-- whether its length has two octets, by the flag of the extended length (RFC 4271, section 4.3)
abbrev pub is_extended : List ℕ → Bool
is_extended rest = slice_index rest 0 / 16 % 2 == 1

-- the value's length, and what follows that
abbrev pub value_size : List ℕ → ℕ
value_size rest = if is_extended rest then short_at 2 rest else slice_index rest 2

abbrev pub behind_size : List ℕ → List ℕ
behind_size rest = if is_extended rest then drop 4 rest else drop 3 rest

-- the value of the attribute of this type with which the octets begin, and no octets where they begin with another one
unfoldable pub value_at : ℕ → List ℕ → List ℕ
value_at kind rest = if is_of_type kind rest then take (value_size rest) (behind_size rest) else []

-- what follows this attribute, where they begin with it
unfoldable pub behind_at : ℕ → List ℕ → List ℕ
behind_at kind rest = if is_of_type kind rest then drop (value_size rest) (behind_size rest) else rest

-- AS_PATH, the second one, is empty inside one AS; else the own number stands after its segment's type and count.
abbrev pub own_in : List ℕ → Option ℕ
own_in attributes = if slice_index attributes 6 == 0 then None else Some (number_at 9 attributes)

-- what follows AS_PATH: its length is the seventh octet of the attributes
abbrev pub behind_path : List ℕ → List ℕ
behind_path attributes = drop (7 + slice_index attributes 6) attributes

-- NEXT_HOP is behind it, of IPv4 alone
abbrev pub next_hop_in : Family → List ℕ → ℕ
next_hop_in V4 path = number_at 3 path
next_hop_in V6 path = 0

abbrev pub behind_hop : Family → List ℕ → List ℕ
behind_hop V4 path = drop 7 path
behind_hop V6 path = path

-- LOCAL_PREF is behind that, inside one AS alone
abbrev pub preference_in : Option ℕ → List ℕ → Option ℕ
preference_in None rest = Some (number_at 3 rest)
preference_in (Some own) rest = None

abbrev pub behind_preference : Option ℕ → List ℕ → List ℕ
behind_preference None rest = drop 7 rest
behind_preference (Some own) rest = rest

-- what follows it: COMMUNITIES, MP_REACH_NLRI and LARGE_COMMUNITY, each where it is there
abbrev pub optional_in : Family → List ℕ → List ℕ
optional_in family attributes = behind_preference (own_in attributes) (behind_hop family (behind_path attributes))

-- COMMUNITIES (RFC 1997)
abbrev pub communities_in : List ℕ → List ℕ
communities_in rest = ascending_in (value_at 8 rest)

-- the value of MP_REACH_NLRI (RFC 4760, section 3): family, next hop after its length, a reserved octet, prefixes
abbrev pub reach_in : List ℕ → List ℕ
reach_in rest = value_at 14 (behind_at 8 rest)

-- its next hop, of IPv6 alone
abbrev pub next_hop_v6_in : Family → List ℕ → ℕ
next_hop_v6_in V4 rest = 0
next_hop_v6_in V6 rest = wide_in (drop 4 (reach_in rest))

-- LARGE_COMMUNITY (RFC 8092)
abbrev pub large_in : List ℕ → List LargeCommunity
large_in rest = larges_in (value_at 32 (behind_at 14 (behind_at 8 rest)))

-- what the attributes tell of the sender
unfoldable pub sender_in : Family → List ℕ → Peering
sender_in family attributes = record {
  own = own_in attributes;
  next_hop = next_hop_in family (behind_path attributes);
  next_hop_v6 = next_hop_v6_in family (optional_in family attributes);
}

-- what they tell of the prefixes
unfoldable pub terms_in : Family → List ℕ → Terms
terms_in family attributes = record {
  preference = preference_in (own_in attributes) (behind_hop family (behind_path attributes));
  communities = communities_in (optional_in family attributes);
  large = large_in (optional_in family attributes);
}
