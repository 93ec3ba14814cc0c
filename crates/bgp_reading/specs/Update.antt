-- What an UPDATE message says (RFC 4271, section 4.3; RFC 4760; RFC 8092), in the two forms that are read of each family.
use Rattle.std.specs.Prelude.{ℕ, ◌≡◌, ◌<◌, ◌≤◌, ◌^◌, ◌⊎◌, List, [], length, None, IfSome, is_some, is_none}
use Rattle.std.specs.List.{AllByRecursion}
use Rattle.std.specs.List.Sorted.{IsStrictlySortedBy}
use Rattle.std.specs.Ordering.{nat_cmp}
use Rattle.ip_ranges.specs.declared.family.Family.{Family}
use Rattle.ip_ranges.specs.Values.{PrefixValue, IsPrefix}
use Rattle.large_numbers.specs.Large.{large_cmp}
use Rattle.large_numbers.specs.declared.numbers.LargeCommunity.{LargeCommunity}
use Rattle.bgp_updates.specs.declared.route.Terms.{Terms}
use Rattle.bgp_updates.specs.declared.route.Peering.{Peering}
use Rattle.bgp_updates.specs.Message.{announce_message, withdraw_message}
use Rattle.bgp_updates.specs.Tables.{Ascend}
use Rattle.bgp_reading.specs.declared.parts.UpdateParts.{UpdateParts}

-- a prefix of the family, without bits past its length
pub record IsOf (family : Family) (p : PrefixValue) : Type 0 where
  pub own : p.family ≡ family
  pub is : IsPrefix p

-- at least one prefix of the family, without bits past their length, ascending and so distinct
pub record ArePrefixes (family : Family) (prefixes : List PrefixValue) : Type 0 where
  pub some : 0 < length prefixes
  pub of_family : AllByRecursion (IsOf family) prefixes
  pub ascend : Ascend prefixes

-- the parts are withdrawn routes of the family alone, and these are their octets
pub record IsWithdrawal (family : Family) (parts : UpdateParts) (bytes : List ℕ) : Type 0 where
  pub withdrawn : ArePrefixes family parts.withdrawn
  pub communities : parts.communities ≡ []
  pub large : parts.large ≡ []
  pub preference : parts.preference ≡ None
  pub announced : parts.announced ≡ []
  pub octets : bytes ≡ withdraw_message family parts.withdrawn

-- what the announced prefixes have in common
abbrev pub terms_of : UpdateParts → Terms
terms_of parts = record { preference = parts.preference; communities = parts.communities; large = parts.large }

-- the three numbers of a large community have 32 bits
pub record IsLarge (c : LargeCommunity) : Type 0 where
  pub global : c.global < 2 ^ 32
  pub first : c.first < 2 ^ 32
  pub second : c.second < 2 ^ 32

-- what the types of a sender and of terms hold: numbers have 32 bits, the IPv6 next hop 128, and communities ascend and so are distinct
pub record AreValues (sender : Peering) (terms : Terms) : Type 0 where
  pub own : IfSome sender.own (λ n. n < 2 ^ 32)
  pub next_hop : sender.next_hop < 2 ^ 32
  pub next_hop_v6 : sender.next_hop_v6 < 2 ^ 128
  pub preference : IfSome terms.preference (λ n. n < 2 ^ 32)
  pub communities : AllByRecursion (λ n. n < 2 ^ 32) terms.communities
  pub ascending : IsStrictlySortedBy nat_cmp terms.communities
  pub large : AllByRecursion IsLarge terms.large
  pub large_ascending : IsStrictlySortedBy large_cmp terms.large

-- a preference is there exactly inside one AS
abbrev pub IsTold : Peering → Terms → Type 0
IsTold sender terms = is_some terms.preference ≡ is_none sender.own

-- The parts are one group of announced routes of the family, and these are their octets from some sender, with the attributes ascending
-- by type.
pub record IsAnnouncement (family : Family) (parts : UpdateParts) (bytes : List ℕ) : Type 0 where
  pub sender : Peering
  pub values : AreValues sender (terms_of parts)
  pub told : IsTold sender (terms_of parts)
  pub announced : ArePrefixes family parts.announced
  pub withdrawn : parts.withdrawn ≡ []
  pub octets : bytes ≡ announce_message family sender (terms_of parts) parts.announced

-- the octets, at most 4,096 (RFC 4271, section 4.1), are a message of one family that says the parts
pub record IsUpdate (parts : UpdateParts) (bytes : List ℕ) : Type 0 where
  pub family : Family
  pub form : IsWithdrawal family parts bytes ⊎ IsAnnouncement family parts bytes
  pub short : length bytes ≤ 4096

-- withdrawn routes of one family alone
abbrev pub IsWithdrawnIn : List ℕ → Type 0
IsWithdrawnIn bytes =
    (family : Family) × (prefixes : List PrefixValue) × ArePrefixes family prefixes × (bytes ≡ withdraw_message family prefixes)

-- one group of announced routes of one family, with the sender's AS number and next hop
abbrev pub IsAnnouncedBy : Peering → List ℕ → Type 0
IsAnnouncedBy sender bytes =
    (family : Family) × (terms : Terms) × (prefixes : List PrefixValue) × AreValues sender terms × IsTold sender terms × ArePrefixes family prefixes
    × (bytes ≡ announce_message family sender terms prefixes)

-- the octets, at most 4,096 (RFC 4271, section 4.1), are one message of this sender
pub record IsMessageOf (sender : Peering) (bytes : List ℕ) : Type 0 where
  pub form : IsWithdrawnIn bytes ⊎ IsAnnouncedBy sender bytes
  pub short : length bytes ≤ 4096
