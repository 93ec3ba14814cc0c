-- What a message says, computed: the parts are read where they lie, written again and compared.
use Rattle.std.specs.Prelude.{ℕ, ◌+◌, Bool, true, ◌==◌, ◌&&◌, if◌then◌else◌, nat_le, List, [], ◌∷◌, length, take, drop, slice_index, Option, Some, None}
use Rattle.std.specs.Str.{bytes_eq}
use Rattle.ip_ranges.specs.declared.family.Family.{Family}
use Rattle.ip_ranges.specs.declared.family.Family.TheVariants.{V4, V6}
use Rattle.ip_ranges.specs.Values.{PrefixValue}
use Rattle.bgp_updates.specs.declared.route.Terms.{Terms}
use Rattle.bgp_updates.specs.declared.route.Peering.{Peering}
use Rattle.bgp_updates.specs.Message.{announce_message, withdraw_message}
use Rattle.bgp_updates.specs.Tables.{before}
use Rattle.bgp_reading.specs.declared.parts.UpdateParts.{UpdateParts}
use Rattle.bgp_reading.specs.Places.{optional_in, prefixes_in, reach_in, sender_in, short_at, terms_in, value_at}

-- it is the first, or the last one comes before it
abbrev pub comes_behind : Option PrefixValue → PrefixValue → Bool
comes_behind None q = true
comes_behind (Some p) q = before p q

-- each after the one before
abbrev pub follow : Option PrefixValue → List PrefixValue → Bool
follow last [] = true
follow last (q ∷ rest) = comes_behind last q && follow (Some q) rest

-- at least one prefix, and each after the one before
abbrev pub are_prefixes : List PrefixValue → Bool
are_prefixes prefixes = nat_le 1 (length prefixes) && follow None prefixes

-- after no withdrawn routes the attributes have their length at 21
abbrev pub attributes_in : List ℕ → List ℕ
attributes_in bytes = take (short_at 21 bytes) (drop 23 bytes)

-- ---- withdrawn routes alone
abbrev pub withdrawn_parts : List PrefixValue → UpdateParts
withdrawn_parts prefixes = record { withdrawn = prefixes; communities = []; large = []; preference = None; announced = [] }

-- the withdrawn routes are after their length in two octets, at 19, or after the family in MP_UNREACH_NLRI (RFC 4760, section 4)
abbrev pub withdrawn_octets : Family → List ℕ → List ℕ
withdrawn_octets V4 bytes = take (short_at 19 bytes) (drop 21 bytes)
withdrawn_octets V6 bytes = drop 3 (value_at 15 (attributes_in bytes))

abbrev pub withdrawn_in : Family → List ℕ → List PrefixValue
withdrawn_in family bytes = prefixes_in family (withdrawn_octets family bytes)

unfoldable pub are_withdrawn : Family → List ℕ → List PrefixValue → Bool
are_withdrawn family bytes prefixes = are_prefixes prefixes && bytes_eq (withdraw_message family prefixes) bytes

unfoldable pub withdrawal_of : Family → List ℕ → Option UpdateParts
withdrawal_of family bytes =
    if are_withdrawn family bytes (withdrawn_in family bytes) then Some (withdrawn_parts (withdrawn_in family bytes)) else None

-- ---- one group of announced routes
abbrev pub announced_parts : Terms → List PrefixValue → UpdateParts
announced_parts terms prefixes =
    record { withdrawn = []; communities = terms.communities; large = terms.large; preference = terms.preference; announced = prefixes }

-- the announced prefixes are after the attributes, or after the next hop and the reserved octet in MP_REACH_NLRI
abbrev pub announced_octets : Family → List ℕ → List ℕ
announced_octets V4 bytes = drop (short_at 21 bytes) (drop 23 bytes)
announced_octets V6 bytes = drop 21 (reach_in (optional_in V6 (attributes_in bytes)))

abbrev pub announced_in : Family → List ℕ → List PrefixValue
announced_in family bytes = prefixes_in family (announced_octets family bytes)

unfoldable pub are_announced : Family → List ℕ → Peering → Terms → List PrefixValue → Bool
are_announced family bytes sender terms prefixes = are_prefixes prefixes && bytes_eq (announce_message family sender terms prefixes) bytes

abbrev pub announcement_by : Family → List ℕ → Peering → Terms → List PrefixValue → Option UpdateParts
announcement_by family bytes sender terms prefixes =
    if are_announced family bytes sender terms prefixes then Some (announced_parts terms prefixes) else None

unfoldable pub announcement_of : Family → List ℕ → Option UpdateParts
announcement_of family bytes =
    announcement_by family bytes (sender_in family (attributes_in bytes)) (terms_in family (attributes_in bytes)) (announced_in family bytes)

-- ---- either, of either family
-- announced prefixes of IPv4 are after the attributes, and after those of IPv6 there is nothing
abbrev pub announced_family : List ℕ → Family
announced_family bytes = if nat_le (length bytes) (23 + short_at 21 bytes) then V6 else V4

-- the type of the first attribute, the 25th octet, is that of MP_UNREACH_NLRI where routes of IPv6 are withdrawn
abbrev pub attributes_say : List ℕ → Option UpdateParts
attributes_say bytes = if slice_index bytes 24 == 15 then withdrawal_of V6 bytes else announcement_of (announced_family bytes) bytes

abbrev pub update_of : List ℕ → Option UpdateParts
update_of bytes =
    if nat_le (length bytes) 4096 then (if short_at 19 bytes == 0 then attributes_say bytes else withdrawal_of V4 bytes) else None
