-- Messages of IPv4 alone, without large communities, by RFC 4271 and RFC 1997.
use Rattle.std.specs.Prelude.{◌≡◌, ℕ, ◌*◌, ◌-◌, Bool, ◌&&◌, ◌==◌, if◌then◌else◌, nat_le, List, [], ◌∷◌, ◌++◌, length, map, All}
use Rattle.std.specs.Int.{w16, w32, to_be_bytes}
use Rattle.std.specs.List.{flat_map}
use Rattle.std.specs.Map.{keys_of}
use Rattle.std.specs.Str.{bytes_eq}
use Rattle.ip_ranges.specs.declared.family.Family.TheVariants.{V4}
use Rattle.ip_ranges.specs.Values.{PrefixValue}
use Rattle.bgp_updates.specs.declared.route.RouteGroup.{RouteGroup}
use Rattle.bgp_updates.specs.declared.route.Peering.{Peering}
use Rattle.bgp_updates.specs.declared.route.Terms.{Terms}
use Rattle.bgp_updates.specs.Between.{messages_between}
use Rattle.bgp_updates.specs.Message.{in_messages, message_of, path_attribute, preference_attribute, prefixes_bytes}
use Rattle.bgp_updates.specs.Received.{changed, gone, groups_from, same_preference}

-- COMMUNITIES, four octets a number (RFC 1997): flags c0 and a length of one octet, above 255 octets flags d0 and two
abbrev pub plain_communities : List ℕ → List ℕ
plain_communities numbers =
    if length numbers == 0 then []
    else (if nat_le (4 * length numbers) 255 then (0xc0 ∷ 8 ∷ (4 * length numbers) ∷ []) ++ flat_map (to_be_bytes w32) numbers
    else (0xd0 ∷ 8 ∷ []) ++ to_be_bytes w16 (4 * length numbers) ++ flat_map (to_be_bytes w32) numbers)

-- ORIGIN with INCOMPLETE, AS_PATH, NEXT_HOP, LOCAL_PREF and COMMUNITIES
abbrev pub plain_attributes : Peering → Terms → List ℕ
plain_attributes peering terms =
    (0x40 ∷ 1 ∷ 1 ∷ 2 ∷ []) ++ path_attribute peering.own ++ (0x40 ∷ 3 ∷ 4 ∷ to_be_bytes w32 peering.next_hop)
    ++ preference_attribute peering.own terms.preference ++ plain_communities terms.communities

-- whether preference and communities are equal
abbrev pub same_plain : Terms → Terms → Bool
same_plain s t = same_preference s.preference t.preference && bytes_eq s.communities t.communities

-- the messages that withdraw the prefixes, and those that announce a group
abbrev pub plain_withdrawals : List PrefixValue → List (List ℕ)
plain_withdrawals prefixes = map (λ part. message_of (prefixes_bytes part) [] []) (in_messages 4073 prefixes)

abbrev pub plain_announcements : Peering → RouteGroup → List (List ℕ)
plain_announcements peering group =
    let attributes = plain_attributes peering group.terms in
    map (λ part. message_of [] attributes (prefixes_bytes part)) (in_messages (4073 - length attributes) group.prefixes)

-- what is withdrawn, and then what is announced, in groups of equal preference and communities
abbrev pub plain_messages : Peering → List (PrefixValue × Terms) → List (PrefixValue × Terms) → List (List ℕ)
plain_messages peering old new =
    plain_withdrawals (keys_of (gone old new)) ++ flat_map (plain_announcements peering) (groups_from same_plain [] (changed same_plain old new))

-- a route of IPv4 without large communities
pub record IsPlain (route : PrefixValue × Terms) : Type 0 where
  pub v4 : route.0.family ≡ V4
  pub without : route.1.large ≡ []

-- Where all routes are such ones, these are the messages.
abbrev pub OneFamilyAlone : Type 0
OneFamilyAlone = (peering : Peering) (old new : List (PrefixValue × Terms)) → All IsPlain old → All IsPlain new
    → messages_between peering old new ≡ plain_messages peering old new
