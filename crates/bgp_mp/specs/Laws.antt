-- What holds of the messages between two tables, over both families.
use Rattle.std.specs.Prelude.{◌≡◌, ℕ, ◌≤◌, true, List, [], ◌++◌, length, All, Option, Some, None}
use Rattle.std.specs.List.{list_any, flat_map, AllByRecursion}
use Rattle.std.specs.Option.{option_map}
use Rattle.ip_ranges.specs.Values.{PrefixValue}
use Rattle.bgp_updates.specs.declared.route.Terms.{Terms}
use Rattle.bgp_updates.specs.declared.route.Peering.{Peering}
use Rattle.bgp_updates.specs.Between.{messages_between}
use Rattle.bgp_updates.specs.Laws.{count}
use Rattle.bgp_updates.specs.OneFamily.{IsPlain, plain_messages}
use Rattle.bgp_updates.specs.Received.{same_prefix, terms_at}
use Rattle.bgp_updates.specs.Tables.{IsTable}
use Rattle.bgp_reading.specs.declared.parts.UpdateParts.{UpdateParts}
use Rattle.bgp_reading.specs.Joined.{received_bytes}
use Rattle.bgp_reading.specs.Laws.{CanBeTold, joined}
use Rattle.bgp_reading.specs.Reading.{update_of}
use Rattle.bgp_reading.specs.Update.{IsMessageOf}

-- the prefixes of which a message tells, as it is read
abbrev pub prefixes_read : Option UpdateParts → List PrefixValue
prefixes_read None = []
prefixes_read (Some parts) = parts.withdrawn ++ parts.announced

-- those of all the messages
abbrev pub prefixes_told : List (List ℕ) → List PrefixValue
prefixes_told messages = flat_map (λ message. prefixes_read (update_of message)) messages

-- The sender's messages make the new table of the old one (RFC 4271, section 3.1): after their joined octets, cut by their lengths and
-- read, it is the new one. A prefix of which they tell has a route that differs, and stands once. Each is one message of at most 4,096
-- octets.
pub record MakeTable (peering : Peering) (old new : List (PrefixValue × Terms)) (messages : List (List ℕ)) : Type 0 where
  pub received : (p : PrefixValue) → option_map (λ table. table p) (received_bytes (terms_at old) (joined messages)) ≡ Some (terms_at new p)
  pub differ : (p : PrefixValue) → list_any (same_prefix p) (prefixes_told messages) ≡ true → terms_at old p ≡ terms_at new p → ⊥
  pub once : (p : PrefixValue) → count p (prefixes_told messages) ≤ 1
  pub fit : All (λ message. length message ≤ 4096) messages
  pub of_sender : AllByRecursion (IsMessageOf peering) messages

-- So do the messages between two tables, where the new one can be told to the peer.
abbrev pub MessagesMakeTables : Type 0
MessagesMakeTables = (peering : Peering) (old new : List (PrefixValue × Terms)) → IsTable old → CanBeTold peering new
    → MakeTable peering old new (messages_between peering old new)

-- Where no route is of IPv6 or has a large community, they are the messages of IPv4 alone.
abbrev pub PlainMessages : Type 0
PlainMessages = (peering : Peering) (old new : List (PrefixValue × Terms)) → All IsPlain old → All IsPlain new
    → messages_between peering old new ≡ plain_messages peering old new
