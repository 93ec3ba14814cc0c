-- What holds of the messages between two tables.
use Rattle.std.specs.Prelude.{◌≡◌, ℕ, ◌+◌, ◌≤◌, Bool, true, false, ◌||◌, if◌then◌else◌, List, [], ◌∷◌, ◌++◌, length, map, filter, All}
use Rattle.std.specs.List.{list_any, flat_map}
use Rattle.ip_ranges.specs.declared.family.Family.{Family}
use Rattle.ip_ranges.specs.declared.family.Family.TheVariants.{V4, V6}
use Rattle.ip_ranges.specs.Values.{PrefixValue}
use Rattle.bgp_updates.specs.declared.route.Terms.{Terms}
use Rattle.bgp_updates.specs.declared.route.Peering.{Peering}
use Rattle.bgp_updates.specs.Message.{announced_part, room_of, withdrawn_part}
use Rattle.bgp_updates.specs.Between.{messages_between, messages_for, update_octets}
use Rattle.bgp_updates.specs.Received.{AreDistinct, Update, received, same_prefix, same_terms, terms_at, updates_of}
use Rattle.bgp_updates.specs.Tables.{AreV4, IsTable, HasFew, of_family}

-- what the messages of a family say
abbrev pub updates_for : Family → Peering → List (PrefixValue × Terms) → List (PrefixValue × Terms) → List Update
updates_for family peering old new = updates_of same_terms (room_of (withdrawn_part family)) (λ terms. room_of (announced_part family peering terms)) old new

-- what the messages between two tables say
abbrev pub updates_between : Peering → List (PrefixValue × Terms) → List (PrefixValue × Terms) → List Update
updates_between peering old new =
    updates_for V4 peering (of_family V4 old) (of_family V4 new) ++ updates_for V6 peering (of_family V6 old) (of_family V6 new)

-- The messages of a family are the octets of what they say.
abbrev pub MessagesSpell : Type 0
MessagesSpell = (family : Family) (peering : Peering) (old new : List (PrefixValue × Terms))
    → messages_for family peering old new ≡ map (update_octets family peering) (updates_for family peering old new)

-- After the messages the table is the new one.
abbrev pub MessagesGiveTheTable : Type 0
MessagesGiveTheTable = (peering : Peering) (old new : List (PrefixValue × Terms)) → IsTable new
    → (p : PrefixValue) → received (terms_at old) (updates_between peering old new) p ≡ terms_at new p

-- the message says something of the prefix
abbrev pub names_prefix : PrefixValue → Update → Bool
names_prefix p update = list_any (same_prefix p) update.withdrawn || list_any (same_prefix p) update.announced

-- Every prefix in a message has a route that differs between the tables.
abbrev pub NamedPrefixesDiffer : Type 0
NamedPrefixesDiffer = (peering : Peering) (old new : List (PrefixValue × Terms)) → IsTable new
    → (p : PrefixValue) → list_any (names_prefix p) (updates_between peering old new) ≡ true → terms_at old p ≡ terms_at new p → ⊥

-- all prefixes of all messages
abbrev pub prefixes_of : List Update → List PrefixValue
prefixes_of updates = flat_map (λ update. update.withdrawn ++ update.announced) updates

-- how often the prefix stands among these
abbrev pub count : PrefixValue → List PrefixValue → ℕ
count p [] = 0
count p (q ∷ prefixes) = (if same_prefix p q then 1 else 0) + count p prefixes

-- Each prefix stands in one message, once.
abbrev pub PrefixesStandOnce : Type 0
PrefixesStandOnce = (peering : Peering) (old new : List (PrefixValue × Terms)) → IsTable old → IsTable new
    → (p : PrefixValue) → count p (prefixes_of (updates_between peering old new)) ≤ 1

-- No message has more than 4,096 octets.
abbrev pub MessagesFit : Type 0
MessagesFit = (peering : Peering) (old new : List (PrefixValue × Terms)) → IsTable old → IsTable new → All HasFew new
    → All (λ message. length message ≤ 4096) (messages_between peering old new)

-- The IPv6 next hop is told with IPv6 routes alone: where the new table has none, any other one gives the same messages.
abbrev pub HopsAreOfRoutes : Type 0
HopsAreOfRoutes = (peering : Peering) (hop : ℕ) (old new : List (PrefixValue × Terms)) → AreV4 new
    → messages_between peering old new ≡ messages_between (record peering { next_hop_v6 = hop }) old new

-- the routes of the prefixes that a test takes
abbrev pub cut : (PrefixValue → Bool) → List (PrefixValue × Terms) → List (PrefixValue × Terms)
cut takes routes = filter (λ route. takes route.0) routes

-- the tables have the same routes at all other prefixes
abbrev pub AgreeBeside : (PrefixValue → Bool) → List (PrefixValue × Terms) → List (PrefixValue × Terms) → Type 0
AgreeBeside takes old new = (p : PrefixValue) → takes p ≡ false → terms_at old p ≡ terms_at new p

-- Where two tables agree outside a set of prefixes, the messages between their routes inside it are, to the octet, those between the
-- whole tables.
abbrev pub PartsTellAll : Type 0
PartsTellAll = (peering : Peering) (takes : PrefixValue → Bool) (old new : List (PrefixValue × Terms)) → AreDistinct old → AreDistinct new
    → AgreeBeside takes old new → messages_between peering (cut takes old) (cut takes new) ≡ messages_between peering old new
