-- Each message between two tables is read as what it says.
use Rattle.std.proofs.Common.{ℕ, ◌+◌, ◌≤◌, List, [], ◌∷◌, ◌++◌, length, map, All, Some, None, ◌∙◌, ap, arith, length-append}
use Rattle.std.proofs.lemmas.List.Elements.{recursion_from_All}
use Rattle.std.specs.List.{AllByRecursion, flat_map}
use Rattle.std.specs.Int.{w128, to_be_bytes}
use Rattle.std.specs.Map.{keys_of}
use Rattle.ip_ranges.specs.declared.family.Family.{Family}
use Rattle.ip_ranges.specs.declared.family.Family.TheVariants.{V4, V6}
use Rattle.ip_ranges.specs.Values.{PrefixValue}
use Rattle.bgp_updates.specs.declared.route.RouteGroup.{RouteGroup}
use Rattle.bgp_updates.specs.declared.route.Terms.{Terms}
use Rattle.bgp_updates.specs.declared.route.Peering.{Peering}
use Rattle.bgp_updates.specs.Between.{AreFew, IsRouteGroup, messages_for, update_octets}
use Rattle.bgp_updates.specs.Laws.{updates_for}
use Rattle.bgp_updates.specs.Message.{Fits, announced_part, front_of, in_messages, large_attribute, part_bytes}
use Rattle.bgp_updates.specs.Message.{prefixes_bytes, reach_attribute, room_of, unreach_attribute, withdrawn_part}
use Rattle.bgp_updates.specs.Received.{Update, announcements, changed, gone, groups_from, same_terms, withdrawals}
use Rattle.bgp_updates.specs.Tables.{HasFew, IsTable, of_family}
use Rattle.bgp_updates.proofs.Families.{family-few, family-table}
use Rattle.bgp_updates.proofs.Sizes.{Within, length-attribute, sized-in_messages}
use Rattle.bgp_updates.proofs.SmallGroups.{short-gone, size-announced, size-withdrawn, small-changed}
use Rattle.bgp_updates.proofs.Spelling.{messages-spell}
use Rattle.update_laws.specs.Attributes.{attributes_in}
use Rattle.update_laws.specs.Laws.{IsReadAs, MessagesAreRead, said}
use Rattle.update_laws.proofs.Parts.{announce-announced, announce-attributes, announce-withdrawn, withdraw-announced, withdraw-attributes, withdraw-withdrawn}
use Rattle.update_laws.proofs.Reading.{read-unreached, read-v4, read-v6}

-- ---- what withdraws
withdrawal-read : (family : Family) (peering : Peering) (part : List PrefixValue) → Within (room_of (withdrawn_part family)) part
    → IsReadAs family peering (record { withdrawn = part; announced = []; terms = None })
unfolding part_bytes
withdrawal-read V4 peering part within =
    let bytes : List ℕ = prefixes_bytes part in
    record {
      withdrawn = withdraw-withdrawn bytes (omega (arith, within));
      attributes = ap attributes_in (withdraw-attributes bytes (omega (arith, within)));
      announced = withdraw-announced bytes (omega (arith, within));
    }
withdrawal-read V6 peering part within =
    let bytes : List ℕ = prefixes_bytes part in
    let attributes : List ℕ = unreach_attribute bytes in
    let few = length-attribute 0x80 15 ((0 ∷ 2 ∷ 1 ∷ []) ++ bytes) in
    record {
      withdrawn = announce-withdrawn attributes [];
      attributes = ap attributes_in (announce-attributes attributes [] (omega (arith, few, within))) ∙ read-unreached part (omega (arith, within));
      announced = announce-announced attributes [] (omega (arith, few, within));
    }

withdrawals-read : (family : Family) (peering : Peering) (parts : List (List PrefixValue)) → AllByRecursion (Within (room_of (withdrawn_part family))) parts
    → AllByRecursion (IsReadAs family peering) (withdrawals parts)
withdrawals-read family peering [] within = tt
withdrawals-read family peering (part ∷ parts) within = (withdrawal-read family peering part within.0, withdrawals-read family peering parts within.1)

-- ---- what announces
length-reach : (hop : ℕ) (bytes : List ℕ) → length (reach_attribute hop bytes) ≤ 25 + length bytes
length-reach hop bytes = omega (arith, length-attribute 0x80 14 ((0 ∷ 2 ∷ 1 ∷ 16 ∷ []) ++ to_be_bytes w128 hop ++ (0 ∷ []) ++ bytes))

announcement-read : (family : Family) (peering : Peering) (terms : Terms) (part : List PrefixValue) → AreFew terms
    → Within (room_of (announced_part family peering terms)) part
    → IsReadAs family peering (record { withdrawn = []; announced = part; terms = Some terms })
unfolding part_bytes
announcement-read V4 peering terms part few within =
    let attributes : List ℕ = front_of V4 peering terms ++ large_attribute terms.large in
    let size = size-announced V4 peering terms few in
    record {
      withdrawn = announce-withdrawn attributes (prefixes_bytes part);
      attributes = ap attributes_in (announce-attributes attributes (prefixes_bytes part) (omega (arith, size))) ∙ read-v4 peering terms [] part few;
      announced = announce-announced attributes (prefixes_bytes part) (omega (arith, size));
    }
announcement-read V6 peering terms part few within =
    let bytes : List ℕ = prefixes_bytes part in
    let reach : List ℕ = reach_attribute peering.next_hop_v6 bytes in
    let attributes : List ℕ = front_of V6 peering terms ++ reach ++ large_attribute terms.large in
    let size = size-announced V6 peering terms few in
    let small : length attributes ≤ 8192 = omega (
      arith,
      size,
      within,
      length-reach peering.next_hop_v6 bytes,
      length-append (front_of V6 peering terms ++ reach) (large_attribute terms.large),
      length-append (front_of V6 peering terms) reach,
    ) in
    record {
      withdrawn = announce-withdrawn attributes [];
      attributes = ap attributes_in (announce-attributes attributes [] (omega (arith, small))) ∙ read-v6 peering terms [] part few (omega (arith, within));
      announced = announce-announced attributes [] (omega (arith, small));
    }

announcements-read : (family : Family) (peering : Peering) (terms : Terms) (parts : List (List PrefixValue)) → AreFew terms
    → AllByRecursion (Within (room_of (announced_part family peering terms))) parts
    → AllByRecursion (IsReadAs family peering) (announcements terms parts)
announcements-read family peering terms [] few within = tt
announcements-read family peering terms (part ∷ parts) few within =
    (announcement-read family peering terms part few within.0, announcements-read family peering terms parts few within.1)

-- ---- all messages of a family
read-append : (family : Family) (peering : Peering) (a b : List Update) → AllByRecursion (IsReadAs family peering) a
    → AllByRecursion (IsReadAs family peering) b → AllByRecursion (IsReadAs family peering) (a ++ b)
read-append family peering [] b first second = second
read-append family peering (update ∷ a) b first second = (first.0, read-append family peering a b first.1 second)

groups-read : (family : Family) (peering : Peering) (groups : List RouteGroup) → AllByRecursion IsRouteGroup groups
    → AllByRecursion (IsReadAs family peering)
    (flat_map (λ group. announcements group.terms (in_messages (room_of (announced_part family peering group.terms)) group.prefixes)) groups)
groups-read family peering [] are = tt
groups-read family peering (group ∷ groups) are =
    let room : ℕ = room_of (announced_part family peering group.terms) in
    let parts : List (List PrefixValue) = in_messages room group.prefixes in
    let size = size-announced family peering group.terms are.0.few in
    read-append family peering (announcements group.terms parts)
    (flat_map (λ group. announcements group.terms (in_messages (room_of (announced_part family peering group.terms)) group.prefixes)) groups)
    (announcements-read family peering group.terms parts are.0.few
    (sized-in_messages room group.prefixes (omega (arith, size)) (recursion_from_All Fits group.prefixes are.0.short)))
    (groups-read family peering groups are.1)

updates-read : (family : Family) (peering : Peering) (old new : List (PrefixValue × Terms)) → IsTable old → IsTable new → All HasFew new
    → AllByRecursion (IsReadAs family peering) (updates_for family peering old new)
updates-read family peering old new old_table new_table few =
    let most : ℕ = room_of (withdrawn_part family) in
    let gone_parts : List (List PrefixValue) = in_messages most (keys_of (gone old new)) in
    let groups : List RouteGroup = groups_from same_terms [] (changed same_terms old new) in
    read-append family peering (withdrawals gone_parts)
    (flat_map (λ group. announcements group.terms (in_messages (room_of (announced_part family peering group.terms)) group.prefixes)) groups)
    (withdrawals-read family peering gone_parts (sized-in_messages most (keys_of (gone old new)) (omega (arith, size-withdrawn family))
    (recursion_from_All Fits (keys_of (gone old new)) (short-gone old new old_table))))
    (groups-read family peering groups (recursion_from_All IsRouteGroup groups (small-changed old new new_table few)))

pub messages-read : MessagesAreRead
messages-read = record {
  messages = λ peering old new.
      ap (λ front. front ++ messages_for V6 peering (of_family V6 old) (of_family V6 new)) (messages-spell V4 peering (of_family V4 old) (of_family V4 new))
      ∙ ap (λ back. map (update_octets V4 peering) (said V4 peering old new) ++ back) (messages-spell V6 peering (of_family V6 old) (of_family V6 new));
  each = λ family peering old new old_table new_table few.
      updates-read family peering (of_family family old) (of_family family new) (family-table family old old_table) (family-table family new new_table)
      (family-few family new few);
}
