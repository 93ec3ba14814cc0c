-- No message has more than 4,096 octets.
use Rattle.std.proofs.Common.{◌≡◌, ℕ, true, false, cond, nat_le, ◌+◌, ◌-◌, ◌≤◌, List, [], ◌∷◌, ◌++◌, length}
use Rattle.std.proofs.Common.{map, All, Result, Ok, Err, IfOk, sym, subst, arith, length-append}
use Rattle.std.proofs.lemmas.Bool.{le-leb, lt-leb}
use Rattle.std.proofs.lemmas.List.Elements.{All-from_recursion, recursion_from_All}
use Rattle.std.specs.List.{AllByRecursion, flat_map}
use Rattle.std.specs.Map.{keys_of}
use Rattle.std.specs.Int.{w16, w128, to_be_bytes}
use Rattle.ip_ranges.specs.declared.family.Family.{Family}
use Rattle.ip_ranges.specs.declared.family.Family.TheVariants.{V4, V6}
use Rattle.ip_ranges.specs.Values.{PrefixValue}
use Rattle.bgp_updates.specs.declared.part.Part.{Part}
use Rattle.bgp_updates.specs.declared.part.Part.TheVariants.{Withdrawn, Unreached, Announced, Reached}
use Rattle.bgp_updates.specs.declared.route.Terms.{Terms}
use Rattle.bgp_updates.specs.Tables.{HasFew, IsTable, of_family}
use Rattle.bgp_updates.specs.declared.route.RouteGroup.{RouteGroup}
use Rattle.bgp_updates.specs.declared.route.Peering.{Peering}
use Rattle.bgp_updates.specs.Message.{Fits, announced_part, attribute, in_messages, message_of, octets, packed, part_bytes, part_message, part_messages}
use Rattle.bgp_updates.specs.Message.{part_size, prefix_bytes, prefixes_bytes, reach_attribute, room_of, unreach_attribute, with_first, withdrawn_part}
use Rattle.bgp_updates.specs.Between.{IsRouteGroup, group_messages, messages_between, messages_for}
use Rattle.bgp_updates.specs.Received.{changed, gone, groups_from, same_terms}
use Rattle.bgp_updates.specs.Laws.{MessagesFit}
use Rattle.bgp_updates.proofs.Packing.{by_test, length-prefix_bytes, small_octets}
use Rattle.bgp_updates.proofs.Families.{family-few, family-table}
use Rattle.bgp_updates.proofs.SmallGroups.{short-gone, size-announced, size-withdrawn, small-changed}

-- the part's octets are so many at most
abbrev pub Within : ℕ → List PrefixValue → Type 0
Within room part = length (prefixes_bytes part) ≤ room

abbrev pub Sized : ℕ → ℕ → List (List PrefixValue) → Type 0
Sized room left [] = Unit {0}
Sized room left (first ∷ more) = Within left first × AllByRecursion (Within room) more

sized-with_first : (room left : ℕ) (p : PrefixValue) (parts : List (List PrefixValue)) → 1 + octets p ≤ left → Sized room (left - (1 + octets p)) parts
    → Sized room left (with_first p parts)
sized-with_first room left p [] fits sized = (omega (arith, length-prefix_bytes p, length-append (prefix_bytes p) []), tt)
sized-with_first room left p (first ∷ more) fits sized =
    (omega (arith, length-prefix_bytes p, length-append (prefix_bytes p) (prefixes_bytes first), sized.0), sized.1)

all-sized : (room : ℕ) (parts : List (List PrefixValue)) → Sized room room parts → AllByRecursion (Within room) parts
all-sized room [] sized = tt
all-sized room (first ∷ more) sized = sized

sized-packed : (room left : ℕ) (prefixes : List PrefixValue) → 17 ≤ room → AllByRecursion Fits prefixes → Sized room left (packed room left prefixes)
sized-packed room left [] wide fit = (omega arith, tt)
sized-packed room left (p ∷ rest) wide fit =
    let short = small_octets p fit.0.0 in
    by_test (Sized room left (packed room left (p ∷ rest))) (1 + octets p) left
    (λ fits. rw (le-leb (1 + octets p) left fits)
    (sized-with_first room left p (packed room (left - (1 + octets p)) rest) fits (sized-packed room (left - (1 + octets p)) rest wide fit.1)))
    (λ full. rw (lt-leb (1 + octets p) left full) (
      omega arith,
      all-sized room (with_first p (packed room (room - (1 + octets p)) rest)) (sized-with_first room room p
          (packed room (room - (1 + octets p)) rest) (omega (arith, short)) (sized-packed room (room - (1 + octets p)) rest wide fit.1)),
    ))

pub sized-in_messages : (room : ℕ) (prefixes : List PrefixValue) → 17 ≤ room → AllByRecursion Fits prefixes
    → AllByRecursion (Within room) (in_messages room prefixes)
unfolding in_messages
sized-in_messages room [] wide fit = tt
sized-in_messages room (p ∷ rest) wide fit = all-sized room (packed room room (p ∷ rest)) (sized-packed room room (p ∷ rest) wide fit)

abbrev pub IsShort : List ℕ → Type 0
IsShort message = length message ≤ 4096

pub length-message : (w a n : List ℕ) → length (message_of w a n) ≡ 23 + length w + length a + length n
length-message w a n =
    let size = to_be_bytes w16 (length a) in
    omega (arith, length-append ((w ++ size) ++ a) n, length-append (w ++ size) a, length-append w size)

pub length-attribute : (flags kind : ℕ) (value : List ℕ) → length (attribute flags kind value) ≤ 4 + length value
length-attribute flags kind value =
    elim (nat_le (length value) 255) as (λ v. length
    (cond v ((flags ∷ kind ∷ length value ∷ []) ++ value) (((flags + 0x10) ∷ kind ∷ []) ++ to_be_bytes w16 (length value) ++ value)) ≤ 4 + length value) [
      | true ↦ omega arith
      | false ↦ omega arith
    ]

length-three : (a b c : List ℕ) → length (a ++ b ++ c) ≡ length a + length b + length c
length-three a b c = omega (arith, length-append (a ++ b) c, length-append a b)

short-part : (part : Part) (prefixes : List PrefixValue) → part_size part ≤ 4000 → Within (room_of part) prefixes → IsShort (part_message part prefixes)
unfolding part_bytes
short-part Withdrawn prefixes few within = omega (arith, length-message (prefixes_bytes prefixes) [] [])
short-part Unreached prefixes few within =
    omega (arith, length-message [] (unreach_attribute (prefixes_bytes prefixes)) [], length-attribute 0x80 15 ((0 ∷ 2 ∷ 1 ∷ []) ++ prefixes_bytes prefixes))
short-part (Announced attributes) prefixes few within = omega (arith, length-message [] attributes (prefixes_bytes prefixes))
short-part (Reached front hop back) prefixes few within =
    let bytes = prefixes_bytes prefixes in
    omega (
      arith,
      length-message [] (front ++ reach_attribute hop bytes ++ back) [],
      length-three front (reach_attribute hop bytes) back,
      length-attribute 0x80 14 ((0 ∷ 2 ∷ 1 ∷ 16 ∷ []) ++ to_be_bytes w128 hop ++ (0 ∷ []) ++ bytes),
    )

short-parts : (part : Part) (parts : List (List PrefixValue)) → part_size part ≤ 4000 → AllByRecursion (Within (room_of part)) parts
    → AllByRecursion IsShort (map (part_message part) parts)
short-parts part [] few sized = tt
short-parts part (prefixes ∷ parts) few sized = (short-part part prefixes few sized.0, short-parts part parts few sized.1)

short-messages : (part : Part) (prefixes : List PrefixValue) → part_size part ≤ 4000 → All Fits prefixes → AllByRecursion IsShort (part_messages part prefixes)
short-messages part prefixes few fit =
    short-parts part (in_messages (room_of part) prefixes) few (sized-in_messages (room_of part) prefixes (omega arith) (recursion_from_All Fits prefixes fit))

short-append : (a b : List (List ℕ)) → AllByRecursion IsShort a → AllByRecursion IsShort b → AllByRecursion IsShort (a ++ b)
short-append [] b first second = second
short-append (m ∷ a) b first second = (first.0, short-append a b first.1 second)

short-groups : (family : Family) (peering : Peering) (groups : List RouteGroup) → AllByRecursion IsRouteGroup groups
    → AllByRecursion IsShort (flat_map (group_messages family peering) groups)
short-groups family peering [] are = tt
short-groups family peering (group ∷ groups) are =
    short-append (group_messages family peering group) (flat_map (group_messages family peering) groups)
    (short-messages (announced_part family peering group.terms) group.prefixes (size-announced family peering group.terms are.0.few) are.0.short)
    (short-groups family peering groups are.1)

short-for : (family : Family) (peering : Peering) (old new : List (PrefixValue × Terms)) → IsTable old → IsTable new → All HasFew new
    → AllByRecursion IsShort (messages_for family peering old new)
short-for family peering old new old_table new_table few =
    let groups = groups_from same_terms [] (changed same_terms old new) in
    short-append (part_messages (withdrawn_part family) (keys_of (gone old new))) (flat_map (group_messages family peering) groups)
    (short-messages (withdrawn_part family) (keys_of (gone old new)) (size-withdrawn family) (short-gone old new old_table))
    (short-groups family peering groups (recursion_from_All IsRouteGroup groups (small-changed old new new_table few)))

pub messages-fit : MessagesFit
messages-fit peering old new old_table new_table few =
    All-from_recursion IsShort (messages_between peering old new) (
    short-append (messages_for V4 peering (of_family V4 old) (of_family V4 new)) (messages_for V6 peering (of_family V6 old) (of_family V6 new))
    (short-for V4 peering (of_family V4 old) (of_family V4 new) (family-table V4 old old_table) (family-table V4 new new_table) (family-few V4 new few))
    (short-for V6 peering (of_family V6 old) (of_family V6 new) (family-table V6 old old_table) (family-table V6 new new_table) (family-few V6 new few))
    )

-- The same of what is answered.
pub all-short : {E : Type 0} (answer : Result (List (List ℕ)) E) (messages : List (List ℕ)) → IfOk answer (λ m. m ≡ messages) → All IsShort messages
    → IfOk answer (λ m. All IsShort m)
all-short (Ok m) messages is short = subst (All IsShort) (sym is) short
all-short (Err e) messages is short = tt
