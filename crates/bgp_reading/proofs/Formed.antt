-- The messages of a family between two tables name ascending prefixes of it, at least one, and announce what the peer's sender tells.
use Rattle.std.proofs.Common.{◌≡◌, ℕ, Bool, true, nat_le, ◌+◌, ◌-◌, ◌≤◌, List, [], ◌∷◌, ◌++◌, filter, Option, Some, None, is_none, not, refl, arith}
use Rattle.std.proofs.lemmas.Bool.{and_from, and_parts, cond_both, le-leb}
use Rattle.std.specs.List.{AllByRecursion, flat_map, list_all}
use Rattle.std.specs.Map.{keys_of}
use Rattle.ip_ranges.specs.declared.family.Family.{Family}
use Rattle.ip_ranges.specs.Values.{PrefixValue, IsPrefix, same_family}
use Rattle.ip_ranges.proofs.AddressLaws.{same_family-is}
use Rattle.bgp_updates.specs.declared.route.Terms.{Terms}
use Rattle.bgp_updates.specs.declared.route.Peering.{Peering}
use Rattle.bgp_updates.specs.declared.route.RouteGroup.{RouteGroup}
use Rattle.bgp_updates.specs.Between.{AreFew}
use Rattle.bgp_updates.specs.Laws.{updates_for}
use Rattle.bgp_updates.specs.Message.{announced_part, in_messages, octets, packed, room_of, with_first, withdrawn_part}
use Rattle.bgp_updates.specs.Received.{Update, announcements, changed, gone, groups_from, same_terms, stands_as, terms_at, with_route, withdrawals}
use Rattle.bgp_updates.specs.Tables.{Ascend, HasFew, IsTable, before, of_family}
use Rattle.bgp_updates.proofs.Packing.{small_octets}
use Rattle.bgp_updates.proofs.SmallGroups.{size-announced, size-withdrawn}
use Rattle.bgp_updates.proofs.Spelling.{group_updates}
use Rattle.bgp_updates.proofs.Families.{kept-ascend}
use Rattle.bgp_reading.specs.Laws.{AreOfPeer, AreTyped}
use Rattle.bgp_reading.specs.Update.{ArePrefixes, AreValues, IsOf, IsTold}

-- what a message can say of its prefixes
abbrev pub IsSaid : Peering → Terms → Type 0
IsSaid peering terms = AreValues peering terms × IsTold peering terms

-- prefixes of the family that ascend, or none
record Ascending (family : Family) (prefixes : List PrefixValue) : Type 0 where
  own : AllByRecursion (IsOf family) prefixes
  ascend : Ascend prefixes

none-ascending : (family : Family) → Ascending family []
none-ascending family = record { own = tt; ascend = tt }

-- ---- parts
-- the first part may be none
abbrev Opened : Family → List (List PrefixValue) → Type 0
Opened family [] = Unit {0}
Opened family (first ∷ more) = Ascending family first × AllByRecursion (ArePrefixes family) more

-- the test holds of all prefixes of the first part
abbrev First : (PrefixValue → Bool) → List (List PrefixValue) → Type 0
First test [] = Unit {0}
First test (first ∷ more) = list_all test first ≡ true

first-with_first : (test : PrefixValue → Bool) (p : PrefixValue) (parts : List (List PrefixValue)) → test p ≡ true → First test parts
    → First test (with_first p parts)
first-with_first test p [] own all = and_from (test p) true own refl
first-with_first test p (first ∷ more) own all = and_from (test p) (list_all test first) own all

first-packed : (test : PrefixValue → Bool) (room left : ℕ) (prefixes : List PrefixValue) → list_all test prefixes ≡ true
    → First test (packed room left prefixes)
first-packed test room left [] all = refl
first-packed test room left (p ∷ rest) all =
    let both = and_parts (test p) (list_all test rest) all in
    cond_both (nat_le (1 + octets p) left) (with_first p (packed room (left - (1 + octets p)) rest))
    ([] ∷ with_first p (packed room (room - (1 + octets p)) rest)) (First test)
    (λ fits. first-with_first test p (packed room (left - (1 + octets p)) rest) both.0 (first-packed test room (left - (1 + octets p)) rest both.1))
    (λ full. refl)

some-with_first : (family : Family) (p : PrefixValue) (parts : List (List PrefixValue)) → IsOf family p → First (before p) parts → Opened family parts
    → AllByRecursion (ArePrefixes family) (with_first p parts)
some-with_first family p [] is first opened = (record { some = omega arith; of_family = (is, tt); ascend = (refl, tt) }, tt)
some-with_first family p (part ∷ more) is first opened =
    (record { some = omega arith; of_family = (is, opened.0.own); ascend = (first, opened.0.ascend) }, opened.1)

opened-some : (family : Family) (parts : List (List PrefixValue)) → AllByRecursion (ArePrefixes family) parts → Opened family parts
opened-some family [] all = tt
opened-some family (first ∷ more) all = (record { own = all.0.of_family; ascend = all.0.ascend }, all.1)

opened-packed : (family : Family) (room left : ℕ) (prefixes : List PrefixValue) → AllByRecursion (IsOf family) prefixes → Ascend prefixes
    → Opened family (packed room left prefixes)
opened-packed family room left [] all ascend = (none-ascending family, tt)
opened-packed family room left (p ∷ rest) all ascend =
    let some : (left : ℕ) → AllByRecursion (ArePrefixes family) (with_first p (packed room left rest)) = λ left.
    some-with_first family p (packed room left rest) all.0 (first-packed (before p) room left rest ascend.0)
    (opened-packed family room left rest all.1 ascend.1) in
    cond_both (nat_le (1 + octets p) left) (with_first p (packed room (left - (1 + octets p)) rest))
    ([] ∷ with_first p (packed room (room - (1 + octets p)) rest)) (Opened family)
    (λ fits. opened-some family (with_first p (packed room (left - (1 + octets p)) rest)) (some (left - (1 + octets p))))
    (λ full. (none-ascending family, some (room - (1 + octets p))))

parts-formed : (family : Family) (room : ℕ) (prefixes : List PrefixValue) → 17 ≤ room → AllByRecursion (IsOf family) prefixes → Ascend prefixes
    → AllByRecursion (ArePrefixes family) (in_messages room prefixes)
unfolding in_messages
parts-formed family room [] wide all ascend = tt
parts-formed family room (p ∷ rest) wide all ascend =
    let short = small_octets p all.0.is.0 in
    rw (le-leb (1 + octets p) room (omega (arith, short, wide)))
    (some-with_first family p (packed room (room - (1 + octets p)) rest) all.0 (first-packed (before p) room (room - (1 + octets p)) rest ascend.0)
    (opened-packed family room (room - (1 + octets p)) rest all.1 ascend.1))

-- ---- groups
-- a route whose terms the sender tells, with few communities
record Tells (family : Family) (peering : Peering) (route : PrefixValue × Terms) : Type 0 where
  own : IsOf family route.0
  told : IsSaid peering route.1
  few : AreFew route.1

-- a group of prefixes that ascend and come before all these
record Grouped (family : Family) (peering : Peering) (later : List PrefixValue) (group : RouteGroup) : Type 0 where
  prefixes : Ascending family group.prefixes
  first : AllByRecursion (λ p. list_all (before p) later ≡ true) group.prefixes
  told : IsSaid peering group.terms
  few : AreFew group.terms

earlier : (q : PrefixValue) (later prefixes : List PrefixValue) → AllByRecursion (λ p. list_all (before p) (q ∷ later) ≡ true) prefixes
    → AllByRecursion (λ p. list_all (before p) later ≡ true) prefixes
earlier q later [] all = tt
earlier q later (p ∷ rest) all = ((and_parts (before p q) (list_all (before p) later) all.0).1, earlier q later rest all.1)

earlier-groups : (family : Family) (peering : Peering) (q : PrefixValue) (later : List PrefixValue) (groups : List RouteGroup)
    → AllByRecursion (Grouped family peering (q ∷ later)) groups → AllByRecursion (Grouped family peering later) groups
earlier-groups family peering q later [] all = tt
earlier-groups family peering q later (group ∷ groups) all = (
  record { prefixes = all.0.prefixes; first = earlier q later group.prefixes all.0.first; told = all.0.told; few = all.0.few },
  earlier-groups family peering q later groups all.1,
)

all-last : (P : PrefixValue → Type 0) (prefixes : List PrefixValue) (q : PrefixValue) → AllByRecursion P prefixes → P q → AllByRecursion P (prefixes ++ q ∷ [])
all-last P [] q all own = (own, tt)
all-last P (p ∷ rest) q all own = (all.0, all-last P rest q all.1 own)

list_all-last : (test : PrefixValue → Bool) (prefixes : List PrefixValue) (q : PrefixValue) → list_all test prefixes ≡ true → test q ≡ true
    → list_all test (prefixes ++ q ∷ []) ≡ true
list_all-last test [] q all own = and_from (test q) true own refl
list_all-last test (p ∷ rest) q all own =
    let both = and_parts (test p) (list_all test rest) all in
    and_from (test p) (list_all test (rest ++ q ∷ [])) both.0 (list_all-last test rest q both.1 own)

ascend-last : (later prefixes : List PrefixValue) (q : PrefixValue) → Ascend prefixes → AllByRecursion (λ p. list_all (before p) (q ∷ later) ≡ true) prefixes
    → Ascend (prefixes ++ q ∷ [])
ascend-last later [] q ascend all = (refl, tt)
ascend-last later (p ∷ rest) q ascend all =
    (list_all-last (before p) rest q ascend.0 (and_parts (before p q) (list_all (before p) later) all.0).0, ascend-last later rest q ascend.1 all.1)

with_route-grouped : (family : Family) (peering : Peering) (later : List PrefixValue) (groups : List RouteGroup) (route : PrefixValue × Terms)
    → Tells family peering route → list_all (before route.0) later ≡ true
    → AllByRecursion (Grouped family peering (route.0 ∷ later)) groups → AllByRecursion (Grouped family peering later) (with_route same_terms groups route)
with_route-grouped family peering later [] route is own all =
    (record { prefixes = record { own = (is.own, tt); ascend = (refl, tt) }; first = (own, tt); told = is.told; few = is.few }, tt)
with_route-grouped family peering later (group ∷ groups) route is own all =
    let joins : Grouped family peering later (record { terms = group.terms; prefixes = group.prefixes ++ route.0 ∷ [] }) = record {
      prefixes = record {
        own = all-last (IsOf family) group.prefixes route.0 all.0.prefixes.own is.own;
        ascend = ascend-last later group.prefixes route.0 all.0.prefixes.ascend all.0.first;
      };
      first = all-last (λ p. list_all (before p) later ≡ true) group.prefixes route.0 (earlier route.0 later group.prefixes all.0.first) own;
      told = all.0.told;
      few = all.0.few;
    } in
    let others = earlier-groups family peering route.0 later (group ∷ groups) all in
    cond_both (same_terms group.terms route.1) (record { terms = group.terms; prefixes = group.prefixes ++ route.0 ∷ [] } ∷ groups)
    (group ∷ with_route same_terms groups route) (AllByRecursion (Grouped family peering later))
    (λ same. (joins, others.1))
    (λ differ. (others.0, with_route-grouped family peering later groups route is own all.1))

groups-formed : (family : Family) (peering : Peering) (groups : List RouteGroup) (routes : List (PrefixValue × Terms))
    → AllByRecursion (Tells family peering) routes
    → Ascend (keys_of routes)
    → AllByRecursion (Grouped family peering (keys_of routes)) groups → AllByRecursion (Grouped family peering []) (groups_from same_terms groups routes)
groups-formed family peering groups [] are ascend all = all
groups-formed family peering groups (route ∷ routes) are ascend all =
    groups-formed family peering (with_route same_terms groups route) routes are.1 ascend.1
    (with_route-grouped family peering (keys_of routes) groups route are.0 ascend.0 all)

-- ---- filters
list_all-filter : (keep : PrefixValue × Terms → Bool) (test : PrefixValue → Bool) (routes : List (PrefixValue × Terms)) → list_all test (keys_of routes) ≡ true
    → list_all test (keys_of (filter keep routes)) ≡ true
list_all-filter keep test [] all = refl
list_all-filter keep test (route ∷ routes) all =
    let both = and_parts (test route.0) (list_all test (keys_of routes)) all in
    let rest = list_all-filter keep test routes both.1 in
    cond_both (keep route) (route ∷ filter keep routes) (filter keep routes) (λ rs. list_all test (keys_of rs) ≡ true)
    (λ kept. and_from (test route.0) (list_all test (keys_of (filter keep routes))) both.0 rest) (λ left. rest)

keys-filter : (P : PrefixValue → Type 0) (keep : PrefixValue × Terms → Bool) (routes : List (PrefixValue × Terms)) → AllByRecursion P (keys_of routes)
    → AllByRecursion P (keys_of (filter keep routes))
keys-filter P keep [] all = tt
keys-filter P keep (route ∷ routes) all =
    cond_both (keep route) (route ∷ filter keep routes) (filter keep routes) (λ rs. AllByRecursion P (keys_of rs))
    (λ kept. (all.0, keys-filter P keep routes all.1)) (λ left. keys-filter P keep routes all.1)

all-filter : (P : PrefixValue × Terms → Type 0) (keep : PrefixValue × Terms → Bool) (routes : List (PrefixValue × Terms)) → AllByRecursion P routes
    → AllByRecursion P (filter keep routes)
all-filter P keep [] all = tt
all-filter P keep (route ∷ routes) all =
    cond_both (keep route) (route ∷ filter keep routes) (filter keep routes) (AllByRecursion P)
    (λ kept. (all.0, all-filter P keep routes all.1)) (λ left. all-filter P keep routes all.1)

tells : (family : Family) (peering : Peering) (routes : List (PrefixValue × Terms)) → AllByRecursion (IsOf family) (keys_of routes)
    → AllByRecursion HasFew routes → AreOfPeer peering routes → AreTyped peering routes → AllByRecursion (Tells family peering) routes
tells family peering [] all few told fits = tt
tells family peering (route ∷ routes) all few told fits =
    (record { own = all.0; told = (fits.0, told.0); few = (few.0.communities, few.0.large) }, tells family peering routes all.1 few.1 told.1 fits.1)

-- the routes of a family are of it
family-own : (family : Family) (routes : List (PrefixValue × Terms)) → AllByRecursion IsPrefix (keys_of routes)
    → AllByRecursion (IsOf family) (keys_of (of_family family routes))
family-own family [] all = tt
family-own family (route ∷ routes) all =
    cond_both (same_family route.0.family family) (route ∷ of_family family routes) (of_family family routes) (λ rs. AllByRecursion (IsOf family) (keys_of rs))
    (λ same. (record { own = same_family-is route.0.family family same; is = all.0 }, family-own family routes all.1)) (λ other. family-own family routes all.1)

-- ---- messages
-- what a message says: withdrawn routes alone, or announced ones that the sender tells
abbrev pub IsFormed : Family → Peering → List PrefixValue → List PrefixValue → Option Terms → Type 0
IsFormed family peering withdrawn [] None = ArePrefixes family withdrawn
IsFormed family peering withdrawn (p ∷ announced) None = ⊥
IsFormed family peering [] announced (Some terms) = IsSaid peering terms × ArePrefixes family announced
IsFormed family peering (p ∷ withdrawn) announced (Some terms) = ⊥

abbrev pub Formed : Family → Peering → Update → Type 0
Formed family peering update = IsFormed family peering update.withdrawn update.announced update.terms

formed-withdrawals : (family : Family) (peering : Peering) (parts : List (List PrefixValue)) → AllByRecursion (ArePrefixes family) parts
    → AllByRecursion (Formed family peering) (withdrawals parts)
formed-withdrawals family peering [] all = tt
formed-withdrawals family peering (part ∷ parts) all = (all.0, formed-withdrawals family peering parts all.1)

formed-announcements : (family : Family) (peering : Peering) (terms : Terms) (parts : List (List PrefixValue)) → IsSaid peering terms
    → AllByRecursion (ArePrefixes family) parts → AllByRecursion (Formed family peering) (announcements terms parts)
formed-announcements family peering terms [] told all = tt
formed-announcements family peering terms (part ∷ parts) told all = ((told, all.0), formed-announcements family peering terms parts told all.1)

formed-append : (family : Family) (peering : Peering) (a b : List Update) → AllByRecursion (Formed family peering) a → AllByRecursion (Formed family peering) b
    → AllByRecursion (Formed family peering) (a ++ b)
formed-append family peering [] b first second = second
formed-append family peering (update ∷ a) b first second = (first.0, formed-append family peering a b first.1 second)

formed-groups : (family : Family) (peering : Peering) (groups : List RouteGroup) → AllByRecursion (Grouped family peering []) groups
    → AllByRecursion (Formed family peering) (flat_map (group_updates family peering) groups)
formed-groups family peering [] all = tt
formed-groups family peering (group ∷ groups) all =
    let room = room_of (announced_part family peering group.terms) in
    let few = size-announced family peering group.terms all.0.few in
    let parts = parts-formed family room group.prefixes (omega (arith, few)) all.0.prefixes.own all.0.prefixes.ascend in
    formed-append family peering (group_updates family peering group) (flat_map (group_updates family peering) groups)
    (formed-announcements family peering group.terms (in_messages room group.prefixes) all.0.told parts)
    (formed-groups family peering groups all.1)

formed-for : (family : Family) (peering : Peering) (old new : List (PrefixValue × Terms)) → AllByRecursion (IsOf family) (keys_of old) → Ascend (keys_of old)
    → Ascend (keys_of new) → AllByRecursion (Tells family peering) new
    → AllByRecursion (Formed family peering) (updates_for family peering old new)
formed-for family peering old new own old_ascend new_ascend told =
    let there : PrefixValue × Terms → Bool = λ route. is_none (terms_at new route.0) in
    let differs : PrefixValue × Terms → Bool = λ route. not (stands_as same_terms (terms_at old route.0) route.1) in
    let room = room_of (withdrawn_part family) in
    let size = size-withdrawn family in
    let left = in_messages room (keys_of (gone old new)) in
    let groups = groups_from same_terms [] (changed same_terms old new) in
    formed-append family peering (withdrawals left) (flat_map (group_updates family peering) groups)
    (formed-withdrawals family peering left
    (parts-formed family room (keys_of (gone old new)) (omega (arith, size)) (keys-filter (IsOf family) there old own) (kept-ascend there old old_ascend)))
    (formed-groups family peering groups (groups-formed family peering [] (changed same_terms old new) (all-filter (Tells family peering) differs new told)
    (kept-ascend differs new new_ascend) tt))

pub updates-formed : (family : Family) (peering : Peering) (old new : List (PrefixValue × Terms)) → IsTable old → IsTable new → AllByRecursion HasFew new
    → AreOfPeer peering new → AreTyped peering new
    → AllByRecursion (Formed family peering) (updates_for family peering (of_family family old) (of_family family new))
updates-formed family peering old new old_table new_table few told fits =
    let keep : PrefixValue × Terms → Bool = λ route. same_family route.0.family family in
    formed-for family peering (of_family family old) (of_family family new) (family-own family old old_table.0) (kept-ascend keep old old_table.1)
    (kept-ascend keep new new_table.1)
    (tells family peering (of_family family new) (family-own family new new_table.0) (all-filter HasFew keep new few)
    (all-filter (λ route. IsTold peering route.1) keep new told)
    (all-filter (λ route. AreValues peering route.1) keep new fits))
