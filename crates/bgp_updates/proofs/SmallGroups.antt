-- Groups of small routes are small.
use Rattle.std.proofs.Common.{◌≡◌, ℕ, Bool, true, false, cond, nat_le, ◌==◌, ◌+◌, ◌*◌, ◌≤◌, List, [], ◌∷◌, ◌++◌}
use Rattle.std.proofs.Common.{length, filter, All, Option, Some, None, is_none, not, arith, length-append}
use Rattle.std.proofs.lemmas.List.Elements.{All-push, All-cons, All-nil, All-from_recursion, recursion_from_All}
use Rattle.std.specs.List.{AllByRecursion}
use Rattle.std.specs.Map.{keys_of}
use Rattle.std.specs.Int.{w16, to_be_bytes}
use Rattle.ip_ranges.specs.declared.family.Family.{Family}
use Rattle.ip_ranges.specs.declared.family.Family.TheVariants.{V4, V6}
use Rattle.ip_ranges.specs.Values.{PrefixValue, IsPrefix}
use Rattle.large_numbers.specs.declared.numbers.LargeCommunity.{LargeCommunity}
use Rattle.bgp_updates.specs.declared.route.Terms.{Terms}
use Rattle.bgp_updates.specs.declared.route.Peering.{Peering}
use Rattle.bgp_updates.specs.declared.route.RouteGroup.{RouteGroup}
use Rattle.bgp_updates.specs.Message.{Fits, announced_part, attribute, communities_attribute, communities_bytes, front_of, hop_attribute}
use Rattle.bgp_updates.specs.Message.{large_attribute, larges_bytes, optional_attribute, part_size, path_attribute, preference_attribute, withdrawn_part}
use Rattle.bgp_updates.specs.Received.{changed, gone, groups_from, same_terms, stands_as, terms_at, with_route}
use Rattle.bgp_updates.specs.Between.{AreFew, IsRouteGroup, IsRoute}
use Rattle.bgp_updates.specs.Tables.{IsTable, HasFew}

small-with_route : (groups : List RouteGroup) (route : PrefixValue × Terms) → AllByRecursion IsRouteGroup groups → IsRoute route
    → AllByRecursion IsRouteGroup (with_route same_terms groups route)
small-with_route [] route all is =
    (record { short = All-cons Fits route.0 [] is.short (All-nil Fits); few = is.few }, tt)
small-with_route (group ∷ groups) route all is =
    elim (same_terms group.terms route.1) as (λ v. AllByRecursion IsRouteGroup
    (cond v (record { terms = group.terms; prefixes = group.prefixes ++ route.0 ∷ [] } ∷ groups) (group ∷ with_route same_terms groups route))) [
      | true ↦ (record { short = All-push Fits group.prefixes route.0 all.0.short is.short; few = all.0.few }, all.1)
      | false ↦ (all.0, small-with_route groups route all.1 is)
    ]

small-groups_from : (groups : List RouteGroup) (routes : List (PrefixValue × Terms)) → AllByRecursion IsRouteGroup groups → AllByRecursion IsRoute routes
    → AllByRecursion IsRouteGroup (groups_from same_terms groups routes)
small-groups_from groups [] all are = all
small-groups_from groups (route ∷ routes) all are =
    small-groups_from (with_route same_terms groups route) routes (small-with_route groups route all are.0) are.1

small-filter : (keep : PrefixValue × Terms → Bool) (routes : List (PrefixValue × Terms)) → AllByRecursion IsRoute routes
    → AllByRecursion IsRoute (filter keep routes)
small-filter keep [] are = tt
small-filter keep (route ∷ routes) are =
    elim (keep route) as (λ v. AllByRecursion IsRoute (cond v (route ∷ filter keep routes) (filter keep routes))) [
      | true ↦ (are.0, small-filter keep routes are.1)
      | false ↦ small-filter keep routes are.1
    ]

fits-prefix : (p : PrefixValue) → IsPrefix p → Fits p
fits-prefix p is = (is.0, is.1)

short-filter : (keep : PrefixValue × Terms → Bool) (routes : List (PrefixValue × Terms)) → AllByRecursion IsPrefix (keys_of routes)
    → AllByRecursion Fits (keys_of (filter keep routes))
short-filter keep [] are = tt
short-filter keep (route ∷ routes) are =
    elim (keep route) as (λ v. AllByRecursion Fits (keys_of (cond v (route ∷ filter keep routes) (filter keep routes)))) [
      | true ↦ (fits-prefix route.0 are.0, short-filter keep routes are.1)
      | false ↦ short-filter keep routes are.1
    ]

are-routes : (routes : List (PrefixValue × Terms)) → AllByRecursion IsPrefix (keys_of routes) → AllByRecursion HasFew routes → AllByRecursion IsRoute routes
are-routes [] are few = tt
are-routes (route ∷ routes) are few = (record { short = fits-prefix route.0 are.0; few = (few.0.communities, few.0.large) }, are-routes routes are.1 few.1)

pub short-gone : (old new : List (PrefixValue × Terms)) → IsTable old → All Fits (keys_of (gone old new))
short-gone old new table =
    All-from_recursion Fits (keys_of (gone old new)) (short-filter (λ route. is_none (terms_at new route.0)) old table.0)

pub small-changed : (old new : List (PrefixValue × Terms)) → IsTable new → All HasFew new
    → All IsRouteGroup (groups_from same_terms [] (changed same_terms old new))
small-changed old new table few =
    let are = are-routes new table.0 (recursion_from_All HasFew new few) in
    All-from_recursion IsRouteGroup (groups_from same_terms [] (changed same_terms old new))
    (small-groups_from [] (changed same_terms old new) tt (small-filter (λ route. not (stands_as same_terms (terms_at old route.0) route.1)) new are))

-- ---- how large attributes are
pub length-communities : (numbers : List ℕ) → length (communities_bytes numbers) ≡ 4 * length numbers
length-communities [] = omega arith
length-communities (n ∷ rest) = omega (arith, length-communities rest)

pub length-larges : (numbers : List LargeCommunity) → length (larges_bytes numbers) ≡ 12 * length numbers
length-larges [] = omega arith
length-larges (n ∷ rest) = omega (arith, length-larges rest)

length-optional : (flags kind : ℕ) (value : List ℕ) → length (optional_attribute flags kind value) ≤ 4 + length value
length-optional flags kind value =
    elim (length value == 0) as (λ u. length (cond u [] (attribute flags kind value)) ≤ 4 + length value) [
      | true ↦ omega arith
      | false ↦ elim (nat_le (length value) 255) as (λ v. length
          (cond v ((flags ∷ kind ∷ length value ∷ []) ++ value) (((flags + 0x10) ∷ kind ∷ []) ++ to_be_bytes w16 (length value) ++ value)) ≤ 4 + length value) [
            | true ↦ omega arith
            | false ↦ omega arith
          ]
    ]

length-path : (own : Option ℕ) → length (path_attribute own) ≤ 9
length-path None = omega arith
length-path (Some own) = omega arith

length-hop : (family : Family) (hop : ℕ) → length (hop_attribute family hop) ≤ 7
length-hop V4 hop = omega arith
length-hop V6 hop = omega arith

length-preference : (own preference : Option ℕ) → length (preference_attribute own preference) ≤ 7
length-preference None preference = omega arith
length-preference (Some own) preference = omega arith

length-front : (family : Family) (peering : Peering) (terms : Terms) → length (front_of family peering terms) ≤ 31 + 4 * length terms.communities
length-front family peering terms =
    let path = path_attribute peering.own in
    let hop = hop_attribute family peering.next_hop in
    let preference = preference_attribute peering.own terms.preference in
    let communities = communities_attribute terms.communities in
    let origin : List ℕ = 0x40 ∷ 1 ∷ 1 ∷ 2 ∷ [] in
    omega (
      arith,
      length-append (((origin ++ path) ++ hop) ++ preference) communities,
      length-append ((origin ++ path) ++ hop) preference,
      length-append (origin ++ path) hop,
      length-append origin path,
      length-path peering.own,
      length-hop family peering.next_hop,
      length-preference peering.own terms.preference,
      length-optional 0xc0 8 (communities_bytes terms.communities),
      length-communities terms.communities,
    )

length-large : (numbers : List LargeCommunity) → length (large_attribute numbers) ≤ 4 + 12 * length numbers
length-large numbers = omega (arith, length-optional 0xc0 32 (larges_bytes numbers), length-larges numbers)

-- beside the prefixes an announcement has few octets and its communities
pub size-within : (family : Family) (peering : Peering) (terms : Terms)
    → part_size (announced_part family peering terms) ≤ 83 + 4 * length terms.communities + 12 * length terms.large
size-within V4 peering terms =
    omega (arith, length-append (front_of V4 peering terms) (large_attribute terms.large), length-front V4 peering terms, length-large terms.large)
size-within V6 peering terms = omega (arith, length-front V6 peering terms, length-large terms.large)

pub size-announced : (family : Family) (peering : Peering) (terms : Terms) → AreFew terms → part_size (announced_part family peering terms) ≤ 4000
size-announced family peering terms few = omega (arith, few.0, few.1, size-within family peering terms)

pub size-withdrawn : (family : Family) → part_size (withdrawn_part family) ≤ 4000
size-withdrawn V4 = omega arith
size-withdrawn V6 = omega arith
