-- Where all routes are of IPv4 and have no large community, the messages are those of IPv4 alone.
use Rattle.std.proofs.Common.{◌≡◌, ℕ, ◌+◌, ◌*◌, ◌-◌, true, false, cond, not, ◌==◌, nat_le, List, [], ◌∷◌}
use Rattle.std.proofs.Common.{◌++◌, length, map, Option, Some, None, refl, sym, ◌∙◌, ap, arith}
use Rattle.std.proofs.Math.Bool.{and-true}
use Rattle.std.proofs.lemmas.Bool.Decides.{nat_tests}
use Rattle.std.proofs.lemmas.List.{append-nil}
use Rattle.std.proofs.lemmas.List.Elements.{All-filter, All-weaker, recursion_from_All}
use Rattle.std.specs.Bool.{⊤}
use Rattle.std.specs.Int.{w16, to_be_bytes}
use Rattle.std.specs.List.{AllByRecursion, flat_map}
use Rattle.std.specs.Map.{keys_of}
use Rattle.ip_ranges.specs.declared.family.Family.TheVariants.{V4}
use Rattle.ip_ranges.specs.Values.{PrefixValue}
use Rattle.bgp_updates.specs.declared.route.RouteGroup.{RouteGroup}
use Rattle.bgp_updates.specs.declared.route.Peering.{Peering}
use Rattle.bgp_updates.specs.declared.route.Terms.{Terms}
use Rattle.bgp_updates.specs.Between.{group_messages}
use Rattle.bgp_updates.specs.Message.{communities_attribute, communities_bytes, front_of, hop_attribute, in_messages}
use Rattle.bgp_updates.specs.Message.{large_attribute, message_of, part_bytes, path_attribute, preference_attribute, prefixes_bytes}
use Rattle.bgp_updates.specs.OneFamily.{IsPlain, OneFamilyAlone, plain_announcements, plain_attributes, plain_communities, plain_withdrawals, same_plain}
use Rattle.bgp_updates.specs.Received.{changed, gone, groups_from, same_prefix, same_terms, stands_as, terms_at, with_route}
use Rattle.bgp_updates.proofs.Families.{one-family}
use Rattle.bgp_updates.proofs.SmallGroups.{length-communities}

-- ---- terms without large communities
abbrev IsBare : Terms → Type 0
IsBare terms = terms.large ≡ []

same-bare : (s t : Terms) → IsBare s → IsBare t → same_terms s t ≡ same_plain s t
same-bare s t s_bare t_bare = rw (s_bare, t_bare) (and-true (same_plain s t))

abbrev IsBareIn : Option Terms → Type 0
IsBareIn None = ⊤
IsBareIn (Some terms) = IsBare terms

found-bare : (p : PrefixValue) (routes : List (PrefixValue × Terms)) → AllByRecursion IsPlain routes → IsBareIn (terms_at routes p)
found-bare p [] are = tt
found-bare p (route ∷ routes) are =
    elim (same_prefix p route.0) as (λ v. IsBareIn (cond v (Some route.1) (terms_at routes p))) [
      | true ↦ are.0.without
      | false ↦ found-bare p routes are.1
    ]

stands-bare : (there : Option Terms) (terms : Terms) → IsBareIn there → IsBare terms → stands_as same_terms there terms ≡ stands_as same_plain there terms
stands-bare None terms there_bare bare = refl
stands-bare (Some there) terms there_bare bare = same-bare there terms there_bare bare

-- ---- the same routes are told, in the same groups
changed-bare : (old new : List (PrefixValue × Terms)) → AllByRecursion IsPlain old → AllByRecursion IsPlain new
    → changed same_terms old new ≡ changed same_plain old new
changed-bare old [] old_are new_are = refl
changed-bare old (route ∷ new) old_are new_are =
    ap (λ stands. cond (not stands) (route ∷ changed same_terms old new) (changed same_terms old new))
    (stands-bare (terms_at old route.0) route.1 (found-bare route.0 old old_are) new_are.0.without)
    ∙ ap (λ rest. cond (not (stands_as same_plain (terms_at old route.0) route.1)) (route ∷ rest) rest) (changed-bare old new old_are new_are.1)

abbrev HasBare : RouteGroup → Type 0
HasBare group = IsBare group.terms

abbrev joined : RouteGroup → PrefixValue × Terms → RouteGroup
joined group route = record { terms = group.terms; prefixes = group.prefixes ++ route.0 ∷ [] }

route-bare : (groups : List RouteGroup) (route : PrefixValue × Terms) → AllByRecursion HasBare groups → IsBare route.1
    → with_route same_terms groups route ≡ with_route same_plain groups route
route-bare [] route are bare = refl
route-bare (group ∷ groups) route are bare =
    ap (λ same. cond same (joined group route ∷ groups) (group ∷ with_route same_terms groups route)) (same-bare group.terms route.1 are.0 bare)
    ∙ ap (λ rest. cond (same_plain group.terms route.1) (joined group route ∷ groups) (group ∷ rest)) (route-bare groups route are.1 bare)

route-stays : (groups : List RouteGroup) (route : PrefixValue × Terms) → AllByRecursion HasBare groups → IsBare route.1
    → AllByRecursion HasBare (with_route same_plain groups route)
route-stays [] route are bare = (bare, tt)
route-stays (group ∷ groups) route are bare =
    elim (same_plain group.terms route.1) as (λ v. AllByRecursion HasBare (cond v (joined group route ∷ groups) (group ∷ with_route same_plain groups route))) [
      | true ↦ are
      | false ↦ (are.0, route-stays groups route are.1 bare)
    ]

groups-bare : (groups : List RouteGroup) (routes : List (PrefixValue × Terms)) → AllByRecursion HasBare groups → AllByRecursion IsPlain routes
    → groups_from same_terms groups routes ≡ groups_from same_plain groups routes
groups-bare groups [] are plain = refl
groups-bare groups (route ∷ routes) are plain =
    ap (λ joined. groups_from same_terms joined routes) (route-bare groups route are plain.0.without)
    ∙ groups-bare (with_route same_plain groups route) routes (route-stays groups route are plain.0.without) plain.1

groups-stay : (groups : List RouteGroup) (routes : List (PrefixValue × Terms)) → AllByRecursion HasBare groups → AllByRecursion IsPlain routes
    → AllByRecursion HasBare (groups_from same_plain groups routes)
groups-stay groups [] are plain = are
groups-stay groups (route ∷ routes) are plain = groups-stay (with_route same_plain groups route) routes (route-stays groups route are plain.0.without) plain.1

-- ---- the same octets
communities-plain : (numbers : List ℕ) → communities_attribute numbers ≡ plain_communities numbers
communities-plain [] = refl
communities-plain (n ∷ numbers) =
    let bytes : List ℕ = communities_bytes (n ∷ numbers) in
    let size : ℕ = 4 * length (n ∷ numbers) in
    let own : (size == 0) ≡ false = grind (arith, nat_tests) in
    let some : (length (n ∷ numbers) == 0) ≡ false = grind (arith, nat_tests) in
    let form : ℕ → List ℕ = λ k. cond (nat_le k 255) ((0xc0 ∷ 8 ∷ k ∷ []) ++ bytes) ((0xd0 ∷ 8 ∷ []) ++ to_be_bytes w16 k ++ bytes) in
    ap (λ k. cond (k == 0) [] (form k)) (length-communities (n ∷ numbers)) ∙ ap (λ v. cond v [] (form size)) own ∙ sym (ap (λ v. cond v [] (form size)) some)

attributes-plain : (peering : Peering) (terms : Terms) → IsBare terms
    → front_of V4 peering terms ++ large_attribute terms.large ≡ plain_attributes peering terms
attributes-plain peering terms bare =
    let before : List ℕ =
    (0x40 ∷ 1 ∷ 1 ∷ 2 ∷ []) ++ path_attribute peering.own ++ hop_attribute V4 peering.next_hop ++ preference_attribute peering.own terms.preference in
    ap (λ large. front_of V4 peering terms ++ large_attribute large) bare ∙ append-nil (front_of V4 peering terms)
    ∙ ap (λ communities. before ++ communities) (communities-plain terms.communities)

group-plain : (peering : Peering) (group : RouteGroup) → HasBare group → group_messages V4 peering group ≡ plain_announcements peering group
unfolding part_bytes
group-plain peering group bare =
    let form : List ℕ → ℕ → List (List ℕ) = λ attributes room. map (λ part. message_of [] attributes (prefixes_bytes part)) (in_messages room group.prefixes) in
    let plain : List ℕ = plain_attributes peering group.terms in
    let room : 4096 - (23 + length plain) ≡ 4073 - length plain = omega arith in
    ap (λ attributes. form attributes (4096 - (23 + length attributes))) (attributes-plain peering group.terms bare) ∙ ap (form plain) room

all-plain : (peering : Peering) (groups : List RouteGroup) → AllByRecursion HasBare groups
    → flat_map (group_messages V4 peering) groups ≡ flat_map (plain_announcements peering) groups
all-plain peering [] are = refl
all-plain peering (group ∷ groups) are =
    ap (λ front. front ++ flat_map (group_messages V4 peering) groups) (group-plain peering group are.0)
    ∙ ap (λ rest. plain_announcements peering group ++ rest) (all-plain peering groups are.1)

pub plain-alone : OneFamilyAlone
unfolding part_bytes
plain-alone peering old new old_are new_are =
    let withdrawn : List (List ℕ) = plain_withdrawals (keys_of (gone old new)) in
    let told : List (PrefixValue × Terms) = changed same_plain old new in
    let plain : AllByRecursion IsPlain told =
    recursion_from_All IsPlain told
    (All-filter (λ (route : PrefixValue × Terms). not (stands_as same_plain (terms_at old route.0) route.1)) IsPlain new new_are) in
    one-family peering old new (All-weaker IsPlain (λ route. route.0.family ≡ V4) (λ route is. is.v4) old old_are)
    (All-weaker IsPlain (λ route. route.0.family ≡ V4) (λ route is. is.v4) new new_are)
    ∙ ap (λ routes. withdrawn ++ flat_map (group_messages V4 peering) (groups_from same_terms [] routes))
    (changed-bare old new (recursion_from_All IsPlain old old_are) (recursion_from_All IsPlain new new_are))
    ∙ ap (λ groups. withdrawn ++ flat_map (group_messages V4 peering) groups) (groups-bare [] told tt plain)
    ∙ ap (λ rest. withdrawn ++ rest) (all-plain peering (groups_from same_plain [] told) (groups-stay [] told tt plain))
