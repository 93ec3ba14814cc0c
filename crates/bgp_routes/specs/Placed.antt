-- Routes, each at the place of its prefix.
use Rattle.std.specs.Prelude.{◌≡◌, List, Option, Some, None}
use Rattle.std.specs.List.{AllByRecursion}
use Rattle.std.specs.Ordering.{nat_cmp, ordering_then}
use Rattle.std.specs.declared.cmp.Ordering.{Ordering}
use Rattle.ip_ranges.specs.Values.{PrefixValue}
use Rattle.speaker_view.specs.Addresses.{address_cmp}
use Rattle.bgp_updates.specs.declared.route.Terms.{Terms}
use Rattle.bgp_routes.specs.declared.uniting.PrefixKey.{PrefixKey}
use Rattle.bgp_routes.specs.Uniting.{united_terms}

-- the place of the prefix
abbrev pub place_of : PrefixValue → PrefixKey
place_of p = record { first = record { family = p.family; number = p.number }; length = p.length }

-- places ascend by the first address, IPv4 before IPv6, then by length
abbrev pub place_cmp : PrefixKey → PrefixKey → Ordering
place_cmp a b = ordering_then (address_cmp a.first b.first) (nat_cmp a.length b.length)

-- the contribution, united with the route that stands at its place, if any
abbrev pub united_with : Option (PrefixValue × Terms) → PrefixValue × Terms → PrefixValue × Terms
united_with None c = c
united_with (Some route) c = (route.0, united_terms route.1 c.1)

-- each route stands at the place of its prefix
abbrev pub ArePlaced : List (PrefixKey × (PrefixValue × Terms)) → Type 0
ArePlaced entries = AllByRecursion (λ e. e.0 ≡ place_of e.1.0) entries
