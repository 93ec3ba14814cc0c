-- What a table is after messages, prefix by prefix (RFC 4271, 3.1).
use Rattle.std.specs.Prelude.{ℕ, Bool, true, false, ◌≡◌, ◌&&◌, ◌==◌, not, if◌then◌else◌, is_none, List, [], ◌∷◌, ◌++◌, map, filter, Option, Some, None}
use Rattle.std.specs.List.{list_any, flat_map}
use Rattle.std.specs.Map.{lookup, keys_of}
use Rattle.ip_ranges.specs.Values.{PrefixValue, same_family}
use Rattle.bgp_updates.specs.declared.route.Terms.{Terms}
use Rattle.bgp_updates.specs.declared.route.RouteGroup.{RouteGroup}
use Rattle.bgp_updates.specs.Message.{in_messages}
use Rattle.std.specs.Str.{bytes_eq}
use Rattle.std.specs.Cmp.Lexicographic.{pointwise}
use Rattle.large_numbers.specs.declared.numbers.LargeCommunity.{LargeCommunity}

-- whether the prefixes are one
abbrev pub same_prefix : PrefixValue → PrefixValue → Bool
same_prefix p q = same_family p.family q.family && (p.number == q.number) && (p.length == q.length)

-- whether the preferences are one, or both aren't there
abbrev pub same_preference : Option ℕ → Option ℕ → Bool
same_preference None None = true
same_preference None (Some y) = false
same_preference (Some x) None = false
same_preference (Some x) (Some y) = x == y

-- whether the large communities are one
abbrev pub same_large : LargeCommunity → LargeCommunity → Bool
same_large c d = (c.global == d.global) && (c.first == d.first) && (c.second == d.second)

-- whether the terms are equal
abbrev pub same_terms : Terms → Terms → Bool
same_terms s t = same_preference s.preference t.preference && bytes_eq s.communities t.communities && pointwise same_large s.large t.large

-- what a message says
pub record Update : Type 0 where
  pub withdrawn : List PrefixValue
  pub announced : List PrefixValue
  pub terms : Option Terms

-- What a table, as the terms of each prefix that has a route, is after a message: an announced prefix gets the message's terms, and
-- a withdrawn one has no route.
abbrev pub after : (PrefixValue → Option Terms) → Update → PrefixValue → Option Terms
after table update p =
    if list_any (same_prefix p) update.announced then update.terms
    else (if list_any (same_prefix p) update.withdrawn then None else table p)

-- the same after messages, one after the other
abbrev pub received : (PrefixValue → Option Terms) → List Update → PrefixValue → Option Terms
received table [] = table
received table (update ∷ updates) = received (after table update) updates

-- the terms of the prefix's route
abbrev pub terms_at : List (PrefixValue × Terms) → PrefixValue → Option Terms
terms_at table p = lookup (same_prefix p) table

-- The route joins the first group of its terms, or begins one.
abbrev pub with_route : (Terms → Terms → Bool) → List RouteGroup → PrefixValue × Terms → List RouteGroup
with_route same [] route = record { terms = route.1; prefixes = route.0 ∷ [] } ∷ []
with_route same (group ∷ groups) route =
    if same group.terms route.1
    then record { terms = group.terms; prefixes = group.prefixes ++ route.0 ∷ [] } ∷ groups
    else group ∷ with_route same groups route

-- routes in groups of equal terms, in the order of the first route of each
abbrev pub groups_from : (Terms → Terms → Bool) → List RouteGroup → List (PrefixValue × Terms) → List RouteGroup
groups_from same groups [] = groups
groups_from same groups (route ∷ routes) = groups_from same (with_route same groups route) routes

-- the routes of the old table whose prefixes have none in the new one
abbrev pub gone : List (PrefixValue × Terms) → List (PrefixValue × Terms) → List (PrefixValue × Terms)
gone old new = filter (λ route. is_none (terms_at new route.0)) old

-- whether there are terms, and they are these
abbrev pub stands_as : (Terms → Terms → Bool) → Option Terms → Terms → Bool
stands_as same None terms = false
stands_as same (Some there) terms = same there terms

-- the routes of the new table that the old one doesn't have equally
abbrev pub changed : (Terms → Terms → Bool) → List (PrefixValue × Terms) → List (PrefixValue × Terms) → List (PrefixValue × Terms)
changed same old new = filter (λ route. not (stands_as same (terms_at old route.0) route.1)) new

-- a message a part that withdraws it
abbrev pub withdrawals : List (List PrefixValue) → List Update
withdrawals parts = map (λ prefixes. record { withdrawn = prefixes; announced = []; terms = None }) parts

-- a message a part that announces it with the terms
abbrev pub announcements : Terms → List (List PrefixValue) → List Update
announcements terms parts = map (λ prefixes. record { withdrawn = []; announced = prefixes; terms = Some terms }) parts

-- What the messages between two tables say; `most` is how many octets prefixes may have that are withdrawn, and `room` how many those
-- that are announced with terms.
abbrev pub updates_of : (Terms → Terms → Bool) → ℕ → (Terms → ℕ) → List (PrefixValue × Terms) → List (PrefixValue × Terms) → List Update
updates_of same most room old new =
    withdrawals (in_messages most (keys_of (gone old new)))
    ++ flat_map (λ group. announcements group.terms (in_messages (room group.terms) group.prefixes)) (groups_from same [] (changed same old new))

-- No prefix stands twice.
abbrev pub AreDistinct : List (PrefixValue × Terms) → Type 0
AreDistinct [] = Unit {0}
AreDistinct (route ∷ routes) = (list_any (same_prefix route.0) (keys_of routes) ≡ false) × AreDistinct routes

-- After the messages the table is the new one, whatever test of equal terms and whatever rooms.
abbrev pub UpdatesGiveTheTable : Type 0
UpdatesGiveTheTable = (same : Terms → Terms → Bool) → ((s t : Terms) → same s t ≡ true → s ≡ t)
    → (most : ℕ) (room : Terms → ℕ) (old new : List (PrefixValue × Terms)) → AreDistinct new
    → (p : PrefixValue) → received (terms_at old) (updates_of same most room old new) p ≡ terms_at new p
