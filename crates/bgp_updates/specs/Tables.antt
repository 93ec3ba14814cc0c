-- Tables of routes.
use Rattle.std.specs.Prelude.{◌≡◌, ◌≤◌, ℕ, Bool, true, false, ◌&&◌, ◌||◌, ◌==◌, nat_lt, List, [], ◌∷◌, length, filter, All, ⊤}
use Rattle.std.specs.List.{list_all, AllByRecursion}
use Rattle.std.specs.Map.{keys_of}
use Rattle.ip_ranges.specs.declared.family.Family.{Family}
use Rattle.ip_ranges.specs.declared.family.Family.TheVariants.{V4, V6}
use Rattle.ip_ranges.specs.Values.{PrefixValue, IsPrefix, same_family}
use Rattle.bgp_updates.specs.declared.route.Terms.{Terms}

-- numbers ascend, and of one number lengths
abbrev pub numbers_before : ℕ → ℕ → ℕ → ℕ → Bool
numbers_before number other length long = nat_lt number other || ((number == other) && nat_lt length long)

-- IPv4 comes first
abbrev pub families_before : Family → Family → Bool → Bool
families_before V4 V4 numbers = numbers
families_before V4 V6 numbers = true
families_before V6 V4 numbers = false
families_before V6 V6 numbers = numbers

-- prefixes ascend by family, then by number and then by length
abbrev pub before : PrefixValue → PrefixValue → Bool
before p q = families_before p.family q.family (numbers_before p.number q.number p.length q.length)

-- each before all that follow
abbrev pub Ascend : List PrefixValue → Type 0
Ascend [] = ⊤
Ascend (p ∷ prefixes) = (list_all (before p) prefixes ≡ true) × Ascend prefixes

-- prefixes that ascend, so that each stands once
abbrev pub IsTable : List (PrefixValue × Terms) → Type 0
IsTable routes = AllByRecursion IsPrefix (keys_of routes) × Ascend (keys_of routes)

-- the routes of a family
abbrev pub of_family : Family → List (PrefixValue × Terms) → List (PrefixValue × Terms)
of_family family routes = filter (λ route. same_family route.0.family family) routes

-- the routes are of IPv4
abbrev pub AreV4 : List (PrefixValue × Terms) → Type 0
AreV4 routes = All (λ route. route.0.family ≡ V4) routes

-- so few communities that their attributes and a prefix always fit in a message
pub record HasFew (route : PrefixValue × Terms) : Type 0 where
  pub communities : length route.1.communities ≤ 512
  pub large : length route.1.large ≤ 128
