-- Where the groups of terms stand in a list of groups.
use Rattle.std.specs.Prelude.{◌≡◌, ℕ, zero, suc, if◌then◌else◌, List, [], ◌∷◌, ◌++◌, Option, Some, None}
use Rattle.std.specs.BTreeMap.{is_at}
use Rattle.std.specs.Cmp.Lexicographic.{slice_cmp}
use Rattle.std.specs.Map.{lookup}
use Rattle.std.specs.Option.{option_cmp, option_map}
use Rattle.std.specs.Ordering.{nat_cmp, ordering_then}
use Rattle.std.specs.declared.cmp.Ordering.{Ordering}
use Rattle.ip_ranges.specs.Values.{PrefixValue}
use Rattle.large_numbers.specs.Large.{large_cmp}
use Rattle.bgp_updates.specs.declared.grouping.TermsKey.{TermsKey}
use Rattle.bgp_updates.specs.declared.route.RouteGroup.{RouteGroup}
use Rattle.bgp_updates.specs.declared.route.Terms.{Terms}
use Rattle.bgp_updates.specs.Received.{same_terms}

-- the terms that a key is of
abbrev pub terms_in : TermsKey → Terms
terms_in key = record { preference = key.preference; communities = key.communities.items; large = key.large.items }

-- keys ascend by preference, then by communities, then by large communities
abbrev pub key_cmp : TermsKey → TermsKey → Ordering
key_cmp a b =
    ordering_then (option_cmp nat_cmp a.preference b.preference)
    (ordering_then (slice_cmp nat_cmp a.communities.items b.communities.items) (slice_cmp large_cmp a.large.items b.large.items))

-- the place of the first group of the terms
abbrev pub place_of : List RouteGroup → Terms → Option ℕ
place_of [] terms = None
place_of (group ∷ groups) terms = if same_terms group.terms terms then Some 0 else option_map (λ n. suc n) (place_of groups terms)

-- under each key stands the place of the first group of its terms
abbrev pub ArePlaces : List (TermsKey × ℕ) → List RouteGroup → Type 0
ArePlaces entries groups = (key : TermsKey) → lookup (is_at (key_cmp key)) entries ≡ place_of groups (terms_in key)

-- the group at the place has the prefix too
abbrev pub with_prefix : List RouteGroup → ℕ → PrefixValue → List RouteGroup
with_prefix [] place p = []
with_prefix (group ∷ groups) zero p = record { terms = group.terms; prefixes = group.prefixes ++ p ∷ [] } ∷ groups
with_prefix (group ∷ groups) (suc place) p = group ∷ with_prefix groups place p
