-- What holds of the routes of a node for a peer.
use Rattle.std.specs.Prelude.{◌≡◌, ◌↔◌, ℕ, ◌≤◌, Bool, if◌then◌else◌, List, [], ◌∷◌, Option, Some, None}
use Rattle.ip_ranges.specs.Values.{PrefixValue}
use Rattle.large_numbers.specs.declared.numbers.LargeCommunity.{LargeCommunity}
use Rattle.mlb_base.specs.Items.{IsIn}
use Rattle.pool_config.specs.declared.compiled.CompiledPeer.{CompiledPeer}
use Rattle.speaker_view.specs.ViewValue.{ViewValue}
use Rattle.bgp_updates.specs.declared.route.Terms.{Terms}
use Rattle.bgp_updates.specs.Received.{same_prefix, terms_at}
use Rattle.bgp_routes.specs.Contribution.{IsContribution}
use Rattle.bgp_routes.specs.Routes.{contributions, routes_of}
use Rattle.bgp_routes.specs.Uniting.{united_terms}

-- the terms of a contribution, united with those that were there
abbrev pub joined : Option Terms → Terms → Terms
joined None t = t
joined (Some s) t = united_terms s t

-- the terms of all contributions of the prefix, united
abbrev pub stated : PrefixValue → Option Terms → List (PrefixValue × Terms) → Option Terms
stated p found [] = found
stated p found (c ∷ more) = stated p (if same_prefix p c.0 then Some (joined found c.1) else found) more

-- A prefix has a route exactly where something contributes it, with the terms of all that does.
abbrev pub RoutesAreStated : Type 0
RoutesAreStated = (v : ViewValue) (node : List ℕ) (peer : CompiledPeer) (both : Bool) (p : PrefixValue)
    → terms_at (routes_of v node peer both) p ≡ stated p None (contributions v node peer both)

-- What is listed as contributed is exactly what is a contribution.
abbrev pub ContributionsAreListed : Type 0
ContributionsAreListed = (v : ViewValue) (node : List ℕ) (peer : CompiledPeer) (both : Bool) (c : PrefixValue × Terms)
    → IsIn (contributions v node peer both) c ↔ IsContribution v node peer both c

-- the contribution is one of the prefix
abbrev pub Contributes : ViewValue → List ℕ → CompiledPeer → Bool → PrefixValue → Terms → Type 0
Contributes v node peer both p terms = IsContribution v node peer both (p, terms)

-- some contribution of the prefix has the community, among those of the kind that is read of its terms
abbrev pub HasCommunity : {K : Type 0} → (Terms → List K) → ViewValue → List ℕ → CompiledPeer → Bool → PrefixValue → K → Type 0
HasCommunity kind v node peer both p k = (terms : Terms) × Contributes v node peer both p terms × IsIn (kind terms) k

-- some contribution of the prefix has the preference, and none a greater one
pub record IsGreatest (v : ViewValue) (node : List ℕ) (peer : CompiledPeer) (both : Bool) (p : PrefixValue) (preference : Option ℕ) : Type 0 where
  pub terms : Terms
  pub there : Contributes v node peer both p terms
  pub is : terms.preference ≡ preference
  pub greatest : (others : Terms) (m n : ℕ) → Contributes v node peer both p others → others.preference ≡ Some m → preference ≡ Some n → m ≤ n

-- The route's prefix is contributed; its communities are those of all contributions of the prefix, and so are its large ones, and its
-- preference is the greatest of theirs.
pub record IsRoute (v : ViewValue) (node : List ℕ) (peer : CompiledPeer) (both : Bool) (route : PrefixValue × Terms) : Type 0 where
  pub communities : (n : ℕ) → IsIn route.1.communities n ↔ HasCommunity (λ t. t.communities) v node peer both route.0 n
  pub large : (c : LargeCommunity) → IsIn route.1.large c ↔ HasCommunity (λ t. t.large) v node peer both route.0 c
  pub preference : IsGreatest v node peer both route.0 route.1.preference

-- Each route is one, and each contribution's prefix has a route.
pub record AreRoutes (v : ViewValue) (node : List ℕ) (peer : CompiledPeer) (both : Bool) (table : List (PrefixValue × Terms)) : Type 0 where
  pub routes : (route : PrefixValue × Terms) → IsIn table route → IsRoute v node peer both route
  pub all : (c : PrefixValue × Terms) → IsContribution v node peer both c → (terms : Terms) × IsIn table (c.0, terms)

-- The routes of a node for a peer are these.
abbrev pub RoutesUniteContributions : Type 0
RoutesUniteContributions = (v : ViewValue) (node : List ℕ) (peer : CompiledPeer) (both : Bool) → AreRoutes v node peer both (routes_of v node peer both)
