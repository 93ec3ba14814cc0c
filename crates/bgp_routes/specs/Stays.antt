-- What an event leaves of what contributes to routes.
use Rattle.std.specs.Prelude.{◌≡◌, ◌↔◌, ℕ, Bool, List, Contains}
use Rattle.ip_ranges.specs.Values.{AddressValue, PrefixValue}
use Rattle.pool_config.specs.declared.compiled.CompiledPeer.{CompiledPeer}
use Rattle.speaker_view.specs.Change.{StaysAt}
use Rattle.speaker_view.specs.ViewValue.{ViewValue}
use Rattle.bgp_updates.specs.declared.route.Terms.{Terms}
use Rattle.bgp_routes.specs.Contribution.{IsContribution}

-- It is contributed for this address.
pub record IsContributionFor (v : ViewValue) (node : List ℕ) (peer : CompiledPeer) (both : Bool) (address : AddressValue) (c : PrefixValue × Terms) : Type
    0 where
  pub contribution : IsContribution v node peer both c
  pub address_is : contribution.address ≡ address

-- where all stays that decides who may announce an address but at some nodes, the same is contributed for it, of every other node and to every peer
abbrev pub ContributionsStay : Type 0
ContributionsStay = (v w : ViewValue) (nodes : List (List ℕ)) (address : AddressValue) → StaysAt v w nodes address
    → (node : List ℕ) → ¬ (Contains nodes node) → (peer : CompiledPeer) (both : Bool) (c : PrefixValue × Terms)
    → IsContributionFor w node peer both address c ↔ IsContributionFor v node peer both address c
