-- What is kept of a node's routes for all peers.
use Rattle.std.specs.Prelude.{◌≡◌, ℕ, Bool, false, List, [], None}
use Rattle.std.specs.BTreeSet.{BTreeSet}
use Rattle.ip_ranges.specs.Values.{AddressValue}
use Rattle.speaker_view.specs.ViewValue.{ViewValue}
use Rattle.bgp_routes.specs.declared.contributors.Aggregate.{Aggregate}
use Rattle.bgp_routes.specs.Contributors.{contributes, has}
use Rattle.bgp_routes.specs.Differ.{DiffersAt}
use Rattle.bgp_routes.specs.KeptConfig.{KeptConfigValue, kept_config_for}

-- the node, whether both families count, what is held of the configuration in force, and which addresses contribute to which prefixes by which advertisement
pub record KeptValue : Type 0 where
  pub node : List ℕ
  pub both : Bool
  pub held : KeptConfigValue
  pub contributors : List (Aggregate × BTreeSet AddressValue)

-- All that is kept is right for the view.
pub record AreKeptFor (v : ViewValue) (kept : KeptValue) : Type 0 where
  pub held : kept.held ≡ kept_config_for v kept.node
  pub contributors : (g : Aggregate) (a : AddressValue) → has kept.contributors g a ≡ contributes v kept.node kept.both g a

-- nothing is held
pub record IsCleared (kept : KeptValue) : Type 0 where
  pub held : kept.held ≡ record { advertisements = []; choices = []; peers = [] }
  pub contributors : has kept.contributors ≡ (λ g a. false)

-- It is right for some view that differs from this one at these addresses at most.
abbrev pub AreKeptBut : ViewValue → List AddressValue → KeptValue → Type 0
AreKeptBut v addresses kept = (u : ViewValue) × AreKeptFor u kept × DiffersAt u v kept.node addresses

-- No peer is held: so it is right for each view without a configuration in force.
abbrev pub HoldsNone : KeptValue → Type 0
HoldsNone kept = (v : ViewValue) → v.held.config ≡ None → AreKeptFor v kept
