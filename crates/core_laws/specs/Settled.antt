-- What a settled service has, in its own words.
use Rattle.std.specs.Prelude.{◌≡◌, ◌≢◌, ℕ, true, false, List, Option}
use Rattle.kube_model.specs.declared.service.Service.{Service}
use Rattle.kube_model.specs.Records.{empty_record}
use Rattle.kube_model.specs.Service.{is_handled}
use Rattle.pool_config.specs.ConfigValue.{ConfigValue}
use Rattle.object_history.specs.Observations.{Observation}
use Rattle.alloc_book.specs.Asking.{Offer, asker_of}
use Rattle.claim_index.specs.Claims.{Holders}
use Rattle.core_laws.specs.Quiet.{MeetsRow}
use Rattle.core_laws.specs.QuietShown.{offer_shown}
use Rattle.core_laws.specs.Served.{IsServed}
use Rattle.core_laws.specs.Waiting.{AreForService}

-- What there is for a service by a configuration and the labels of namespaces as they were last shown doesn't depend on its record.
abbrev pub OffersAreForServices : Type 0
OffersAreForServices = (config : ConfigValue) (observations : List Observation) → AreForService (offer_shown config observations)

-- A handled service with a record that isn't empty has one address of each family of some option, of one pool that serves it, that pool's name, and
-- the mark of its terms; asked addresses and an asked pool are those. By whose claims the addresses were usable is left free.
abbrev pub HeldAreServed : Type 0
HeldAreServed =
    (class : Option (List ℕ)) (offer_for : Service → Offer) (has : Holders) (service : Service) → AreForService offer_for
    → MeetsRow class offer_for has service → is_handled class service ≡ true → service.holding ≢ empty_record
    → (by : Holders) × IsServed by (offer_for service) (asker_of service) service.holding

-- A service that isn't of type LoadBalancer has an empty record.
abbrev pub OthersAreBare : Type 0
OthersAreBare =
    (class : Option (List ℕ)) (offer_for : Service → Offer) (has : Holders) (service : Service) → MeetsRow class offer_for has service
    → service.balancer ≡ false → service.holding ≡ empty_record
