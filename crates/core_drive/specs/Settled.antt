-- What each settled service has, in its own words, by what the look back shows.
use Rattle.std.specs.Prelude.{◌≡◌, ◌≢◌, ℕ, true, false, List, Option}
use Rattle.kube_model.specs.declared.key.Key.{Key}
use Rattle.kube_model.specs.declared.reason.Reason.{Reason}
use Rattle.kube_model.specs.declared.service.Service.{Service}
use Rattle.kube_model.specs.Records.{empty_record}
use Rattle.kube_model.specs.Service.{is_handled}
use Rattle.versioned_map.specs.declared.map.Versioned.{Versioned}
use Rattle.object_history.specs.Kinds.{service_resource}
use Rattle.object_history.specs.LookBack.{IsLastShown}
use Rattle.alloc_book.specs.declared.choice.Choice.TheVariants.{Pending}
use Rattle.alloc_book.specs.Asking.{Offer, asker_of}
use Rattle.claim_index.specs.Claims.{Holders}
use Rattle.alloc_book.specs.Chosen.{IsChosen}
use Rattle.core_rules.specs.Run.{TranscriptEntry, observed, claims_shown}
use Rattle.core_laws.specs.Puts.{IsReadyBy}
use Rattle.core_laws.specs.QuietShown.{offer_shown}
use Rattle.core_laws.specs.Served.{IsServed}
use Rattle.core_laws.specs.Waits.{awaits_shown}

-- A handled service with a record has one address of each family of some option, of one pool that serves it, that pool's name and the mark of
-- its terms; asked addresses and an asked pool are those (by whose claims the addresses were usable is left free). One without a record is
-- pending for a reason that holds now: the first case of the table. One that isn't of type LoadBalancer has no record.
pub record HasItsOwn (class : Option (List ℕ)) (o : Offer) (has : Holders) (service : Service) : Type 0 where
  pub served : is_handled class service ≡ true → service.holding ≢ empty_record → (by : Holders) × IsServed by o (asker_of service) service.holding
  pub waits : is_handled class service ≡ true → service.holding ≡ empty_record → (reason : Reason) × IsChosen has o class service (Pending reason)
  pub bare : service.balancer ≡ false → service.holding ≡ empty_record

-- Once both lists have ended and a configuration is in force, so it is with each held service that doesn't await a newer event, by that
-- configuration, its namespace's labels as they were last shown, and the claims that the look back shows.
abbrev pub AllHaveTheirOwn : Option (List ℕ) → List TranscriptEntry → Type 0
AllHaveTheirOwn class run =
    (ready : IsReadyBy (observed run)) (key : Key) (held : Versioned Service) → IsLastShown service_resource key held (observed run)
    → awaits_shown key run ≡ false
    → HasItsOwn class (offer_shown ready.config (observed run) held.object) (λ k. claims_shown k run) held.object
