-- What a service waits for that has no address, in its own words.
use Rattle.std.specs.Prelude.{◌≡◌, ◌≢◌, ℕ, true, List, [], Option}
use Rattle.kube_model.specs.declared.reason.Reason.{Reason}
use Rattle.kube_model.specs.declared.record.Record.{Record}
use Rattle.kube_model.specs.declared.service.Service.{Service}
use Rattle.kube_model.specs.Records.{empty_record}
use Rattle.kube_model.specs.Service.{is_handled, with_holding}
use Rattle.alloc_book.specs.declared.choice.Choice.TheVariants.{Pending}
use Rattle.alloc_book.specs.Asking.{Offer}
use Rattle.claim_index.specs.Claims.{Holders}
use Rattle.alloc_book.specs.Chosen.{IsChosen}
use Rattle.core_laws.specs.Quiet.{MeetsRow}
use Rattle.core_laws.specs.Served.{AreOffered}

-- what there is for a service doesn't depend on its record
abbrev pub IgnoresRecords : (Service → Offer) → Type 0
IgnoresRecords offer_for = (service : Service) (holding : Record) → offer_for (with_holding holding service) ≡ offer_for service

-- nor does it, and it is of the configuration and serves the service
pub record AreForService (offer_for : Service → Offer) : Type 0 where
  pub same : IgnoresRecords offer_for
  pub offered : (service : Service) → AreOffered (offer_for service)

-- A handled service that wants some family and has an empty record is pending: its request can't be met, or no pool that it may
-- use has a usable address of each family of some option. The table of choices says which.
abbrev pub WaitsInVain : Type 0
WaitsInVain =
    (class : Option (List ℕ)) (offer_for : Service → Offer) (has : Holders) (service : Service) → IgnoresRecords offer_for
    → MeetsRow class offer_for has service → is_handled class service ≡ true → service.families ≢ [] → service.holding ≡ empty_record
    → (reason : Reason) × IsChosen has (offer_for service) class service (Pending reason)
