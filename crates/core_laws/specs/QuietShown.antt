-- Nothing is left waiting that could be served, by what the look back shows.
use Rattle.std.specs.Prelude.{◌≡◌, ℕ, false, List, [], Option, None}
use Rattle.kube_model.specs.declared.key.Key.{Key}
use Rattle.kube_model.specs.declared.service.Service.{Service}
use Rattle.versioned_map.specs.declared.map.Versioned.{Versioned}
use Rattle.pool_config.specs.ConfigValue.{ConfigValue}
use Rattle.object_history.specs.Observations.{Observation}
use Rattle.object_history.specs.Kinds.{service_resource}
use Rattle.object_history.specs.LookBack.{IsLastShown}
use Rattle.alloc_book.specs.Asking.{Offer}
use Rattle.core_rules.specs.Core.{offer_at}
use Rattle.core_rules.specs.Run.{TranscriptEntry, core_after, IsRun, put_out, observed, claims_shown}
use Rattle.core_laws.specs.Puts.{IsReadyBy, labels_shown}
use Rattle.core_laws.specs.Quiet.{MeetsRow}
use Rattle.core_laws.specs.Waits.{awaits_shown}

-- what there is for the service by this configuration, and its namespace's labels as they were last shown
abbrev pub offer_shown : ConfigValue → List Observation → Service → Offer
offer_shown config observations service = offer_at config.pools (labels_shown service.key.namespace observations) service

-- Once both lists have ended and a configuration is in force, each held service that doesn't await a newer event meets its row.
abbrev pub IsQuietAsShown : Option (List ℕ) → List TranscriptEntry → Type 0
IsQuietAsShown class run =
    (ready : IsReadyBy (observed run)) (key : Key) (held : Versioned Service) → IsLastShown service_resource key held (observed run)
    → awaits_shown key run ≡ false
    → MeetsRow class (offer_shown ready.config (observed run)) (λ k. claims_shown k run) held.object

-- so it is whenever nothing is queued and no put is in flight
abbrev pub RunsAreQuietAsShown : Type 0
RunsAreQuietAsShown =
    (class : Option (List ℕ)) (run : List TranscriptEntry) → IsRun class run → (core_after class run).queue ≡ [] → put_out run ≡ None → IsQuietAsShown class run
