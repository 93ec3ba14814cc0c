-- The watch of all lists expires.
use Rattle.std.specs.Prelude.{◌≡◌, ℕ, List, Option}
use Rattle.kube_model.specs.declared.event.Event.TheVariants.{Expired as WatchesExpired}
use Rattle.kube_model.specs.declared.event.ListGroup.TheVariants as groups
use Rattle.core_rules.specs.Take.{core_take, core_expired}
use Rattle.core_rules.specs.Run.{TranscriptEntry, core_after, IsRun}

-- that is as if the watch of the configuration's list had expired, and then that of the services' list
abbrev pub ExpiredIsBoth : Type 0
ExpiredIsBoth =
    (class : Option (List ℕ)) (run : List TranscriptEntry) → IsRun class run
    → core_take (core_after class run) WatchesExpired ≡ core_expired (core_expired (core_after class run) groups.Config) groups.Service
