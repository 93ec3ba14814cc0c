-- What is told besides puts is right by what the look back shows: reasons why services have no address, and what became of a
-- configuration.
use Rattle.std.specs.Prelude.{◌≡◌, ℕ, List, ◌∷◌, Option, Some, Err}
use Rattle.kube_model.specs.declared.config_fault.ConfigFault.{ConfigFault}
use Rattle.kube_model.specs.declared.event.Event.{Event}
use Rattle.kube_model.specs.declared.key.Key.{Key}
use Rattle.kube_model.specs.declared.reason.Reason.{Reason}
use Rattle.kube_model.specs.declared.service.Service.{Service}
use Rattle.versioned_map.specs.declared.map.Versioned.{Versioned}
use Rattle.pool_config.specs.Compile.{compiled}
use Rattle.pool_config.specs.ConfigValue.{ConfigValue}
use Rattle.pool_config.specs.declared.object_set.ObjectSet.{ObjectSet}
use Rattle.object_history.specs.Observations.{Observation, Watched}
use Rattle.object_history.specs.Kinds.{service_resource}
use Rattle.object_history.specs.LookBack.{Compiles, IsAccepted, IsInForce, IsLastShown, IsSetAsShown}
use Rattle.object_cache.specs.declared.change.TakeNote.{TakeNote}
use Rattle.object_cache.specs.declared.change.TakeNote.TheVariants.{Quiet, Accepted, Refused}
use Rattle.alloc_book.specs.declared.choice.Choice.TheVariants.{Pending}
use Rattle.alloc_book.specs.Chosen.{IsChosen}
use Rattle.core_rules.specs.declared.turn.Turn.{Turn}
use Rattle.core_rules.specs.declared.turn.Turn.TheVariants.{Idle, NoPut, Wants}
use Rattle.core_rules.specs.Take.{core_note}
use Rattle.core_rules.specs.Run.{TranscriptEntry, Turned, IsRun, core_after, observed, claims_shown}
use Rattle.core_laws.specs.QuietShown.{offer_shown}

-- The key's service is held as it was last shown, and it is pending for this reason: the first case of the table that holds, by the
-- claims that the look back shows, the configuration in force and its namespace's labels as they were last shown.
pub record IsRightReason (class : Option (List ℕ)) (key : Key) (reason : Reason) (earlier : List TranscriptEntry) : Type 0 where
  pub held : Versioned Service
  pub shown : IsLastShown service_resource key held (observed earlier)
  pub config : ConfigValue
  pub in_force : IsInForce config (observed earlier)
  pub chosen : IsChosen (λ k. claims_shown k earlier) (offer_shown config (observed earlier) held.object) class held.object (Pending reason)

-- the turn tells this reason of this key
abbrev pub Tells : Turn → Key → Reason → Type 0
Tells Idle key reason = ⊥
Tells (NoPut k pending) key reason = (k ≡ key) × (pending ≡ Some reason)
Tells (Wants put pending) key reason = (put.key ≡ key) × (pending ≡ Some reason)

-- each reason that is told is right
abbrev pub ReasonsAreRight : Type 0
ReasonsAreRight =
    (class : Option (List ℕ)) (turn : Turn) (key : Key) (reason : Reason) (earlier : List TranscriptEntry) → IsRun class (Turned turn ∷ earlier)
    → Tells turn key reason
    → IsRightReason class key reason earlier

-- The event has a configuration compiled, of the objects as they are shown then, and this is its first fault.
pub record IsRefused (fault : ConfigFault) (event : Event) (earlier : List Observation) : Type 0 where
  pub compiles : Compiles earlier (Watched event)
  pub held : ObjectSet
  pub shown : IsSetAsShown held (Watched event ∷ earlier)
  pub refused : compiled held ≡ Err fault

-- a configuration is accepted, or it is refused with this fault, or none is compiled
abbrev pub IsRightNote : TakeNote → Event → List Observation → Type 0
IsRightNote Quiet event earlier = ¬ (Compiles earlier (Watched event))
IsRightNote Accepted event earlier = (config : ConfigValue) × IsAccepted config (Watched event) earlier
IsRightNote (Refused fault) event earlier = IsRefused fault event earlier

-- what is noted of each event is right
abbrev pub NotesAreRight : Type 0
NotesAreRight =
    (class : Option (List ℕ)) (event : Event) (earlier : List TranscriptEntry) → IsRun class earlier
    → IsRightNote (core_note (core_after class earlier) event) event (observed earlier)
