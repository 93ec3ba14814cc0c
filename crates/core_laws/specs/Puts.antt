-- Each put is right by what the look back shows.
use Rattle.std.specs.Prelude.{◌≡◌, ◌≢◌, ◌⊎◌, ℕ, true, List, [], ◌∷◌, Option}
use Rattle.std.specs.Option.{option_map_or}
use Rattle.kube_model.specs.declared.event.ListGroup.TheVariants as groups
use Rattle.kube_model.specs.declared.key.Key.{Key}
use Rattle.kube_model.specs.declared.put.Put.{Put}
use Rattle.kube_model.specs.declared.reason.Reason.{Reason}
use Rattle.kube_model.specs.declared.service.Service.{Service}
use Rattle.versioned_map.specs.declared.map.Versioned.{Versioned}
use Rattle.pool_config.specs.ConfigValue.{ConfigValue}
use Rattle.object_history.specs.Observations.{Observation}
use Rattle.object_history.specs.Kinds.{service_resource, namespace_resource}
use Rattle.object_history.specs.LookBack.{last_shown, HasEnded, IsInForce, IsLastShown}
use Rattle.alloc_book.specs.declared.choice.Choice.{Choice}
use Rattle.alloc_book.specs.Chosen.{IsChosen}
use Rattle.core_rules.specs.declared.turn.Turn.{Turn}
use Rattle.core_rules.specs.declared.turn.Turn.TheVariants.{Idle, NoPut, Wants}
use Rattle.core_rules.specs.Core.{offer_at, own_claims}
use Rattle.core_rules.specs.Turn.{wanted_record, reason_in}
use Rattle.core_rules.specs.Run.{TranscriptEntry, Turned, IsRun, observed, claims_shown}

-- the labels of the namespace as it was last shown; one that isn't held has none
abbrev pub labels_shown : List ℕ → List Observation → List (List ℕ × List ℕ)
labels_shown name observations = option_map_or (λ h. h.object.labels) (last_shown namespace_resource name observations) []

-- What is decided of a key is right: its service is held as it was last shown, and this is chosen for it by the claims that the look
-- back shows, the configuration in force and its namespace's labels as they were last shown. A reason is told exactly where the choice
-- has one.
pub record IsRightDecision (class : Option (List ℕ)) (key : Key) (pending : Option Reason) (earlier : List TranscriptEntry) : Type 0 where
  pub held : Versioned Service
  pub shown : IsLastShown service_resource key held (observed earlier)
  pub config : ConfigValue
  pub in_force : IsInForce config (observed earlier)
  pub choice : Choice
  pub chosen : IsChosen (λ k. claims_shown k earlier) (offer_at config.pools (labels_shown held.object.key.namespace (observed earlier)) held.object) class
      held.object choice
  pub reason_is : pending ≡ reason_in choice

-- The put has the version last shown and the record that is wanted. This is another than the one that is held, or the key has, or may have,
-- another claim than that record's, which the put settles. A service of type LoadBalancer is of the class that is handled: one of another
-- class is never written.
pub record IsRightPut (class : Option (List ℕ)) (put : Put) (pending : Option Reason) (earlier : List TranscriptEntry) : Type 0 where
  pub decision : IsRightDecision class put.key pending earlier
  pub version_is : put.version ≡ decision.held.version
  pub holding_is : put.holding ≡ wanted_record decision.held.object.holding decision.choice
  pub due : (put.holding ≢ decision.held.object.holding) ⊎ (claims_shown put.key earlier ≢ own_claims decision.held.object)
  pub own : decision.held.object.balancer ≡ true → decision.held.object.class ≡ class

-- No put is due: the record that is wanted is the one that is held, and the key has, and may have, no claim but that record's.
pub record IsRightNoPut (class : Option (List ℕ)) (key : Key) (pending : Option Reason) (earlier : List TranscriptEntry) : Type 0 where
  pub decision : IsRightDecision class key pending earlier
  pub same : wanted_record decision.held.object.holding decision.choice ≡ decision.held.object.holding
  pub alone : claims_shown key earlier ≡ own_claims decision.held.object

-- each put of each run
abbrev pub PutsAreRight : Type 0
PutsAreRight = (class : Option (List ℕ)) (put : Put) (pending : Option Reason) (earlier : List TranscriptEntry)
    → IsRun class (Turned (Wants put pending) ∷ earlier)
    → IsRightPut class put pending earlier

-- each turn that makes no put
abbrev pub NoPutsAreRight : Type 0
NoPutsAreRight = (class : Option (List ℕ)) (key : Key) (pending : Option Reason) (earlier : List TranscriptEntry)
    → IsRun class (Turned (NoPut key pending) ∷ earlier)
    → IsRightNoPut class key pending earlier

-- Both lists have ended, and a configuration is in force.
pub record IsReadyBy (observations : List Observation) : Type 0 where
  pub configured : HasEnded groups.Config observations
  pub listed : HasEnded groups.Service observations
  pub config : ConfigValue
  pub in_force : IsInForce config observations

-- no key is chosen for before both lists have ended
abbrev pub TurnsAreReady : Type 0
TurnsAreReady = (class : Option (List ℕ)) (turn : Turn) (earlier : List TranscriptEntry) → IsRun class (Turned turn ∷ earlier) → turn ≢ Idle
    → IsReadyBy (observed earlier)
