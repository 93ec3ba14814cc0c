-- What holds in a cluster in which a controller ran, once it is left alone.
use Rattle.std.specs.Prelude.{◌≡◌, ◌⊎◌, ◌≤◌, ℕ, true, List, [], ◌∷◌, length, Option, Some, None, ⊤}
use Rattle.std.specs.List.{AllByRecursion}
use Rattle.kube_model.specs.declared.event.Event.{Event}
use Rattle.kube_model.specs.declared.key.Key.{Key}
use Rattle.kube_model.specs.declared.object.Object.TheVariants as objects
use Rattle.kube_model.specs.declared.service.Service.{Service}
use Rattle.pool_config.specs.ConfigValue.{ConfigValue}
use Rattle.object_history.specs.LookBack.{IsInForce}
use Rattle.status_store.specs.declared.stored.Stored.{Stored}
use Rattle.status_store.specs.Places.{service_at}
use Rattle.status_store.specs.Objects.{IsStored}
use Rattle.status_store.specs.Changes.{StoreValue}
use Rattle.core_rules.specs.Core.{State, offer_in, is_ready}
use Rattle.core_rules.specs.Run.{TranscriptEntry, core_after, IsRun, observed, put_out}
use Rattle.core_laws.specs.Quiet.{MeetsRow}
use Rattle.core_laws.specs.Shared.{AllShowTerms}
use Rattle.world_rules.specs.declared.step.Step.{Step}
use Rattle.world_rules.specs.Explaining.{Explains, answered}
use Rattle.world_rules.specs.Good.{IsOwn}
use Rattle.world_rules.specs.Moves.{Move, Sets, Deletes, Tells, Takes, Turns, Stops, Starts, ConfigExpires, ServicesExpire, EndsLater, Lands}
use Rattle.world_rules.specs.Moves.{after_moves, begun}
use Rattle.world_rules.specs.World.{WorldValue, after_steps}
use Rattle.settling_laws.specs.Clear.{IsSure, recorded}
use Rattle.settling_laws.specs.Configured.{HasConfigCopies, IsConfiguredAsStored, IsServing, ShowsStored}
use Rattle.settling_laws.specs.Settling.{AreOwnSteps, IsAtRest, IsSettledAsStored, most_steps}
use Rattle.settling_laws.specs.StoredConfig.{offer_by}

-- the watch of the services expires, and a list of them is going to be shown
abbrev pub ListsAnew : Move → Type 0
ListsAnew (Sets object holding) = ⊥
ListsAnew (Deletes kind key) = ⊥
ListsAnew (Tells event) = ⊥
ListsAnew Takes = ⊥
ListsAnew (Turns outcome) = ⊥
ListsAnew (Stops applied) = ⊥
ListsAnew (Starts list) = ⊥
ListsAnew ConfigExpires = ⊥
ListsAnew (ServicesExpire list) = ⊤
ListsAnew (EndsLater before event behind) = ⊥
ListsAnew (Lands put) = ⊥

-- at one of the moves it is so, and those after it are sure
abbrev pub AreSureAtLast : List Move → Type 0
AreSureAtLast [] = ⊥
AreSureAtLast (move ∷ moves) = (ListsAnew move × AllByRecursion IsSure moves) ⊎ AreSureAtLast moves

-- since it was started, or since the services were last listed anew, no put was refused for good
abbrev pub AreSureSince : List Move → Type 0
AreSureSince moves = AllByRecursion IsSure moves ⊎ AreSureAtLast moves

-- ---- what becomes of a world whose controller went through a run
-- Whatever of the configuration is pending besides, by worlds that are made of these: where all that is stored and pending has terms.
abbrev pub InAllConfigs : WorldValue → (WorldValue → Type 0) → Type 0
InAllConfigs w Holds = (config : List Event) → (let v : WorldValue = record w { config_lane = config } in IsOwn v → Holds v)

-- However the controller takes and puts from here, and in whatever order: it does so no more often than is said beforehand.
abbrev pub EndsSoon : WorldValue → Type 0
EndsSoon w = (steps : List Step) → AreOwnSteps steps w → length steps ≤ most_steps w.core w

-- wherever nothing is left of that, the world is settled, by what is stored
abbrev pub EndsSettled : WorldValue → Type 0
EndsSettled w =
    (steps : List Step) → AreOwnSteps steps w → IsAtRest (after_steps steps w)
    → (s : State) × ((after_steps steps w).core ≡ Some s) × IsSettledAsStored (after_steps steps w) s

-- and so by the stored configuration
abbrev pub EndsConfigured : WorldValue → Type 0
EndsConfigured w =
    (steps : List Step) → AreOwnSteps steps w → IsAtRest (after_steps steps w)
    → (s : State) × ((after_steps steps w).core ≡ Some s) × IsConfiguredAsStored (after_steps steps w) s

-- Once the run's core is ready, nothing is queued, no put is in flight, and nothing of the services is still to be shown, each stored service has what is chosen
-- for it by what is stored, and where none could be chosen, none can be now.
abbrev pub IsServedAtRest : Option (List ℕ) → WorldValue → List TranscriptEntry → Type 0
IsServedAtRest class w run =
    let s = core_after class run in
    is_ready s.held ≡ true → s.queue ≡ [] → put_out run ≡ None → w.service_lane ≡ []
    → (key : Key) (service : Service) (stored : Stored) → IsStored w.store.objects (service_at key) stored → stored.object ≡ objects.Service service
    → MeetsRow class (offer_in s.held) (recorded w.store) service

-- So it is by the stored configuration, where what the run was last shown of that is what is stored; where the stored objects have a fault, by the
-- configuration that was accepted last.
abbrev pub IsServedAsStored : Option (List ℕ) → WorldValue → List TranscriptEntry → Type 0
IsServedAsStored class w run =
    let s = core_after class run in
    is_ready s.held ≡ true → s.queue ≡ [] → put_out run ≡ None → w.service_lane ≡ [] → ShowsStored w.store (observed run)
    → (config : ConfigValue) → IsServing w.store (λ last. IsInForce last (observed run)) config
    → (key : Key) (service : Service) (stored : Stored) → IsStored w.store.objects (service_at key) stored → stored.object ≡ objects.Service service
    → MeetsRow class (offer_by config w.store) (recorded w.store) service

-- What becomes of a world that explains the run: its core is the run's, but for a last put that has no reply. Left alone, it comes to rest, and once it rests
-- what is stored is served, by the stored configuration where that was shown, unless a put was refused for good. Puts whose reply was lost, whether they
-- reached the store or not, matter nothing.
pub record IsSettling (class : Option (List ℕ)) (moves : List Move) (w : WorldValue) (run : List TranscriptEntry) : Type 0 where
  pub core : w.core ≡ Some (core_after class (answered run))
  pub ends : InAllConfigs w EndsSoon
  pub settles : AreSureSince moves → InAllConfigs w EndsSettled
  pub served : AreSureSince moves → IsServedAtRest class w run
  pub configures : AreSureSince moves → InAllConfigs w (λ v. HasConfigCopies v → EndsConfigured v)
  pub served_as_stored : AreSureSince moves → IsServedAsStored class w run

-- so it is of every world that explains it
abbrev pub SettlesInWorlds : Option (List ℕ) → List TranscriptEntry → Type 0
SettlesInWorlds class run = (store : StoreValue) (list : List Event) (moves : List Move) → Explains class store list moves run
    → IsSettling class moves (after_moves moves (begun class store list)) run

-- and so for every run of a core that was shown terms that there can be
abbrev pub RunsSettleWorlds : Type 0
RunsSettleWorlds = (class : Option (List ℕ)) (run : List TranscriptEntry) → IsRun class run → AllShowTerms run → SettlesInWorlds class run
