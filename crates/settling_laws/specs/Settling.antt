-- A controller that is left alone settles.
use Rattle.std.specs.Prelude.{◌≡◌, ◌≤◌, ◌+◌, ◌*◌, ℕ, Bool, true, false, is_some, if◌then◌else◌, IfSome, Option, Some, None, Err, List, [], ◌∷◌, filter, length, ⊤}
use Rattle.std.specs.List.{AllByRecursion, list_any}
use Rattle.std.specs.Option.{option_map_or}
use Rattle.kube_model.specs.declared.config_fault.ConfigFault.{ConfigFault}
use Rattle.kube_model.specs.declared.event.Event.{Event}
use Rattle.kube_model.specs.declared.event.ListGroup.{ListGroup}
use Rattle.kube_model.specs.declared.event.ListGroup.TheVariants as groups
use Rattle.kube_model.specs.declared.key.Key.{Key}
use Rattle.kube_model.specs.declared.object.Object.TheVariants as objects
use Rattle.kube_model.specs.declared.service.Service.{Service}
use Rattle.kube_model.specs.Keys.{has_key}
use Rattle.kube_model.specs.Records.{empty_record, same_record}
use Rattle.object_history.specs.LookBack.{event_ends_list}
use Rattle.claim_index.specs.Claims.{ClaimValue, holders}
use Rattle.status_store.specs.declared.change.Outcome.TheVariants.{Delivered}
use Rattle.status_store.specs.declared.stored.Stored.{Stored}
use Rattle.status_store.specs.Changes.{StoreValue}
use Rattle.status_store.specs.Objects.{IsStored}
use Rattle.status_store.specs.Places.{service_at}
use Rattle.core_rules.specs.Core.{State, offer_in, service_of}
use Rattle.core_laws.specs.Quiet.{MeetsRow}
use Rattle.world_rules.specs.declared.step.Step.{Step}
use Rattle.world_rules.specs.declared.step.Step.TheVariants.{Edit as Edits, Take, Turn as Turns, Crash, Restart, Expire}
use Rattle.world_rules.specs.Good.{stored_of, held_of, IsGood, IsGoodStore, IsOwn}
use Rattle.world_rules.specs.Safe.{HasTerms}
use Rattle.world_rules.specs.World.{started, WorldValue, IsEnabled, after_steps, world_step}
use Rattle.settling_laws.specs.Copies.{HasCopies}
use Rattle.settling_laws.specs.Clear.{AreClear, recorded}
use Rattle.settling_laws.specs.Configured.{HasConfigCopies, IsConfigured, IsConfiguredAsStored}
use Rattle.settling_laws.specs.StoredConfig.{config_in}

-- the controller takes an event that is pending, or makes a turn whose put is delivered: nobody edits, and nothing is lost
abbrev pub IsOwnStep : Step → Type 0
IsOwnStep (Edits edit) = ⊥
IsOwnStep (Take group) = ⊤
IsOwnStep (Turns outcome) = outcome ≡ Delivered
IsOwnStep (Crash applied) = ⊥
IsOwnStep (Restart order) = ⊥
IsOwnStep (Expire group order) = ⊥

-- so is each of the steps, the first of which stands first, and there are these steps
abbrev pub AreOwnSteps : List Step → WorldValue → Type 0
AreOwnSteps [] w = ⊤
AreOwnSteps (step ∷ steps) w = IsOwnStep step × IsEnabled step w × AreOwnSteps steps (world_step step w)

-- how many services are held and events pending
abbrev pub known_to : State → WorldValue → ℕ
known_to s w = length s.held.services + (length w.config_lane + length w.service_lane)

-- how many of the events are the end of their list, or stand after it; where it isn't among them, all
abbrev pub behind_end : ListGroup → List Event → ℕ
behind_end group [] = 0
behind_end group (event ∷ more) = (if list_any (event_ends_list group) more then 0 else 1) + behind_end group more

abbrev pub late_in : WorldValue → ℕ
late_in w = behind_end groups.Config w.config_lane + behind_end groups.Service w.service_lane

-- the service of the key is held with an empty record
abbrev pub is_bare : State → Key → Bool
is_bare s key = option_map_or (λ service. same_record service.holding empty_record) (service_of s.held key) false

-- the claims of services that are held with an empty record: those of puts of which no reply came
abbrev pub doubts_in : State → List ClaimValue
doubts_in s = filter (λ c. is_bare s c.key) s.claims

-- how many such steps there may be, at most: so many for each service and event, and more where events come from the list's end on, or claims are in doubt
abbrev pub most_steps : Option State → WorldValue → ℕ
most_steps None w = 0
most_steps (Some s) w = known_to s w * (4 * late_in w + 2 * length (doubts_in s) + 5)

-- whatever is taken and put, and in whatever order: after so many steps nothing is left to be taken or put
abbrev pub StepsEnd : Type 0
StepsEnd = (w : WorldValue) → IsGood w → IsOwn w → (steps : List Step) → AreOwnSteps steps w → length steps ≤ most_steps w.core w

-- there is no such step any more
abbrev pub IsAtRest : WorldValue → Type 0
IsAtRest w = (step : Step) → IsOwnStep step → ¬ (IsEnabled step w)

-- What is stored is held, and nothing is pending, queued or due: each stored service that awaits nothing has the record that is chosen for it, and where
-- none could be chosen, none can be now.
pub record IsSettled (w : WorldValue) (s : State) : Type 0 where
  pub config_taken : w.config_lane ≡ []
  pub services_taken : w.service_lane ≡ []
  pub none_queued : s.queue ≡ []
  pub config_listed : s.held.config_ended ≡ true
  pub services_listed : s.held.services_ended ≡ true
  pub same : (key : Key) → held_of s key ≡ stored_of w.store key
  pub held : (key : Key) (service : Service) (stored : Stored) → IsStored w.store.objects (service_at key) stored → stored.object ≡ objects.Service service
      → service_of s.held key ≡ Some service
  pub served : is_some s.held.config ≡ true → (key : Key) (service : Service) (stored : Stored) → IsStored w.store.objects (service_at key) stored
      → stored.object ≡ objects.Service service → has_key s.awaiting key ≡ false → MeetsRow s.class (offer_in s.held) (holders s.claims) service

-- where there is no such step any more, the world is settled
abbrev pub RestIsSettled : Type 0
RestIsSettled = (w : WorldValue) → IsGood w → IsOwn w → HasCopies w → IsAtRest w → IfSome w.core (IsSettled w)

-- and so it is by the stored configuration, where what is held and pending of that leads to it
abbrev pub RestIsConfigured : Type 0
RestIsConfigured = (w : WorldValue) → IsGood w → IsOwn w → HasCopies w → HasConfigCopies w → IsAtRest w → IfSome w.core (IsConfigured w)

-- Besides, none awaits anything, and what is chosen for each is so by what is stored for all.
pub record IsSettledAsStored (w : WorldValue) (s : State) : Type 0 where
  pub settled : IsSettled w s
  pub none_awaits : (key : Key) (stored : Stored) → IsStored w.store.objects (service_at key) stored → has_key s.awaiting key ≡ false
  pub served : is_some s.held.config ≡ true → (key : Key) (service : Service) (stored : Stored) → IsStored w.store.objects (service_at key) stored
      → stored.object ≡ objects.Service service → MeetsRow s.class (offer_in s.held) (recorded w.store) service

-- A world in which no put was refused for good settles so, whatever its controller takes and puts, and in whatever order.
abbrev pub ControllersSettle : Type 0
ControllersSettle =
    (w : WorldValue) → IsGood w → IsOwn w → HasCopies w → AreClear w → (steps : List Step) → AreOwnSteps steps w → IsAtRest (after_steps steps w)
    → IfSome (after_steps steps w).core (IsSettledAsStored (after_steps steps w))

-- and so by the stored configuration, where at first what is held and pending of that leads to it
abbrev pub ControllersConfigure : Type 0
ControllersConfigure =
    (w : WorldValue) → IsGood w → IsOwn w → HasCopies w → HasConfigCopies w → AreClear w → (steps : List Step) → AreOwnSteps steps w
    → IsAtRest (after_steps steps w) → IfSome (after_steps steps w).core (IsConfiguredAsStored (after_steps steps w))

-- So it is where a controller is started over a store, which has services without wrongly shared addresses: after a step for each event of the list of the
-- configuration and five for each of that of the services nothing is left to do, and wherever nothing is, the world is settled, also by the stored
-- configuration; where that has a fault, none is in force.
abbrev pub StartsSettle : Type 0
StartsSettle =
    (class : Option (List ℕ)) (store : StoreValue) → IsGoodStore store → AllByRecursion (λ held. HasTerms held.object) store.objects
    → (steps : List Step) → AreOwnSteps steps (started class store)
    → (let w = started class store in
    let end = after_steps steps w in
    (length steps ≤ length w.config_lane + 5 * length w.service_lane)
    × (IsAtRest end → (s : State) × (end.core ≡ Some s) × IsSettledAsStored end s × IsConfiguredAsStored end s
    × ((fault : ConfigFault) → config_in end.store ≡ Err fault → s.held.config ≡ None)))
