-- The world of a controller: a store that others edit, what of it is still to be shown, and a core that may stop.
use Rattle.std.specs.Prelude.{◌≡◌, ◌≢◌, ◌+◌, ℕ, Bool, true, false, if◌then◌else◌, List, [], ◌∷◌, ◌++◌, map}
use Rattle.std.specs.Prelude.{filter, reverse, Option, Some, None, is_some, IfSome, IsTrue, ⊤}
use Rattle.kube_model.specs.declared.event.Event.{Event}
use Rattle.kube_model.specs.declared.event.Event.TheVariants.{Changed, Deleted, ListEnd}
use Rattle.kube_model.specs.declared.event.ListGroup.{ListGroup}
use Rattle.kube_model.specs.declared.event.ListGroup.TheVariants as groups
use Rattle.kube_model.specs.declared.object.Object.{Object}
use Rattle.kube_model.specs.declared.put.Put.{Put}
use Rattle.kube_model.specs.Kinds.{kind_of, group_of}
use Rattle.kube_model.specs.Records.{is_assigned}
use Rattle.object_history.specs.Observations.{same_group}
use Rattle.status_store.specs.declared.change.Edit.{Edit}
use Rattle.status_store.specs.declared.change.Edit.TheVariants.{Set, Reset, Delete}
use Rattle.status_store.specs.declared.change.Outcome.{Outcome}
use Rattle.status_store.specs.declared.change.Outcome.TheVariants.{Lost}
use Rattle.status_store.specs.declared.stored.Stored.{Stored}
use Rattle.status_store.specs.Places.{service_at}
use Rattle.status_store.specs.Objects.{stored_at, with_stored}
use Rattle.status_store.specs.Changes.{StoreValue, DeletesNothing, edited_place, record_of, set_as, reset_as, edited, is_made, after_put, reply_to, empty_store}
use Rattle.core_rules.specs.declared.turn.Turn.TheVariants.{Idle}
use Rattle.core_rules.specs.Core.{State, fresh}
use Rattle.core_rules.specs.Take.{core_take, core_expired, limits}
use Rattle.core_rules.specs.Turn.{core_turn, after_turn, put_in}
use Rattle.core_rules.specs.Replied.{core_reply}
use Rattle.world_rules.specs.declared.step.ListOrder.{ListOrder}
use Rattle.world_rules.specs.declared.step.ListOrder.TheVariants.{Ascending, Descending}
use Rattle.world_rules.specs.declared.step.Step.{Step}
use Rattle.world_rules.specs.declared.step.Step.TheVariants.{Edit as Edits, Take, Turn as Turns, Crash, Restart, Expire}

pub record WorldValue : Type 0 where
  pub class : Option (List ℕ)  -- the class of services that the controller handles
  pub store : StoreValue
  pub config_lane : List Event  -- what of the configuration is still to be shown, in its order
  pub service_lane : List Event  -- what of the services is
  pub core : Option State  -- none while the controller is down

-- what is still to be shown of a group; endpoint slices are stored, and shown to no controller
abbrev pub lane_of : ListGroup → WorldValue → List Event
lane_of groups.Config w = w.config_lane
lane_of groups.Service w = w.service_lane
lane_of groups.Endpoint w = []

-- ---- what is shown

-- the object as it is stored
abbrev pub as_shown : Stored → Event
as_shown held = Changed held.version held.object

-- whether what is stored is of the group
abbrev pub is_of_group : ListGroup → Stored → Bool
is_of_group group held = same_group (group_of (kind_of held.object)) group

-- in the order of a list: as they stand, or the other way round
abbrev pub in_order : ListOrder → List Event → List Event
in_order Ascending events = events
in_order Descending events = reverse events

-- the list of the group: each stored object of it, by kind and then by key or the other way round, and the end of the list
abbrev pub listing : ListOrder → ListGroup → StoreValue → List Event
listing order group store = in_order order (map as_shown (filter (is_of_group group) store.objects)) ++ ListEnd group ∷ []

-- what an edit has shown: the object as it is stored then, or that it was deleted
abbrev pub shown_edit : Edit → StoreValue → List Event
shown_edit (Set object) store = as_shown (set_as store object) ∷ []
shown_edit (Reset object) store = as_shown (reset_as store object) ∷ []
shown_edit (Delete kind key) store = if is_some (stored_at store.objects (kind, key)) then Deleted kind key ∷ [] else []

-- what was stored, if it was
abbrev pub shown_stored : Option Stored → List Event
shown_stored None = []
shown_stored (Some held) = as_shown held ∷ []

-- a put that was made is shown to whoever watches
abbrev pub shown_put : Put → Outcome → StoreValue → List Event
shown_put put outcome store =
    if is_made put outcome store.objects then shown_stored (stored_at (after_put put outcome store).objects (service_at put.key)) else []

-- to a controller that is up
abbrev pub while_up : Option State → List Event → List Event
while_up None events = []
while_up (Some s) events = events

-- the events of one group go to its lane
abbrev pub to_lane : ListGroup → ListGroup → List Event → List Event
to_lane lane group events = if same_group group lane then events else []

-- ---- what each step makes of a world

-- somebody edits the store: a controller that is up is going to be shown it
abbrev pub after_edit : Edit → WorldValue → WorldValue
after_edit edit w =
    let shown = while_up w.core (shown_edit edit w.store) in
    let group = group_of (edited_place edit).0 in
    record w {
      store = edited edit w.store;
      config_lane = w.config_lane ++ to_lane groups.Config group shown;
      service_lane = w.service_lane ++ to_lane groups.Service group shown;
    }

-- the core after the first event of a lane
abbrev pub told : Option State → List Event → Option State
told None lane = None
told (Some s) [] = Some s
told (Some s) (event ∷ more) = Some (core_take s event)

-- the lane after its first event, where there is a controller that takes it
abbrev pub untold : Option State → List Event → List Event
untold None lane = lane
untold (Some s) [] = []
untold (Some s) (event ∷ more) = more

-- the controller takes the next event of a lane
abbrev pub after_take : ListGroup → WorldValue → WorldValue
after_take groups.Config w = record w { config_lane = untold w.core w.config_lane; core = told w.core w.config_lane }
after_take groups.Service w = record w { service_lane = untold w.core w.service_lane; core = told w.core w.service_lane }
after_take groups.Endpoint w = w

-- A put goes to the store; where it is made, its service is going to be shown. The core, which has it out, hears the reply.
abbrev pub put_by : State → Put → Outcome → WorldValue → WorldValue
put_by s put outcome w = record w {
  store = after_put put outcome w.store;
  service_lane = w.service_lane ++ shown_put put outcome w.store;
  core = Some (core_reply s (reply_to put outcome w.store));
}

-- the core has made a turn
abbrev pub turned : State → Option Put → Outcome → WorldValue → WorldValue
turned s None outcome w = record w { core = Some s }
turned s (Some put) outcome w = put_by s put outcome w

-- the controller makes a turn, and hears of its put
abbrev pub after_turning : Option State → Outcome → WorldValue → WorldValue
after_turning None outcome w = w
after_turning (Some s) outcome w = turned (after_turn s) (put_in (core_turn s)) outcome w

-- the put that the next turn would want
abbrev pub next_put : Option State → Option Put
next_put None = None
next_put (Some s) = put_in (core_turn s)

-- the store, once the put has reached it, if there is one and it is applied
abbrev pub reached : Option Put → Bool → StoreValue → StoreValue
reached None applied store = store
reached (Some put) applied store = after_put put (Lost applied) store

-- the controller stops: what it knew and what was to be shown to it is lost
abbrev pub after_crash : Bool → WorldValue → WorldValue
after_crash applied w = record w {
  store = reached (next_put w.core) applied w.store;
  config_lane = [];
  service_lane = [];
  core = None;
}

-- the controller is started, knows nothing, and is going to be shown the lists of what is stored
abbrev pub restarted : ListOrder → Option State → WorldValue → WorldValue
restarted order (Some s) w = w
restarted order None w = record w {
  config_lane = listing order groups.Config w.store;
  service_lane = listing order groups.Service w.store;
  core = Some (fresh w.class);
}

-- the core after a watch of its own has expired
abbrev pub expired_core : ListGroup → Option State → Option State
expired_core group None = None
expired_core group (Some s) = Some (core_expired s group)

-- the list of the group in place of what was pending
abbrev pub listed_anew : ListOrder → ListGroup → ListGroup → StoreValue → Option State → List Event → List Event
listed_anew order lane group store None pending = pending
listed_anew order lane group store (Some s) pending = if same_group group lane then listing order lane store else pending

-- the watch of a lane expires: what was pending in it is lost, and the list is going to be shown anew
abbrev pub after_expiry : ListGroup → ListOrder → WorldValue → WorldValue
after_expiry group order w = record w {
  config_lane = listed_anew order groups.Config group w.store w.core w.config_lane;
  service_lane = listed_anew order groups.Service group w.store w.core w.service_lane;
  core = expired_core group w.core;
}

-- the world after a step
abbrev pub world_step : Step → WorldValue → WorldValue
world_step (Edits edit) w = after_edit edit w
world_step (Take group) w = after_take group w
world_step (Turns outcome) w = after_turning w.core outcome w
world_step (Crash applied) w = after_crash applied w
world_step (Restart order) w = restarted order w.core w
world_step (Expire group order) w = after_expiry group order w

-- ---- which steps there are

-- the controller is up
abbrev pub IsUp : WorldValue → Type 0
IsUp w = w.core ≢ None

-- the group has a lane
abbrev pub HasLane : ListGroup → Type 0
HasLane group = group ≢ groups.Endpoint

-- an object that is set with its own record has no address in it
abbrev pub ResetsBare : Edit → Type 0
ResetsBare (Set object) = ⊤
ResetsBare (Reset object) = is_assigned (record_of object) ≡ false
ResetsBare (Delete kind key) = ⊤

-- What is deleted is there, no edit gives an address, an event is pending in the lane, and something is queued; the controller is down to be started, and up
-- for whatever else it does.
abbrev pub IsEnabled : Step → WorldValue → Type 0
IsEnabled (Edits edit) w = ¬ (DeletesNothing edit w.store.objects) × ResetsBare edit
IsEnabled (Take group) w = IsUp w × (lane_of group w ≢ [])
IsEnabled (Turns outcome) w = IsUp w × IfSome w.core (λ s. core_turn s ≢ Idle)
IsEnabled (Crash applied) w = IsUp w
IsEnabled (Restart order) w = w.core ≡ None
IsEnabled (Expire group order) w = IsUp w × HasLane group

-- the greatest version that there is
abbrev pub most_versions : ℕ
most_versions = 18446744073709551615

-- every version has been given
abbrev pub AreUsedUp : WorldValue → Type 0
AreUsedUp w = w.store.counter ≡ most_versions

-- the first event of the lane would have one more service held than may be
abbrev pub PassesLimit : Option State → List Event → Type 0
PassesLimit None lane = ⊥
PassesLimit (Some s) [] = ⊥
PassesLimit (Some s) (event ∷ more) = limits s event ≡ true

-- the step would give a version, and every version has been given; or the core refuses the event
abbrev pub IsLimited : Step → WorldValue → Type 0
IsLimited (Edits edit) w = AreUsedUp w
IsLimited (Take group) w = PassesLimit w.core (lane_of group w)
IsLimited (Turns outcome) w = AreUsedUp w
IsLimited (Crash applied) w = IsTrue applied × AreUsedUp w
IsLimited (Restart order) w = ⊥
IsLimited (Expire group order) w = ⊥

-- ---- beginnings, and lists of steps

-- the store of these objects, each set after the other
abbrev pub store_of : List Object → StoreValue → StoreValue
store_of [] store = store
store_of (object ∷ more) store = store_of more (edited (Set object) store)

-- the object is stored at the next version as it is handed in, a service with its record
abbrev pub with_object : Object → StoreValue → StoreValue
with_object object store = record {
  objects = with_stored (record { version = store.counter + 1; object = object }) store.objects;
  counter = store.counter + 1;
}

-- the store of these objects, each put into it so after the other
abbrev pub records_store : List Object → StoreValue → StoreValue
records_store [] store = store
records_store (object ∷ more) store = records_store more (with_object object store)

-- a controller that was just started over a store, and is going to be shown its lists in the store's order
abbrev pub started : Option (List ℕ) → StoreValue → WorldValue
started class store = record {
  class = class;
  store = store;
  config_lane = listing Ascending groups.Config store;
  service_lane = listing Ascending groups.Service store;
  core = Some (fresh class);
}

-- a new world
abbrev pub new_world : Option (List ℕ) → List Object → WorldValue
new_world class objects = started class (store_of objects empty_store)

-- a new world whose services have the records that are handed in
abbrev pub recorded_world : Option (List ℕ) → List Object → WorldValue
recorded_world class objects = started class (records_store objects empty_store)

-- the world after these steps, the first of which stands first
abbrev pub after_steps : List Step → WorldValue → WorldValue
after_steps [] w = w
after_steps (step ∷ steps) w = after_steps steps (world_step step w)
