-- What may happen in a cluster. It is wider than what `World` does in all that an API server and its watches are free in: records that are
-- emptied, lists in any order, changes shown ahead of a list's end, and whatever is shown of the configuration.
use Rattle.std.specs.Prelude.{◌≡◌, ◌+◌, ◌⊎◌, ℕ, Bool, true, if◌then◌else◌, List, [], ◌∷◌, ◌++◌, map, filter, Option, Some, None, IfSome, is_some, ⊤}
use Rattle.std.specs.List.{Contains}
use Rattle.std.specs.Option.{option_map}
use Rattle.kube_model.specs.declared.event.Event.{Event}
use Rattle.kube_model.specs.declared.event.Event.TheVariants.{ListEnd}
use Rattle.kube_model.specs.declared.event.ListGroup.{ListGroup}
use Rattle.kube_model.specs.declared.event.ListGroup.TheVariants as groups
use Rattle.kube_model.specs.declared.key.Key.{Key}
use Rattle.kube_model.specs.declared.object.Kind.{Kind}
use Rattle.kube_model.specs.declared.object.Object.{Object}
use Rattle.kube_model.specs.declared.put.Put.{Put}
use Rattle.kube_model.specs.declared.record.Record.{Record}
use Rattle.kube_model.specs.Kinds.{kind_of, group_of}
use Rattle.kube_model.specs.Records.{is_assigned}
use Rattle.world_rules.specs.Tracked.{is_given}
use Rattle.status_store.specs.declared.change.Edit.TheVariants.{Delete}
use Rattle.status_store.specs.declared.change.Outcome.{Outcome}
use Rattle.status_store.specs.declared.change.Outcome.TheVariants.{Delivered, Lost, Refused}
use Rattle.status_store.specs.declared.stored.Stored.{Stored}
use Rattle.status_store.specs.Places.{place_of}
use Rattle.status_store.specs.Objects.{stored_at, with_stored}
use Rattle.status_store.specs.Changes.{StoreValue, kept_record, with_record, after_put, reply_to}
use Rattle.core_rules.specs.Core.{State, fresh}
use Rattle.core_rules.specs.Take.{core_take}
use Rattle.core_rules.specs.Turn.{core_turn, put_in}
use Rattle.core_rules.specs.Run.{TranscriptEntry, Took, Expired, Turned, Heard}
use Rattle.core_laws.specs.Shared.{AllShowTerms}
use Rattle.world_rules.specs.Good.{IsOfGroup}
use Rattle.world_rules.specs.World.{WorldValue, as_shown, is_of_group, while_up, to_lane, shown_put, after_edit, after_take, after_turning, next_put, after_crash}
use Rattle.world_rules.specs.World.{expired_core}

pub data Move : Type 0 where
  Sets : (object : Object) (holding : Record) → Move  -- somebody sets an object; a service is stored with this record
  Deletes : (kind : Kind) (key : Key) → Move  -- somebody deletes an object
  Tells : (event : Event) → Move  -- the controller is shown something of the configuration, or once more what leaves its core as it is
  Takes : Move  -- it takes the next event of the services
  Turns : (outcome : Outcome) → Move  -- it makes a turn; where it wants a put, the put goes so, and its reply is heard
  Stops : (applied : Bool) → Move  -- it stops; the put that its next turn would want has reached the store, if it is applied
  Starts : (list : List Event) → Move  -- it is started anew, and is going to be shown this list of the services
  ConfigExpires : Move  -- the watch of the configuration expires
  ServicesExpire : (list : List Event) → Move  -- that of the services does, and this list is going to be shown
  EndsLater : (before : List Event) (event : Event) (behind : List Event) → Move  -- a change is going to be shown ahead of the list's end
  Lands : (put : Put) → Move  -- a put that was given up reaches the store after all

-- ---- which moves there are

-- these events, in any order
abbrev pub InAnyOrder : List Event → List Event → Type 0
InAnyOrder [] lane = lane ≡ []
InAnyOrder (event ∷ more) lane =
    (before : List Event) × (behind : List Event) × (lane ≡ before ++ event ∷ behind) × InAnyOrder more (before ++ behind)

-- a list of the services: one event for each that is stored, in any order, and the end after them
abbrev pub IsListOf : StoreValue → List Event → Type 0
IsListOf store list =
    (shown : List Event) × (list ≡ shown ++ ListEnd groups.Service ∷ []) × InAnyOrder (map as_shown (filter (is_of_group groups.Service) store.objects)) shown

-- the put, if there is one
abbrev pub puts_in : Option Put → List Put
puts_in None = []
puts_in (Some put) = put ∷ []

-- a put whose reply is lost may be under way for a while yet
abbrev pub given_up : Outcome → Option Put → List Put
given_up Delivered found = []
given_up (Lost applied) found = puts_in found
given_up Refused found = []

-- The puts that are under way after a move, given up by the controller: those whose reply was lost, and the one that was out when it stopped.
-- Before a new list of the services is begun each of them has ended.
abbrev pub under_way : Move → WorldValue → List Put → List Put
under_way (Sets object holding) w late = late
under_way (Deletes kind key) w late = late
under_way (Tells event) w late = late
under_way Takes w late = late
under_way (Turns outcome) w late = given_up outcome (next_put w.core) ++ late
under_way (Stops applied) w late = puts_in (next_put w.core) ++ late
under_way (Starts list) w late = if is_some w.core then late else []
under_way ConfigExpires w late = late
under_way (ServicesExpire list) w late = if is_some w.core then [] else late
under_way (EndsLater before event behind) w late = late
under_way (Lands put) w late = late

-- the event leaves the core as it is
abbrev pub IsOld : Event → Option State → Type 0
IsOld event core = IfSome core (λ s. core_take s event ≡ s)

-- Where it has an address and a mark, the record of a service that is set is the one that is stored. Of the configuration the controller may be
-- shown whatever is of it, pending or not, in any order and as often as may be; and whatever leaves its core as it is, as what it was shown last does.
-- The end of a list of services, which stands after what was listed, may come later than changes that were made since. Of the puts that are under
-- way each may land, at any time.
abbrev pub IsMove : Move → WorldValue → List Put → Type 0
IsMove (Sets object holding) w late = is_given holding ≡ true → holding ≡ kept_record (stored_at w.store.objects (place_of object))
IsMove (Deletes kind key) w late = ⊤
IsMove (Tells event) w late = IsOfGroup groups.Config event ⊎ IsOld event w.core
IsMove Takes w late = ⊤
IsMove (Turns outcome) w late = ⊤
IsMove (Stops applied) w late = ⊤
IsMove (Starts list) w late = IsListOf w.store list
IsMove ConfigExpires w late = ⊤
IsMove (ServicesExpire list) w late = IsListOf w.store list
IsMove (EndsLater before event behind) w late = w.service_lane ≡ before ++ ListEnd groups.Service ∷ event ∷ behind
IsMove (Lands put) w late = Contains late put

-- no put lands late, and an edit that sets a service leaves the record that is stored, or one without an address
abbrev pub KeepsOrBares : Move → WorldValue → Type 0
KeepsOrBares (Sets object holding) w = is_assigned holding ≡ true → holding ≡ kept_record (stored_at w.store.objects (place_of object))
KeepsOrBares (Deletes kind key) w = ⊤
KeepsOrBares (Tells event) w = ⊤
KeepsOrBares Takes w = ⊤
KeepsOrBares (Turns outcome) w = ⊤
KeepsOrBares (Stops applied) w = ⊤
KeepsOrBares (Starts list) w = ⊤
KeepsOrBares ConfigExpires w = ⊤
KeepsOrBares (ServicesExpire list) w = ⊤
KeepsOrBares (EndsLater before event behind) w = ⊤
KeepsOrBares (Lands put) w = ⊥

-- ---- what each makes of a world

-- what is stored of an object that is set with this record
abbrev pub stored_with : StoreValue → Object → Record → Stored
stored_with store object holding = record { version = store.counter + 1; object = with_record holding object }

-- it is stored, and a controller that is up is going to be shown it
abbrev pub after_set : Object → Record → WorldValue → WorldValue
after_set object holding w =
    let new : Stored = stored_with w.store object holding in
    record w {
      store = record { objects = with_stored new w.store.objects; counter = w.store.counter + 1 };
      service_lane = w.service_lane ++ to_lane groups.Service (group_of (kind_of object)) (while_up w.core (as_shown new ∷ []));
    }

-- where the controller is down, it is started, and is going to be shown the list
abbrev pub after_start : Option State → List Event → WorldValue → WorldValue
after_start (Some s) list w = w
after_start None list w = record w { service_lane = list; core = Some (fresh w.class) }

-- the list takes the place of what was pending, where a controller is up
abbrev pub relisted : Option State → List Event → List Event → List Event
relisted None list pending = pending
relisted (Some s) list pending = list

-- a put reaches the store; where it is made, its service is going to be shown to a controller that is up
abbrev pub after_landing : Put → WorldValue → WorldValue
after_landing put w =
    record w { store = after_put put (Lost true) w.store; service_lane = w.service_lane ++ while_up w.core (shown_put put (Lost true) w.store) }

abbrev pub after_move : Move → WorldValue → WorldValue
after_move (Sets object holding) w = after_set object holding w
after_move (Deletes kind key) w = after_edit (Delete kind key) w
after_move (Tells event) w = record w { core = option_map (λ s. core_take s event) w.core }
after_move Takes w = after_take groups.Service w
after_move (Turns outcome) w = after_turning w.core outcome w
after_move (Stops applied) w = after_crash applied w
after_move (Starts list) w = after_start w.core list w
after_move ConfigExpires w = record w { core = expired_core groups.Config w.core }
after_move (ServicesExpire list) w = record w { service_lane = relisted w.core list w.service_lane; core = expired_core groups.Service w.core }
after_move (EndsLater before event behind) w = record w { service_lane = before ++ event ∷ ListEnd groups.Service ∷ behind }
after_move (Lands put) w = after_landing put w

-- ---- what each is to the core, the newest first

-- it takes the first of these events
abbrev pub entries_taken : Option State → List Event → List TranscriptEntry
entries_taken None events = []
entries_taken (Some s) [] = []
entries_taken (Some s) (event ∷ more) = Took event ∷ []

-- its put, if it wants one, is answered
abbrev pub entries_put : Option Put → Outcome → StoreValue → List TranscriptEntry
entries_put None outcome store = []
entries_put (Some put) outcome store = Heard (reply_to put outcome store) ∷ []

-- it makes a turn
abbrev pub entries_turned : Option State → Outcome → StoreValue → List TranscriptEntry
entries_turned None outcome store = []
entries_turned (Some s) outcome store = entries_put (put_in (core_turn s)) outcome store ++ Turned (core_turn s) ∷ []

-- the watch of a list expires
abbrev pub entries_expired : Option State → ListGroup → List TranscriptEntry
entries_expired None group = []
entries_expired (Some s) group = Expired group ∷ []

abbrev pub entries_of : Move → WorldValue → List TranscriptEntry
entries_of (Sets object holding) w = []
entries_of (Deletes kind key) w = []
entries_of (Tells event) w = entries_taken w.core (event ∷ [])
entries_of Takes w = entries_taken w.core w.service_lane
entries_of (Turns outcome) w = entries_turned w.core outcome w.store
entries_of (Stops applied) w = []
entries_of (Starts list) w = []
entries_of ConfigExpires w = entries_expired w.core groups.Config
entries_of (ServicesExpire list) w = entries_expired w.core groups.Service
entries_of (EndsLater before event behind) w = []
entries_of (Lands put) w = []

-- ---- the relation, and lists of moves

-- a world without what is pending of the configuration
abbrev pub but_config : WorldValue → WorldValue
but_config w = record w { config_lane = [] }

-- One step from a world to the next, while no put is under way: what the move makes of it, where services are shown terms that there can be. Nothing is said of what
-- is pending of the configuration.
pub record IsStep (old : WorldValue) (move : Move) (new : WorldValue) : Type 0 where
  pub may : IsMove move old []
  pub typed : AllShowTerms (entries_of move old)
  pub leads : but_config new ≡ but_config (after_move move old)

-- each of the moves is one, where these puts are under way
abbrev pub AreMoves : List Move → WorldValue → List Put → Type 0
AreMoves [] w late = ⊤
AreMoves (move ∷ moves) w late = IsMove move w late × AreMoves moves (after_move move w) (under_way move w late)

-- the world after these moves, the first of which stands first
abbrev pub after_moves : List Move → WorldValue → WorldValue
after_moves [] w = w
after_moves (move ∷ moves) w = after_moves moves (after_move move w)

-- all that the core was shown and did, after an earlier run
abbrev pub run_along : List Move → WorldValue → List TranscriptEntry → List TranscriptEntry
run_along [] w earlier = earlier
run_along (move ∷ moves) w earlier = run_along moves (after_move move w) (entries_of move w ++ earlier)

-- a controller that was just started over a store, and is going to be shown this list of its services
abbrev pub begun : Option (List ℕ) → StoreValue → List Event → WorldValue
begun class store list = record { class = class; store = store; config_lane = []; service_lane = list; core = Some (fresh class) }
