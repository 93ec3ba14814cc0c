-- A world without a core: what is stored, edited, written and read, and nothing of what a controller decides. The newest stands first.
use Rattle.std.specs.Prelude.{◌≡◌, ◌+◌, ℕ, true, if◌then◌else◌, List, [], ◌∷◌, ◌++◌, take, drop, Option, Some, None, is_some, ⊤}
use Rattle.std.specs.List.{Contains}
use Rattle.kube_model.specs.declared.event.Event.{Event}
use Rattle.kube_model.specs.declared.event.Event.TheVariants.{Changed, Deleted, ListEnd, Expired, Members, Frame, Ignored}
use Rattle.kube_model.specs.declared.event.ListGroup.{ListGroup}
use Rattle.kube_model.specs.declared.event.ListGroup.TheVariants as groups
use Rattle.kube_model.specs.declared.key.Key.{Key}
use Rattle.kube_model.specs.declared.object.Kind.{Kind}
use Rattle.kube_model.specs.declared.object.Object.{Object}
use Rattle.kube_model.specs.declared.put.Put.{Put}
use Rattle.kube_model.specs.declared.record.Record.{Record}
use Rattle.kube_model.specs.declared.reply.PutReply.{PutReply}
use Rattle.kube_model.specs.Kinds.{kind_of, group_of}
use Rattle.kube_model.specs.Records.{is_assigned}
use Rattle.sharing_terms.specs.declared.terms.Terms.{Terms}
use Rattle.sharing_terms.specs.Marked.{IsMarkOf}
use Rattle.status_store.specs.declared.change.Outcome.{Outcome}
use Rattle.status_store.specs.declared.change.Outcome.TheVariants.{Lost}
use Rattle.status_store.specs.Objects.{stored_at, with_stored, without_stored}
use Rattle.status_store.specs.Places.{place_of}
use Rattle.status_store.specs.Changes.{StoreValue, kept_record, after_put, reply_to}
use Rattle.core_laws.specs.Shared.{AllShowTerms}
use Rattle.core_rules.specs.Run.{TranscriptEntry, Took, Expired as ExpiredByCore, Turned, Heard, put_out, IsRun}
use Rattle.core_rules.specs.Turn.{put_in}
use Rattle.world_rules.specs.Explaining.{answered, Explains}
use Rattle.world_rules.specs.Good.{IsGoodStore, IsOfGroup}
use Rattle.world_rules.specs.Moves.{Move, IsListOf, after_moves, begun, given_up, stored_with}
use Rattle.world_rules.specs.Safe.{IsSafe}
use Rattle.world_rules.specs.World.{as_shown, to_lane, shown_put}

-- what is stored, what of the services is still to be read and was read last, and which puts are under way
pub record Outside : Type 0 where
  pub store : StoreValue
  pub lane : List Event
  pub last : List Event
  pub late : List Put

pub data Happening : Type 0 where
  SetBy : (object : Object) (holding : Record) → Happening  -- somebody sets an object; a service is stored with this record
  DeletedBy : (kind : Kind) (key : Key) → Happening  -- somebody deletes an object
  ReadsConfig : (event : Event) → Happening  -- something of the configuration is read
  Reads : Happening  -- the next event of the services is read
  ReadsAgain : Happening  -- what was read last of the services is read once more
  Writes : (put : Put) (outcome : Outcome) → Happening  -- a put is written, goes so, and its reply is read
  ConfigRunsOut : Happening  -- the watch of the configuration expires
  ServicesRunOut : (list : List Event) → Happening  -- that of the services does, and this list is going to be read
  EndComesLater : (before : List Event) (event : Event) (behind : List Event) → Happening  -- a change is going to be read ahead of the list's end
  LandsLate : (put : Put) → Happening  -- a put that was given up is stored after all

-- what each makes of it
abbrev pub after_happening : Happening → Outside → Outside
after_happening (SetBy object holding) o = record {
  store = record { objects = with_stored (stored_with o.store object holding) o.store.objects; counter = o.store.counter + 1 };
  lane = o.lane ++ to_lane groups.Service (group_of (kind_of object)) (as_shown (stored_with o.store object holding) ∷ []);
  last = o.last;
  late = o.late;
}
after_happening (DeletedBy kind key) o = let there = is_some (stored_at o.store.objects (kind, key)) in record {
  store = record { objects = without_stored (kind, key) o.store.objects; counter = if there then o.store.counter + 1 else o.store.counter };
  lane = o.lane ++ to_lane groups.Service (group_of kind) (if there then Deleted kind key ∷ [] else []);
  last = o.last;
  late = o.late;
}
after_happening (ReadsConfig event) o = o
after_happening Reads o = record o { lane = drop 1 o.lane; last = take 1 o.lane }
after_happening ReadsAgain o = o
after_happening (Writes put outcome) o = record {
  store = after_put put outcome o.store;
  lane = o.lane ++ shown_put put outcome o.store;
  last = o.last;
  late = given_up outcome (Some put) ++ o.late;
}
after_happening ConfigRunsOut o = o
after_happening (ServicesRunOut list) o = record { store = o.store; lane = list; last = []; late = [] }
after_happening (EndComesLater before event behind) o = record o { lane = before ++ event ∷ ListEnd groups.Service ∷ behind }
after_happening (LandsLate put) o = record {
  store = after_put put (Lost true) o.store;
  lane = o.lane ++ shown_put put (Lost true) o.store;
  last = o.last;
  late = o.late;
}

-- What may happen: where it has an address and a mark, the record of a service that is set is the one that is stored; a list has each service that
-- is stored, in any order, and then its end, which may come later; and of the puts that are under way each may land, at any time.
abbrev pub MayHappen : Happening → Outside → Type 0
MayHappen (SetBy object holding) o =
    is_assigned holding ≡ true → (terms : Terms) → IsMarkOf terms holding.mark → holding ≡ kept_record (stored_at o.store.objects (place_of object))
MayHappen (DeletedBy kind key) o = ⊤
MayHappen (ReadsConfig event) o = IsOfGroup groups.Config event
MayHappen Reads o = ⊤
MayHappen ReadsAgain o = ⊤
MayHappen (Writes put outcome) o = ⊤
MayHappen ConfigRunsOut o = ⊤
MayHappen (ServicesRunOut list) o = IsListOf o.store list
MayHappen (EndComesLater before event behind) o = o.lane ≡ before ++ ListEnd groups.Service ∷ event ∷ behind
MayHappen (LandsLate put) o = Contains o.late put

-- what is there after all of it, after a start over this store, with this list to be read
abbrev pub outside_after : StoreValue → List Event → List Happening → Outside
outside_after store list [] = record { store = store; lane = list; last = []; late = [] }
outside_after store list (h ∷ earlier) = after_happening h (outside_after store list earlier)

abbrev pub MayAllHappen : StoreValue → List Event → List Happening → Type 0
MayAllHappen store list [] = ⊤
MayAllHappen store list (h ∷ earlier) = MayHappen h (outside_after store list earlier) × MayAllHappen store list earlier

-- ---- what is seen of it at the controller's input and output
pub data Seen : Type 0 where
  Read : (event : Event) → Seen  -- an event was read
  RanOut : (group : ListGroup) → Seen  -- the watch of one list has expired
  Wrote : (put : Put) → Seen  -- a put was written
  Answered : (reply : PutReply) → Seen  -- and answered so

abbrev pub read_first : List Event → List Seen
read_first [] = []
read_first (event ∷ more) = Read event ∷ []

abbrev pub seen_by : Happening → Outside → List Seen
seen_by (SetBy object holding) o = []
seen_by (DeletedBy kind key) o = []
seen_by (ReadsConfig event) o = Read event ∷ []
seen_by Reads o = read_first o.lane
seen_by ReadsAgain o = read_first o.last
seen_by (Writes put outcome) o = Answered (reply_to put outcome o.store) ∷ Wrote put ∷ []
seen_by ConfigRunsOut o = RanOut groups.Config ∷ []
seen_by (ServicesRunOut list) o = RanOut groups.Service ∷ []
seen_by (EndComesLater before event behind) o = []
seen_by (LandsLate put) o = []

abbrev pub seen_in : StoreValue → List Event → List Happening → List Seen
seen_in store list [] = []
seen_in store list (h ∷ earlier) = seen_by h (outside_after store list earlier) ++ seen_in store list earlier

-- an event of a list that a controller is shown; nothing is seen of those of endpoint slices, since they change nothing in a controller
abbrev pub seen_of_list : ListGroup → Event → List Seen
seen_of_list groups.Config event = Read event ∷ []
seen_of_list groups.Service event = Read event ∷ []
seen_of_list groups.Endpoint event = []

-- What is seen of an event that is taken: members, frames and what doesn't matter are ignored too; that all watches expire is that one expires
-- after the other. The newest stands first.
abbrev pub seen_event : Event → List Seen
seen_event (Changed version object) = seen_of_list (group_of (kind_of object)) (Changed version object)
seen_event (Deleted kind key) = seen_of_list (group_of kind) (Deleted kind key)
seen_event (ListEnd group) = seen_of_list group (ListEnd group)
seen_event Expired = RanOut groups.Service ∷ RanOut groups.Config ∷ []
seen_event (Members names) = []
seen_event (Frame interface bytes) = []
seen_event Ignored = []

-- what is seen of a run: that a put is in a turn, and what was taken and heard
abbrev pub wrote : Option Put → List Seen
wrote None = []
wrote (Some put) = Wrote put ∷ []

abbrev pub seen_entry : TranscriptEntry → List Seen
seen_entry (Took event) = seen_event event
seen_entry (ExpiredByCore group) = RanOut group ∷ []
seen_entry (Turned turn) = wrote (put_in turn)
seen_entry (Heard reply) = Answered reply ∷ []

abbrev pub seen_of : List TranscriptEntry → List Seen
seen_of [] = []
seen_of (entry ∷ earlier) = seen_entry entry ++ seen_of earlier

-- ---- the relation
-- This is seen in a world: it began over a good store with a list of its services, all that happened may happen, and it is what was read, written
-- and answered, in this order.
pub record IsSeenIn (store : StoreValue) (list : List Event) (happenings : List Happening) (seen : List Seen) : Type 0 where
  pub good : IsGoodStore store
  pub listed : IsListOf store list
  pub may : MayAllHappen store list happenings
  pub same : seen_in store list happenings ≡ seen

-- the store is safe at the beginning, and after each of the happenings
abbrev pub AreSafeSince : StoreValue → List Event → List Happening → Type 0
AreSafeSince store list [] = IsSafe store
AreSafeSince store list (h ∷ earlier) = IsSafe (outside_after store list (h ∷ earlier)).store × AreSafeSince store list earlier

-- so it is where this put, which has no reply yet, goes in whatever way
abbrev pub IsSafeBehind : Option Put → StoreValue → Type 0
IsSafeBehind None store = ⊤
IsSafeBehind (Some put) store = (outcome : Outcome) → IsSafe (after_put put outcome store)

-- In each world in which this is seen, with this put after it, if there is one, the store is safe at each moment.
abbrev pub IsSafeWhereSeen : Option Put → List Seen → Type 0
IsSafeWhereSeen out seen = (store : StoreValue) (list : List Event) (happenings : List Happening) → IsSeenIn store list happenings seen
    → AreSafeSince store list happenings × IsSafeBehind out (outside_after store list happenings).store

-- ---- and runs of a core
-- what is seen of a run but for a last put that has no reply, is seen in a world
abbrev pub IsRunSeenIn : StoreValue → List Event → List Happening → List TranscriptEntry → Type 0
IsRunSeenIn store list happenings run = IsSeenIn store list happenings (seen_of (answered run))

-- some moves explain the run, and come to the same store
pub record IsExplainedAs (class : Option (List ℕ)) (store : StoreValue) (list : List Event) (run : List TranscriptEntry) (left : StoreValue) : Type 0 where
  pub moves : List Move
  pub explains : Explains class store list moves run
  pub leads : (after_moves moves (begun class store list)).store ≡ left

-- where a run of a core is seen in a world, it is explained
abbrev pub SeenAreExplained : Type 0
SeenAreExplained =
    (class : Option (List ℕ)) (store : StoreValue) (list : List Event) (happenings : List Happening) (run : List TranscriptEntry) → IsRun class run
    → IsRunSeenIn store list happenings run → IsExplainedAs class store list run (outside_after store list happenings).store

-- and so the store is safe, at each moment, and where the last put, which has no reply yet, reaches it
abbrev pub SeenAreSafe : Type 0
SeenAreSafe = (class : Option (List ℕ)) (run : List TranscriptEntry) → IsRun class run → AllShowTerms run
    → IsSafeWhereSeen (put_out run) (seen_of (answered run))
