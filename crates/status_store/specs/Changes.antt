-- What edits and puts make of what is stored, and what they are answered.
use Rattle.std.specs.Prelude.{◌≡◌, ◌⊎◌, ◌≢◌, ◌+◌, ◌==◌, ◌&&◌, ℕ, Bool, true, false, List, [], Option, Some, None, is_some, IsTrue, ⊤, if◌then◌else◌}
use Rattle.kube_model.specs.declared.object.Object.{Object}
use Rattle.kube_model.specs.declared.object.Object.TheVariants as objects
use Rattle.kube_model.specs.declared.put.Put.{Put}
use Rattle.kube_model.specs.declared.record.Record.{Record}
use Rattle.kube_model.specs.declared.reply.PutReply.{PutReply}
use Rattle.kube_model.specs.declared.reply.PutReply.TheVariants as replies
use Rattle.kube_model.specs.Records.{empty_record}
use Rattle.kube_model.specs.Service.{with_holding}
use Rattle.status_store.specs.declared.change.Edit.{Edit}
use Rattle.status_store.specs.declared.change.Edit.TheVariants.{Set, Reset, Delete}
use Rattle.status_store.specs.declared.change.Outcome.{Outcome}
use Rattle.status_store.specs.declared.change.Outcome.TheVariants.{Delivered, Lost, Refused}
use Rattle.status_store.specs.declared.stored.Stored.{Stored}
use Rattle.status_store.specs.Places.{Place, place_of, service_at}
use Rattle.status_store.specs.Objects.{IsStored, IsAbsent, IsAscending, AreCounted, stored_at, with_stored, without_stored}

-- what is stored, and the version of the last change; 0 before the first
pub record StoreValue : Type 0 where
  pub objects : List Stored
  pub counter : ℕ

-- what holds of every store
pub record IsWellFormed (s : StoreValue) : Type 0 where
  pub ascending : IsAscending s.objects
  pub counted : AreCounted s.counter s.objects

-- nothing is stored yet
abbrev pub empty_store : StoreValue
empty_store = record { objects = []; counter = 0 }

-- ---- records

-- the record of a service; an object of another kind has none
abbrev pub record_of : Object → Record
record_of (objects.Service service) = service.holding
record_of _ = empty_record

-- a service with this record; an object of another kind as it is
abbrev pub with_record : Record → Object → Object
with_record holding (objects.Service service) = objects.Service (with_holding holding service)
with_record holding object = object

-- it is the stored record, and an empty one where nothing is stored at the place
pub record IsKeptRecord (objects : List Stored) (place : Place) (holding : Record) : Type 0 where
  pub stored : (held : Stored) → IsStored objects place held → holding ≡ record_of held.object
  pub absent : IsAbsent objects place → holding ≡ empty_record

-- ---- edits

-- an object is set: it is stored at the next version as it was handed in, but for the record, which stays
pub record SetsObject (object : Object) (old new : StoreValue) : Type 0 where
  pub holding : Record
  pub kept : IsKeptRecord old.objects (place_of object) holding
  pub stored : IsStored new.objects (place_of object) (record { version = old.counter + 1; object = with_record holding object })

-- where an edit sets an object, this holds of it
abbrev pub OnSet : Edit → (Object → Type 0) → Type 0
OnSet (Set object) P = P object
OnSet (Reset object) P = ⊤
OnSet (Delete kind key) P = ⊤

-- an object is set with its own record: it is stored at the next version just as it was handed in
abbrev pub ResetsObject : Object → StoreValue → StoreValue → Type 0
ResetsObject object old new = IsStored new.objects (place_of object) (record { version = old.counter + 1; object = object })

-- where an edit does so, this holds of the object
abbrev pub OnReset : Edit → (Object → Type 0) → Type 0
OnReset (Set object) P = ⊤
OnReset (Reset object) P = P object
OnReset (Delete kind key) P = ⊤

-- where an edit deletes what is stored at a place, this holds of the place
abbrev pub OnDelete : Edit → (Place → Type 0) → Type 0
OnDelete (Set object) P = ⊤
OnDelete (Reset object) P = ⊤
OnDelete (Delete kind key) P = P (kind, key)

-- the edit deletes, and nothing is stored there
abbrev pub DeletesNothing : Edit → List Stored → Type 0
DeletesNothing (Set object) objects = ⊥
DeletesNothing (Reset object) objects = ⊥
DeletesNothing (Delete kind key) objects = IsAbsent objects (kind, key)

-- the place that is edited
abbrev pub edited_place : Edit → Place
edited_place (Set object) = place_of object
edited_place (Reset object) = place_of object
edited_place (Delete kind key) = (kind, key)

-- the record that stays
abbrev pub kept_record : Option Stored → Record
kept_record None = empty_record
kept_record (Some held) = record_of held.object

-- what is stored of an object that is set
abbrev pub set_as : StoreValue → Object → Stored
set_as s object = record { version = s.counter + 1; object = with_record (kept_record (stored_at s.objects (place_of object))) object }

-- and of one that is set with its own record
abbrev pub reset_as : StoreValue → Object → Stored
reset_as s object = record { version = s.counter + 1; object = object }

-- whether the edit changes anything
abbrev pub is_change : Edit → StoreValue → Bool
is_change (Set object) s = true
is_change (Reset object) s = true
is_change (Delete kind key) s = is_some (stored_at s.objects (kind, key))

-- what is stored after an edit
abbrev pub edited : Edit → StoreValue → StoreValue
edited (Set object) s = record { objects = with_stored (set_as s object) s.objects; counter = s.counter + 1 }
edited (Reset object) s = record { objects = with_stored (reset_as s object) s.objects; counter = s.counter + 1 }
edited (Delete kind key) s = record {
  objects = without_stored (kind, key) s.objects;
  counter = if is_some (stored_at s.objects (kind, key)) then s.counter + 1 else s.counter;
}

-- ---- puts

-- the put is lost, whether it was applied or not
abbrev pub IsLost : Outcome → Type 0
IsLost Delivered = ⊥
IsLost (Lost applied) = ⊤
IsLost Refused = ⊥

-- whether the put reaches the store
abbrev pub arrives : Outcome → Bool
arrives Delivered = true
arrives (Lost applied) = applied
arrives Refused = false

-- the service is stored at the put's version
abbrev pub IsCurrent : List Stored → Put → Type 0
IsCurrent objects put = (held : Stored) × IsStored objects (service_at put.key) held × (held.version ≡ put.version)

-- the service is stored at another version
abbrev pub IsOutdated : List Stored → Put → Type 0
IsOutdated objects put = (held : Stored) × IsStored objects (service_at put.key) held × (held.version ≢ put.version)

-- the put is stale: it was refused, or the service is stored at another version
abbrev pub IsStale : Put → Outcome → List Stored → Type 0
IsStale put outcome objects = (outcome ≡ Refused) ⊎ ((outcome ≡ Delivered) × IsOutdated objects put)

-- the put changes what is stored: it arrives, and the service is stored at its version
abbrev pub IsMade : Put → Outcome → List Stored → Type 0
IsMade put outcome objects = IsTrue (arrives outcome) × IsCurrent objects put

-- what was stored, at this version and with this record
abbrev pub recorded : ℕ → Record → Stored → Stored
recorded version holding held = record { version = version; object = with_record holding held.object }

-- the service that was stored is stored with the put's record at the next version
abbrev pub RecordsPut : Put → StoreValue → StoreValue → Type 0
RecordsPut put old new =
    (held : Stored) → IsStored old.objects (service_at put.key) held
    → IsStored new.objects (service_at put.key) (recorded (old.counter + 1) put.holding held)

-- `is_made`, where what is stored is given
abbrev pub is_at_version : ℕ → Option Stored → Bool
is_at_version version None = false
is_at_version version (Some held) = held.version == version

-- whether the put changes what is stored
abbrev pub is_made : Put → Outcome → List Stored → Bool
is_made put outcome objects = arrives outcome && is_at_version put.version (stored_at objects (service_at put.key))

-- the list with the put's record, at this version, in what was stored
abbrev pub with_put : ℕ → Put → Option Stored → List Stored → List Stored
with_put version put None objects = objects
with_put version put (Some held) objects = with_stored (recorded version put.holding held) objects

-- what is stored after a put
abbrev pub after_put : Put → Outcome → StoreValue → StoreValue
after_put put outcome s = record {
  objects = if is_made put outcome s.objects then with_put (s.counter + 1) put (stored_at s.objects (service_at put.key)) s.objects else s.objects;
  counter = if is_made put outcome s.objects then s.counter + 1 else s.counter;
}

-- what a delivered put is answered, where what is stored is given
abbrev pub delivered_reply : ℕ → Put → Option Stored → PutReply
delivered_reply counter put None = replies.Missing
delivered_reply counter put (Some held) = if held.version == put.version then replies.Ok (counter + 1) else replies.Stale

-- what a put is answered
abbrev pub reply_to : Put → Outcome → StoreValue → PutReply
reply_to put Delivered s = delivered_reply s.counter put (stored_at s.objects (service_at put.key))
reply_to put (Lost applied) s = replies.Unknown
reply_to put Refused s = replies.Stale
