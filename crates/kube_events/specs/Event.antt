-- What a line of a watch says.
use Rattle.std.specs.Prelude.{◌≡◌, ℕ, List, Bool, true, false, Option, Some, None, Result, Ok, Err, option_and_then, codes, if◌then◌else◌, ⊤}
use Rattle.std.specs.Str.{bytes_eq}
use Rattle.serde_json.specs.Data.{Data}
use Rattle.serde_json.specs.Find.{get, as_str}
use Rattle.json_fields.specs.Path.{Path}
use Rattle.json_values.specs.Line.{value_of_line}
use Rattle.json_fields.specs.Reading.{is_text}
use Rattle.kube_model.specs.declared.event.Event.{Event}
use Rattle.kube_model.specs.declared.event.Event.TheVariants.{ListEnd, Expired, Ignored}
use Rattle.kube_model.specs.declared.event.EventFault.{EventFault}
use Rattle.kube_model.specs.declared.event.EventFault.TheVariants.{NotJson, NotEvent, Field, NoMemory}
use Rattle.kube_model.specs.declared.event.ListGroup.{ListGroup}
use Rattle.kube_model.specs.declared.event.ListGroup.TheVariants as groups
use Rattle.kube_model.specs.declared.object.Kind.{Kind}
use Rattle.kube_model.specs.declared.object.Kind.TheVariants as kinds
use Rattle.kube_events.specs.declared.reading.EventType.{EventType}
use Rattle.kube_events.specs.declared.reading.EventType.TheVariants as changes
use Rattle.kube_model.specs.Named.{kind_named}
use Rattle.kube_events.specs.ObjectFields.{changed_of, deleted_of}
use Rattle.kube_events.specs.Members.{members_of}
use Rattle.kube_events.specs.Frame.{frame_of}

-- ---- what a call returned, against what is read

abbrev pub in_field : {A : Type 0} → Result A Path → Result A EventFault
in_field (Ok x) = Ok x
in_field (Err path) = Err (Field path)

-- The fault is the one that reading meets, unless memory ran out.
abbrev pub FailsEvent : EventFault → Result Event EventFault → Type 0
FailsEvent NotJson read = read ≡ Err NotJson
FailsEvent NotEvent read = read ≡ Err NotEvent
FailsEvent (Field path) read = read ≡ Err (Field path)
FailsEvent NoMemory read = ⊤

-- What a call returned is what the line says, unless memory ran out.
abbrev pub GivesEvent : Result Event EventFault → Result Event EventFault → Type 0
GivesEvent (Ok event) read = read ≡ Ok event
GivesEvent (Err fault) read = FailsEvent fault read

-- ---- bookmarks

-- the group whose list a bookmark of this kind may end
abbrev pub listed_in : Kind → Option ListGroup
listed_in kinds.Pool = Some groups.Config
listed_in kinds.Service = Some groups.Service
listed_in kinds.Slice = Some groups.Endpoint
listed_in kinds.L2 = None
listed_in kinds.Bgp = None
listed_in kinds.Peer = None
listed_in kinds.Community = None
listed_in kinds.Namespace = None
listed_in kinds.Node = None

abbrev pub text_in : List ℕ → Data → Option (List ℕ)
text_in name d = option_and_then as_str (get name d)

-- the annotation that says whether a list ends (Kubernetes, WatchList), where it is a text
abbrev pub end_annotation : Data → Option (List ℕ)
end_annotation d =
    option_and_then as_str (option_and_then (get (codes "k8s.io/initial-events-end")) (option_and_then (get (codes "annotations")) (get (codes "metadata") d)))

-- A bookmark ends a list where that annotation is true.
unfoldable pub ends_list : Data → Bool
ends_list d = is_text (end_annotation d) (codes "true")

abbrev pub list_end : Option ListGroup → Bool → Event
list_end (Some group) true = ListEnd group
list_end (Some group) false = Ignored
list_end None ends = Ignored

abbrev pub bookmark_of : Kind → Data → Event
bookmark_of kind d = list_end (listed_in kind) (ends_list d)

-- ---- lines

abbrev pub Says : Type 0
Says = Kind → Data → Result Event EventFault

-- The object is there.
abbrev pub set_event : Says
set_event kind d = in_field (changed_of kind d)

-- The object is gone.
abbrev pub deleted_event : Says
deleted_event kind d = in_field (deleted_of kind d)

abbrev pub bookmark_event : Says
bookmark_event kind d = Ok (bookmark_of kind d)

-- An object of a kind that isn't read is ignored.
abbrev pub of_kind : Says → Option Kind → Data → Result Event EventFault
of_kind says None d = Ok Ignored
of_kind says (Some kind) d = says kind d

abbrev pub of_object : Says → Option (List ℕ) → Data → Result Event EventFault
of_object says None d = Err NotEvent
of_object says (Some name) d = of_kind says (kind_named name) d

-- what is said of the object of a line
abbrev pub watched : Says → Option Data → Result Event EventFault
watched says None = Err NotEvent
watched says (Some d) = of_object says (text_in (codes "kind") d) d

-- a line of this type
abbrev pub of_type : List ℕ → Data → Result Event EventFault
of_type name line = if bytes_eq name (codes "ADDED") then watched set_event (get (codes "object") line) else
    if bytes_eq name (codes "MODIFIED") then watched set_event (get (codes "object") line) else
    if bytes_eq name (codes "DELETED") then watched deleted_event (get (codes "object") line) else
    if bytes_eq name (codes "BOOKMARK") then watched bookmark_event (get (codes "object") line) else
    if bytes_eq name (codes "ERROR") then Ok Expired else
    if bytes_eq name (codes "MEMBERS") then in_field (members_of line) else
    if bytes_eq name (codes "FRAME") then in_field (frame_of line) else Err NotEvent

abbrev pub of_type_if : Option (List ℕ) → Data → Result Event EventFault
of_type_if None line = Err NotEvent
of_type_if (Some name) line = of_type name line

unfoldable pub event_of : Data → Result Event EventFault
event_of line = of_type_if (text_in (codes "type") line) line

abbrev pub event_if : Option Data → Result Event EventFault
event_if None = Err NotJson
event_if (Some d) = event_of d

-- the event of a line, or what is wrong with it
unfoldable pub event_of_line : List ℕ → Result Event EventFault
event_of_line line = event_if (value_of_line line)

-- ---- as it is read

abbrev pub says : EventType → Says
says changes.Set = set_event
says changes.Deleted = deleted_event
says changes.Bookmark = bookmark_event
