-- The lines that say what lines are read as: compact JSON, the members in the byte order of their names.
use Rattle.std.specs.Prelude.{ℕ, List, [], ◌∷◌, Option, Some, None, codes, map}
use Rattle.serde_json.specs.Data.{Data, null, boolean, string, number, unsigned, array, object, Members, member, no_members, put as with_member}
use Rattle.serde_json.specs.View.{items_of}
use Rattle.serde_json.specs.Written.{compact_text}
use Rattle.kube_lines.specs.OutputLines.{with_texts, with_numbers}
use Rattle.kube_model.specs.declared.event.Event.{Event as Said}
use Rattle.kube_model.specs.declared.event.Event.TheVariants.{Changed, Deleted, ListEnd, Expired, Members as Speakers, Frame, Ignored}
use Rattle.kube_model.specs.declared.event.EventFault.{EventFault}
use Rattle.kube_model.specs.declared.event.EventFault.TheVariants.{NotJson, NotEvent, Field, NoMemory}
use Rattle.kube_model.specs.declared.event.ListGroup.{ListGroup}
use Rattle.kube_model.specs.declared.event.ListGroup.TheVariants as groups
use Rattle.kube_model.specs.declared.key.Key.{Key}
use Rattle.kube_model.specs.declared.object.Kind.{Kind}
use Rattle.kube_model.specs.declared.object.Kind.TheVariants as kinds
use Rattle.kube_model.specs.declared.object.Object.{Object}
use Rattle.kube_model.specs.declared.object.Object.TheVariants as objects
use Rattle.kube_model.specs.Kinds.{kind_of}
use Rattle.kube_model.specs.LineWords.{kind_text}
use Rattle.admission_reviews.specs.declared.review.Change.{Change}
use Rattle.admission_reviews.specs.declared.review.Change.TheVariants.{Set, Remove, Unread, Nothing}
use Rattle.explained_lines.specs.declared.explained.Explained.{Explained}
use Rattle.explained_lines.specs.declared.explained.Explained.TheVariants.{Review, Event, Refused}

-- ---- the members of a line that tells of the line of this number

abbrev pub text_member : List ℕ → List ℕ → Members → Members
text_member name text rest = member name (string text) rest

abbrev pub line_member : ℕ → Members → Members
line_member n rest = member (codes "line") (number (unsigned n)) rest

-- the members with these texts, and with the number of the line, by their names
abbrev pub with_line : ℕ → List (List ℕ × List ℕ) → Members
with_line n texts = with_numbers ((codes "line", n) ∷ []) (with_texts texts no_members)

-- ---- an event

-- the paths of what no program reads of an object, where there are any
abbrev pub unused_member : List (List ℕ) → Members
unused_member [] = no_members
unused_member (path ∷ paths) = member (codes "unused") (array (items_of (map string (path ∷ paths)))) no_members

-- an object is there or gone; only services and endpoint slices have a namespace that matters
abbrev pub object_data : ℕ → Kind → Option (List ℕ) → List ℕ → List ℕ → List (List ℕ) → Data
object_data n kind (Some namespace) name type unused = object (text_member (codes "kind") (kind_text kind)
    (line_member n (text_member (codes "name") name (text_member (codes "namespace") namespace (text_member (codes "op") (codes "event")
    (text_member (codes "type") type (unused_member unused)))))))
object_data n kind None name type unused = object (text_member (codes "kind") (kind_text kind)
    (line_member n (text_member (codes "name") name (text_member (codes "op") (codes "event")
    (text_member (codes "type") type (unused_member unused))))))

-- the list of objects of a kind has ended, and with it the lists of its group
abbrev pub list_data : ℕ → Kind → Data
list_data n kind = object (text_member (codes "kind") (kind_text kind) (line_member n (text_member (codes "op") (codes "event")
    (text_member (codes "type") (codes "list-end") no_members))))

-- an event of no object
abbrev pub plain_data : ℕ → List ℕ → Data
plain_data n type = object (line_member n (text_member (codes "op") (codes "event") (text_member (codes "type") type no_members)))

-- nothing that matters to any program
abbrev pub ignored_data : ℕ → Data
ignored_data n = object (line_member n (text_member (codes "op") (codes "ignored") no_members))

-- the name of an object, and its namespace, where its kind has one that matters
abbrev pub name_of : Object → List ℕ
name_of (objects.Service service) = service.key.name
name_of (objects.Pool pool) = pool.name
name_of (objects.L2 adv) = adv.name
name_of (objects.Bgp adv) = adv.name
name_of (objects.Peer peer) = peer.name
name_of (objects.Community community) = community.name
name_of (objects.Namespace namespace) = namespace.name
name_of (objects.Node node) = node.name
name_of (objects.Slice slice) = slice.key.name

abbrev pub namespace_of : Object → Option (List ℕ)
namespace_of (objects.Service service) = Some service.key.namespace
namespace_of (objects.Pool pool) = None
namespace_of (objects.L2 adv) = None
namespace_of (objects.Bgp adv) = None
namespace_of (objects.Peer peer) = None
namespace_of (objects.Community community) = None
namespace_of (objects.Namespace namespace) = None
namespace_of (objects.Node node) = None
namespace_of (objects.Slice slice) = Some slice.key.namespace

abbrev pub namespace_in : Kind → Key → Option (List ℕ)
namespace_in kinds.Service key = Some key.namespace
namespace_in kinds.Pool key = None
namespace_in kinds.L2 key = None
namespace_in kinds.Bgp key = None
namespace_in kinds.Peer key = None
namespace_in kinds.Community key = None
namespace_in kinds.Namespace key = None
namespace_in kinds.Node key = None
namespace_in kinds.Slice key = Some key.namespace

-- the kind whose bookmark ends the lists of the group
abbrev pub ending_kind : ListGroup → Kind
ending_kind groups.Config = kinds.Pool
ending_kind groups.Service = kinds.Service
ending_kind groups.Endpoint = kinds.Slice

-- an object is there, of which no program reads what stands at these paths
abbrev pub set_data : ℕ → Object → List (List ℕ) → Data
set_data n shown unused = object_data n (kind_of shown) (namespace_of shown) (name_of shown) (codes "set") unused

-- an event, with the paths of what no program reads of an object that is there
abbrev pub event_data : ℕ → Said → List (List ℕ) → Data
event_data n (Changed version shown) unused = set_data n shown unused
event_data n (Deleted kind key) unused = object_data n kind (namespace_in kind key) key.name (codes "deleted") []
event_data n (ListEnd group) unused = list_data n (ending_kind group)
event_data n Expired unused = plain_data n (codes "expired")
event_data n (Speakers names) unused = plain_data n (codes "members")
event_data n (Frame interface bytes) unused = plain_data n (codes "frame")
event_data n Ignored unused = ignored_data n

-- ---- a refusal

abbrev pub path_data : ℕ → List ℕ → Data
path_data n path = object (line_member n (text_member (codes "op") (codes "refused") (text_member (codes "path") path no_members)))

abbrev pub reason_data : ℕ → List ℕ → Data
reason_data n reason = object (line_member n (text_member (codes "op") (codes "refused") (text_member (codes "reason") reason no_members)))

-- the field at fault, or the reason where it is no field; no line is refused where memory ran out
abbrev pub refused_data : ℕ → EventFault → Data
refused_data n NotJson = reason_data n (codes "NotJson")
refused_data n NotEvent = reason_data n (codes "NotEvent")
refused_data n (Field path) = path_data n path
refused_data n NoMemory = reason_data n (codes "NoMemory")

-- ---- a review

abbrev pub asked_data : ℕ → List ℕ → Data
asked_data n uid = object (line_member n (text_member (codes "op") (codes "review") (text_member (codes "uid") uid no_members)))

abbrev pub unread_data : ℕ → List ℕ → List ℕ → Data
unread_data n uid path = object (line_member n (text_member (codes "op") (codes "review") (text_member (codes "path") path
    (text_member (codes "uid") uid no_members))))

-- the field of the object at fault is told too
abbrev pub review_data : ℕ → List ℕ → Change → Data
review_data n uid (Set written) = asked_data n uid
review_data n uid (Remove kind name) = asked_data n uid
review_data n uid (Unread path) = unread_data n uid path
review_data n uid Nothing = asked_data n uid

-- ---- lines

abbrev pub explained_data : ℕ → Explained → Data
explained_data n (Review review) = review_data n review.uid review.change
explained_data n (Event event unused) = event_data n event unused
explained_data n (Refused fault) = refused_data n fault

-- what is said of the line of this number
unfoldable pub explained_text : ℕ → Explained → List ℕ
explained_text n explained = compact_text (explained_data n explained)

-- ---- the same as members put together

-- the paths come to the members, where there are any
abbrev pub put_unused : List (List ℕ) → Members → Members
put_unused [] members = members
put_unused (path ∷ paths) members = with_member (codes "unused") (array (items_of (map string (path ∷ paths)))) members

-- and to those of an object
abbrev pub with_unused : List (List ℕ) → Data → Data
with_unused unused (object members) = object (put_unused unused members)
with_unused unused null = null
with_unused unused (boolean b) = boolean b
with_unused unused (number n) = number n
with_unused unused (string s) = string s
with_unused unused (array items) = array items
