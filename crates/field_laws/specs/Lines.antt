-- What each line says, in words apart from the reader: which lines are no events, which are ignored, and how those of the bridge's own are read.
use Rattle.std.specs.Prelude.{◌≡◌, ◌↔◌, ◌⊎◌, ℕ, List, [], ◌∷◌, Some, None, Ok, Err, codes}
use Rattle.mlb_base.specs.Items.{IsIn}
use Rattle.serde_json.specs.Data.{Data, string}
use Rattle.serde_json.specs.Find.{get}
use Rattle.json_values.specs.Line.{value_of_line}
use Rattle.kube_model.specs.declared.event.Event.TheVariants.{ListEnd, Expired, Ignored}
use Rattle.kube_model.specs.declared.event.EventFault.TheVariants.{NotJson, NotEvent}
use Rattle.kube_model.specs.declared.event.ListGroup.{ListGroup}
use Rattle.kube_model.specs.declared.event.ListGroup.TheVariants as groups
use Rattle.kube_model.specs.declared.object.Kind.{Kind}
use Rattle.kube_model.specs.declared.object.Kind.TheVariants as kinds
use Rattle.kube_events.specs.Event.{in_field, event_of, event_of_line}
use Rattle.field_laws.specs.Told.{as_put, rows_told}
use Rattle.field_laws.specs.Tables.{changed_rows, deleted_rows, members_rows, frame_rows}
use Rattle.field_laws.specs.Events.{changed_with, deleted_with, members_with, frame_with}

-- ---- words

abbrev pub set_words : List (List ℕ)
set_words = codes "ADDED" ∷ codes "MODIFIED" ∷ []

-- the types of lines with an object
abbrev pub watch_words : List (List ℕ)
watch_words = codes "ADDED" ∷ codes "MODIFIED" ∷ codes "DELETED" ∷ codes "BOOKMARK" ∷ []

abbrev pub line_words : List (List ℕ)
line_words = codes "ADDED" ∷ codes "MODIFIED" ∷ codes "DELETED" ∷ codes "BOOKMARK" ∷ codes "ERROR" ∷ codes "MEMBERS" ∷ codes "FRAME" ∷ []

-- The word names the kind.
abbrev pub Names : List ℕ → Kind → Type 0
Names word kinds.Service = word ≡ codes "Service"
Names word kinds.Pool = word ≡ codes "IPAddressPool"
Names word kinds.L2 = word ≡ codes "L2Advertisement"
Names word kinds.Bgp = word ≡ codes "BGPAdvertisement"
Names word kinds.Peer = word ≡ codes "BGPPeer"
Names word kinds.Community = word ≡ codes "Community"
Names word kinds.Namespace = word ≡ codes "Namespace"
Names word kinds.Node = word ≡ codes "Node"
Names word kinds.Slice = word ≡ codes "EndpointSlice"

-- the kinds whose bookmarks may end a list
abbrev pub ending_kinds : List (List ℕ)
ending_kinds = codes "IPAddressPool" ∷ codes "Service" ∷ codes "EndpointSlice" ∷ []

-- ---- lines

-- the member of this name is this text
abbrev pub HasText : List ℕ → Data → List ℕ → Type 0
HasText name d text = get name d ≡ Some (string text)

-- The line is of this type, about an object of a kind that this word names.
pub record IsAbout (line : Data) (type : List ℕ) (d : Data) (kind : List ℕ) : Type 0 where
  pub of_type : HasText (codes "type") line type
  pub has_object : get (codes "object") line ≡ Some d
  pub of_kind : HasText (codes "kind") d kind

-- The object says that a list ends with it (Kubernetes, WatchList).
abbrev pub SaysEnd : Data → Type 0
SaysEnd d = (metadata annotations : Data) × (get (codes "metadata") d ≡ Some metadata) × (get (codes "annotations") metadata ≡ Some annotations)
    × HasText (codes "k8s.io/initial-events-end") annotations (codes "true")

-- the list that a bookmark of an object of this kind may end
abbrev pub EndsList : List ℕ → ListGroup → Type 0
EndsList kind groups.Config = kind ≡ codes "IPAddressPool"
EndsList kind groups.Service = kind ≡ codes "Service"
EndsList kind groups.Endpoint = kind ≡ codes "EndpointSlice"

-- It has none of the types, or it has the type of one about an object and no object of a kind.
abbrev pub IsNoEvent : Data → Type 0
IsNoEvent line = ((word : List ℕ) → IsIn line_words word → HasText (codes "type") line word → ⊥)
    ⊎ ((word : List ℕ) × IsIn watch_words word × HasText (codes "type") line word × ((d : Data) (kind : List ℕ) → IsAbout line word d kind → ⊥))

-- It is about an object of a kind that isn't read, or it is a bookmark that ends no list.
abbrev pub IsPassedBy : Data → Type 0
IsPassedBy line = (word : List ℕ) × (d : Data) × (kind : List ℕ) × IsIn watch_words word × IsAbout line word d kind
    × (((one : Kind) → Names kind one → ⊥) ⊎ ((word ≡ codes "BOOKMARK") × (IsIn ending_kinds kind × SaysEnd d → ⊥)))

-- ---- laws

-- what is refused, and what is ignored
pub record OthersArePassedBy (line : Data) : Type 0 where
  pub no_event : (event_of line ≡ Err NotEvent) ↔ IsNoEvent line
  pub ignored : (event_of line ≡ Ok Ignored) ↔ IsPassedBy line
  pub expired : (event_of line ≡ Ok Expired) ↔ HasText (codes "type") line (codes "ERROR")
  pub list_end : (d : Data) (kind : List ℕ) (group : ListGroup) → IsAbout line (codes "BOOKMARK") d kind → EndsList kind group → SaysEnd d
      → event_of line ≡ Ok (ListEnd group)

-- A line is an event, or none, as the value is that its bytes are the text of (RFC 8259); what is no such text is no JSON.
pub record IsReadByValue (line : List ℕ) : Type 0 where
  pub value : (d : Data) → value_of_line line ≡ Some d → event_of_line line ≡ event_of d
  pub not_json : (event_of_line line ≡ Err NotJson) ↔ (value_of_line line ≡ None)

-- what is read of lines is what tables tell
pub record LinesAsTold (line : Data) : Type 0 where
  pub set : (word : List ℕ) (d : Data) (name : List ℕ) (kind : Kind) → IsIn set_words word → IsAbout line word d name → Names name kind
      → event_of line ≡ in_field (as_put (changed_with kind) (rows_told (changed_rows kind) d))
  pub deleted : (d : Data) (name : List ℕ) (kind : Kind) → IsAbout line (codes "DELETED") d name → Names name kind
      → event_of line ≡ in_field (as_put (deleted_with kind) (rows_told (deleted_rows kind) d))
  pub members : HasText (codes "type") line (codes "MEMBERS") → event_of line ≡ in_field (as_put members_with (rows_told members_rows line))
  pub frame : HasText (codes "type") line (codes "FRAME") → event_of line ≡ in_field (as_put frame_with (rows_told frame_rows line))
