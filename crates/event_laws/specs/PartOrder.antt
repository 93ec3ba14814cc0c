-- The order in which the first faulty member of a part of an object is named, and the first faulty item of a list.
use Rattle.std.specs.Prelude.{◌≡◌, ℕ, ◌+◌, [], ◌∷◌, Result, codes}
use Rattle.serde_json.specs.Data.{Data, Items, no_items, item}
use Rattle.json_fields.specs.Path.{Path, item_place}
use Rattle.json_fields.specs.Reading.{within, items_from, optional_at, default_at, required_at, list_at, labels_at, object_of, text_of, bool_of, number_in}
use Rattle.json_fields.specs.Expressions.{expression_of}
use Rattle.kube_model.specs.declared.port.Protocol.TheVariants.{Tcp}
use Rattle.kube_model.specs.Named.{protocol_of}
use Rattle.kube_model.specs.PortFields.{port_of}
use Rattle.kube_model.specs.EndpointFields.{endpoint_of}
use Rattle.kube_model.specs.SelectorFields.{selector_of}
use Rattle.kube_events.specs.Named.{family_of, address_in}
use Rattle.kube_events.specs.CommunityFields.{named_value_of}
use Rattle.kube_events.specs.ServiceFields.{ingress_of}
use Rattle.event_laws.specs.FieldOrder.{fault, Rows, first_of}

-- The fault of a part is that of the first of its rows that has one. The first row is that it is an object.
abbrev pub PartFaultIsFirst : {A : Type 0} → (Data → Result A Path) → (Data → Rows) → Type 0
PartFaultIsFirst read rows = (d : Data) → fault (read d) ≡ first_of (fault (object_of d) ∷ rows d)

abbrev pub port_rows : Data → Rows
port_rows d =
    fault (default_at protocol_of (codes "protocol") Tcp d) ∷
    fault (required_at (number_in 1 65535) (codes "port") d) ∷ []

abbrev pub place_rows : Data → Rows
place_rows d = fault (optional_at address_in (codes "ip") d) ∷ []

abbrev pub allocation_rows : Data → Rows
allocation_rows d =
    fault (default_at (number_in 0 2147483647) (codes "priority") 0 d) ∷
    fault (list_at text_of (codes "namespaces") d) ∷
    fault (list_at selector_of (codes "namespaceSelectors") d) ∷
    fault (list_at selector_of (codes "serviceSelectors") d) ∷ []

abbrev pub selector_rows : Data → Rows
selector_rows d =
    fault (labels_at (codes "matchLabels") d) ∷
    fault (list_at expression_of (codes "matchExpressions") d) ∷ []

abbrev pub expression_rows : Data → Rows
expression_rows d =
    fault (required_at text_of (codes "key") d) ∷
    fault (required_at text_of (codes "operator") d) ∷
    fault (list_at text_of (codes "values") d) ∷ []

abbrev pub named_value_rows : Data → Rows
named_value_rows d =
    fault (required_at text_of (codes "name") d) ∷
    fault (required_at text_of (codes "value") d) ∷ []

abbrev pub endpoint_rows : Data → Rows
endpoint_rows d =
    fault (optional_at text_of (codes "nodeName") d) ∷
    fault (optional_at bool_of (codes "conditions.ready") d) ∷
    fault (optional_at bool_of (codes "conditions.serving") d) ∷ []

-- ---- lists

-- the fault of each item, named by its place, from this place on
abbrev pub item_rows : {A : Type 0} → (Data → Result A Path) → ℕ → Items → Rows
item_rows read index no_items = []
item_rows read index (item d ds) = fault (within (item_place index) (read d)) ∷ item_rows read (index + 1) ds

-- The fault of a list is that of its first faulty item.
abbrev pub ItemFaultIsFirst : {A : Type 0} → (Data → Result A Path) → Type 0
ItemFaultIsFirst read = (ds : Items) → fault (items_from read 0 ds) ≡ first_of (item_rows read 0 ds)

-- of each type of items
abbrev pub ItemFaultsAreFirst : Type 0
ItemFaultsAreFirst =
    ItemFaultIsFirst text_of × ItemFaultIsFirst family_of × ItemFaultIsFirst port_of × ItemFaultIsFirst ingress_of
    × ItemFaultIsFirst selector_of × ItemFaultIsFirst expression_of × ItemFaultIsFirst named_value_of × ItemFaultIsFirst endpoint_of
