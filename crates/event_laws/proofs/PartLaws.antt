-- The first faulty member of a part of an object is named, and the first faulty item of a list.
use Rattle.std.proofs.Common.{◌≡◌, ℕ, ◌+◌, List, [], ◌∷◌, Result, Ok, Err, codes, refl}
use Rattle.serde_json.specs.Data.{Data, Items, no_items, item}
use Rattle.json_fields.specs.Path.{Path, item_place}
use Rattle.json_fields.specs.Reading.{◌>>=◌, within, items_from, optional_at, default_at, required_at, list_at}
use Rattle.json_fields.specs.Reading.{labels_at, object_of, text_of, bool_of, number_in}
use Rattle.json_fields.specs.Expressions.{expression_of}
use Rattle.kube_model.specs.declared.port.Protocol.TheVariants.{Tcp}
use Rattle.kube_model.specs.Named.{protocol_of}
use Rattle.kube_model.specs.PortFields.{port_of}
use Rattle.kube_model.specs.AllocationFields.{allocation_of}
use Rattle.kube_model.specs.EndpointFields.{endpoint_of}
use Rattle.kube_model.specs.SelectorFields.{selector_of}
use Rattle.kube_events.specs.Named.{family_of, address_in}
use Rattle.kube_events.specs.CommunityFields.{named_value_of}
use Rattle.kube_events.specs.ServiceFields.{ingress_of}
use Rattle.event_laws.specs.FieldOrder.{fault, Rows, first_of}
use Rattle.event_laws.specs.PartOrder.{PartFaultIsFirst, port_rows, place_rows, allocation_rows, selector_rows}
use Rattle.event_laws.specs.PartOrder.{expression_rows, named_value_rows, endpoint_rows, item_rows, ItemFaultsAreFirst}
use Rattle.event_laws.proofs.Rows.{then_row, only}

pub port_fault_is_first : PartFaultIsFirst port_of port_rows
unfolding port_of
port_fault_is_first d =
    then_row (object_of d) _ _ (λ members.
    then_row (default_at protocol_of (codes "protocol") Tcp d) _ _ (λ protocol.
    then_row (required_at (number_in 1 65535) (codes "port") d) _ [] (λ port. refl)))

pub place_fault_is_first : PartFaultIsFirst ingress_of place_rows
unfolding ingress_of
place_fault_is_first d =
    then_row (object_of d) (λ members. optional_at address_in (codes "ip") d) (place_rows d) (λ members.
    only (fault (optional_at address_in (codes "ip") d)))

pub allocation_fault_is_first : PartFaultIsFirst allocation_of allocation_rows
unfolding allocation_of
allocation_fault_is_first d =
    then_row (object_of d) _ _ (λ members.
    then_row (default_at (number_in 0 2147483647) (codes "priority") 0 d) _ _ (λ priority.
    then_row (list_at text_of (codes "namespaces") d) _ _ (λ namespaces.
    then_row (list_at selector_of (codes "namespaceSelectors") d) _ _ (λ namespace_selectors.
    then_row (list_at selector_of (codes "serviceSelectors") d) _ [] (λ service_selectors. refl)))))

pub selector_fault_is_first : PartFaultIsFirst selector_of selector_rows
unfolding selector_of
selector_fault_is_first d =
    then_row (object_of d) _ _ (λ members.
    then_row (labels_at (codes "matchLabels") d) _ _ (λ labels.
    then_row (list_at expression_of (codes "matchExpressions") d) _ [] (λ expressions. refl)))

pub expression_fault_is_first : PartFaultIsFirst expression_of expression_rows
unfolding expression_of
expression_fault_is_first d =
    then_row (object_of d) _ _ (λ members.
    then_row (required_at text_of (codes "key") d) _ _ (λ key.
    then_row (required_at text_of (codes "operator") d) _ _ (λ operator.
    then_row (list_at text_of (codes "values") d) _ [] (λ values. refl))))

pub named_value_fault_is_first : PartFaultIsFirst named_value_of named_value_rows
unfolding named_value_of
named_value_fault_is_first d =
    then_row (object_of d) _ _ (λ members.
    then_row (required_at text_of (codes "name") d) _ _ (λ name.
    then_row (required_at text_of (codes "value") d) _ [] (λ value. refl)))

pub endpoint_fault_is_first : PartFaultIsFirst endpoint_of endpoint_rows
unfolding endpoint_of
endpoint_fault_is_first d =
    then_row (object_of d) _ _ (λ members.
    then_row (optional_at text_of (codes "nodeName") d) _ _ (λ node.
    then_row (optional_at bool_of (codes "conditions.ready") d) _ _ (λ ready.
    then_row (optional_at bool_of (codes "conditions.serving") d) _ [] (λ serving. refl))))

-- an item, and after it what can't fail but by the items after it
item_then : {A : Type 0} (first : Result A Path) (others : Result (List A) Path) (rows : Rows)
    → fault others ≡ first_of rows → fault (first >>= λ x. others >>= λ xs. Ok (x ∷ xs)) ≡ first_of (fault first ∷ rows)
item_then (Ok x) (Ok xs) rows same = same
item_then (Ok x) (Err path) rows same = same
item_then (Err path) others rows same = refl

items_first : {A : Type 0} (read : Data → Result A Path) (index : ℕ) (ds : Items) → fault (items_from read index ds) ≡ first_of (item_rows read index ds)
unfolding items_from
items_first read index no_items = refl
items_first read index (item d ds) =
    item_then (within (item_place index) (read d)) (items_from read (index + 1) ds) (item_rows read (index + 1) ds) (items_first read (index + 1) ds)

pub item_faults_are_first : ItemFaultsAreFirst
item_faults_are_first = (
  items_first text_of 0,
  items_first family_of 0,
  items_first port_of 0,
  items_first ingress_of 0,
  items_first selector_of 0,
  items_first expression_of 0,
  items_first named_value_of 0,
  items_first endpoint_of 0,
)
