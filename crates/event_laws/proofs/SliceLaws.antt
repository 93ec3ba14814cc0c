-- Endpoint slices are read as they are spelled.
use Rattle.std.proofs.Common.{◌≡◌, false, List, [], ◌∷◌, map, Some, option_map, unwrap_or, Ok, codes, refl}
use Rattle.serde_json.specs.Data.{Data, string, boolean}
use Rattle.json_fields.specs.Reading.{optional_at, name_at, object_of, text_of, bool_of}
use Rattle.kube_model.specs.declared.object.Kind.TheVariants as kinds
use Rattle.kube_model.specs.declared.object.Object.TheVariants as objects
use Rattle.kube_model.specs.EndpointFields.{endpoint_of}
use Rattle.kube_events.specs.ObjectFields.{body_of}
use Rattle.kube_events.specs.Fields.{key_of, name_field, labels_field, pair_value}
use Rattle.kube_events.specs.SliceFields.{endpoints_field, slice_of}
use Rattle.kube_events.specs.Event.{text_in}
use Rattle.event_laws.specs.ObjectLines.{Field, spelled, parent, pairs_data, pairs_spelled}
use Rattle.event_laws.specs.SliceLines.{EndpointLine, SliceLine, condition_fields, endpoint_data, endpoint_spelled, slice_fields, slice_line, SlicesAreRead}
use Rattle.event_laws.proofs.Spelled.{is_there, own_value, inner_value, flag_read, same_optional_read, object_read}
use Rattle.event_laws.proofs.Spelled.{from_bytes, name_read, version_read, labels_read, list_read, text_read}

kind_there : (s : SliceLine) → text_in (codes "kind") (spelled (slice_fields s)) ≡ Some (codes "EndpointSlice")
kind_there s = rw (is_there (codes "kind") (slice_fields s)) refl

endpoint_read : (e : EndpointLine) → endpoint_of (endpoint_data e) ≡ Ok (endpoint_spelled e)
unfolding endpoint_of object_of
endpoint_read e =
    let fields : List Field = (codes "conditions", parent e.without_conditions (condition_fields e)) ∷ (codes "nodeName", option_map string e.node) ∷ [] in
    let d : Data = spelled fields in
    let node : optional_at text_of (codes "nodeName") d ≡ Ok e.node =
    same_optional_read text_of string (codes "nodeName") d e.node (own_value (codes "nodeName") fields refl) (λ text. refl) text_read in
    let ready : optional_at bool_of (codes "conditions.ready") d ≡ Ok e.ready =
    same_optional_read bool_of boolean (codes "conditions.ready") d e.ready (inner_value (codes "conditions.ready") (codes "conditions") (codes "ready")
    fields e.without_conditions (condition_fields e) refl refl) (λ flag. refl) flag_read in
    let serving : optional_at bool_of (codes "conditions.serving") d ≡ Ok e.serving =
    same_optional_read bool_of boolean (codes "conditions.serving") d e.serving (inner_value (codes "conditions.serving") (codes "conditions")
    (codes "serving") fields e.without_conditions (condition_fields e) refl refl) (λ flag. refl) flag_read in
    rw (node, ready, serving) refl

pub slices_are_read : SlicesAreRead
unfolding key_of body_of slice_of
slices_are_read line s n spells has_namespace is_head =
    let fields : List Field = slice_fields s in
    let d : Data = spelled fields in
    let inner : List Field =
    (codes "labels", option_map pairs_data s.head.labels) ∷
    (codes "name", Some (string s.head.name)) ∷
    (codes "namespace", Some (string s.namespace)) ∷
    (codes "resourceVersion", Some (string s.head.version)) ∷ [] in
    let name : name_field d ≡ Ok s.head.name = name_read (codes "metadata.name") d s.head.name
    (inner_value (codes "metadata.name") (codes "metadata") (codes "name") fields false inner refl refl) is_head.0 in
    let namespace : name_at (codes "metadata.namespace") d ≡ Ok s.namespace = name_read (codes "metadata.namespace") d s.namespace
    (inner_value (codes "metadata.namespace") (codes "metadata") (codes "namespace") fields false inner refl refl) has_namespace in
    let labels : labels_field d ≡ Ok (pairs_spelled s.head.labels) = labels_read (codes "metadata.labels") d s.head.labels
    (inner_value (codes "metadata.labels") (codes "metadata") (codes "labels") fields false inner refl refl) in
    let endpoints : endpoints_field d ≡ Ok (map endpoint_spelled (unwrap_or s.endpoints [])) =
    list_read endpoint_of endpoint_data endpoint_spelled (codes "endpoints") d s.endpoints (own_value (codes "endpoints") fields refl) endpoint_read in
    from_bytes line (slice_line s) _ spells
    (object_read kinds.Slice d (record { namespace = s.namespace; name = s.head.name }) n (pairs_spelled s.head.labels)
    (λ key labels. objects.Slice (record {
      key = key;
      service = pair_value (codes "kubernetes.io/service-name") (pairs_spelled s.head.labels);
      endpoints = map endpoint_spelled (unwrap_or s.endpoints []);
    }))
    (kind_there s)
    (rw (name, namespace) refl)
    (version_read d s.head.version n (inner_value (codes "metadata.resourceVersion") (codes "metadata") (codes "resourceVersion") fields false inner refl refl)
    is_head.1)
    labels
    (rw (labels, endpoints) refl))
