-- The lines that spell endpoint slices.
use Rattle.std.specs.Prelude.{◌≡◌, ◌<◌, ℕ, List, [], ◌∷◌, map, Bool, Option, Some, option_map, Ok, unwrap_or, length, codes}
use Rattle.serde_json.specs.Data.{Data, string, boolean}
use Rattle.kube_model.specs.declared.event.Event.TheVariants.{Changed}
use Rattle.kube_model.specs.declared.object.Object.TheVariants as objects
use Rattle.kube_model.specs.declared.slice.Endpoint.{Endpoint}
use Rattle.kube_model.specs.declared.slice.EndpointSlice.{EndpointSlice}
use Rattle.kube_model.specs.EndpointFields.{usable_of}
use Rattle.kube_events.specs.Fields.{pair_value}
use Rattle.kube_events.specs.Event.{event_of_line}
use Rattle.event_laws.specs.ObjectLines.{Field, Head, IsHead, spelled, pairs_data, pairs_spelled, added_line, list_data, Spells, parent}

-- what is chosen freely of an endpoint; conditions without any member may be left out
pub record EndpointLine : Type 0 where
  pub without_conditions : Bool
  pub node : Option (List ℕ)
  pub ready : Option Bool
  pub serving : Option Bool

abbrev pub condition_fields : EndpointLine → List Field
condition_fields e =
    (codes "ready", option_map boolean e.ready) ∷
    (codes "serving", option_map boolean e.serving) ∷ []

abbrev pub endpoint_data : EndpointLine → Data
endpoint_data e = spelled (
    (codes "conditions", parent e.without_conditions (condition_fields e)) ∷
    (codes "nodeName", option_map string e.node) ∷ [])

abbrev pub endpoint_spelled : EndpointLine → Endpoint
endpoint_spelled e = record { node = e.node; usable = usable_of e.ready e.serving }

-- what is chosen freely of the line
pub record SliceLine : Type 0 where
  pub namespace : List ℕ
  pub head : Head
  pub endpoints : Option (List EndpointLine)

abbrev pub slice_head_data : SliceLine → Data
slice_head_data s = spelled (
    (codes "labels", option_map pairs_data s.head.labels) ∷
    (codes "name", Some (string s.head.name)) ∷
    (codes "namespace", Some (string s.namespace)) ∷
    (codes "resourceVersion", Some (string s.head.version)) ∷ [])

abbrev pub slice_fields : SliceLine → List Field
slice_fields s =
    (codes "endpoints", option_map (list_data endpoint_data) s.endpoints) ∷
    (codes "kind", Some (string (codes "EndpointSlice"))) ∷
    (codes "metadata", Some (slice_head_data s)) ∷ []

abbrev pub slice_line : SliceLine → Data
slice_line s = added_line (spelled (slice_fields s))

-- the slice that the line spells
abbrev pub slice_spelled : SliceLine → EndpointSlice
slice_spelled s = record {
  key = record { namespace = s.namespace; name = s.head.name };
  service = pair_value (codes "kubernetes.io/service-name") (pairs_spelled s.head.labels);
  endpoints = map endpoint_spelled (unwrap_or s.endpoints []);
}

-- The line that spells a slice is read as it.
abbrev pub SlicesAreRead : Type 0
SlicesAreRead = (line : List ℕ) (s : SliceLine) (n : ℕ) → Spells line (slice_line s) → 0 < length s.namespace → IsHead s.head n
    → event_of_line line ≡ Ok (Changed n (objects.Slice (slice_spelled s)))
