-- The fields of an endpoint slice beside its key.
use Rattle.std.specs.Prelude.{ℕ, List, Result, Ok, codes}
use Rattle.serde_json.specs.Data.{Data}
use Rattle.json_fields.specs.Path.{Path}
use Rattle.json_fields.specs.Reading.{◌>>=◌, list_at}
use Rattle.kube_model.specs.declared.key.Key.{Key}
use Rattle.kube_model.specs.declared.slice.Endpoint.{Endpoint}
use Rattle.kube_model.specs.declared.slice.EndpointSlice.{EndpointSlice}
use Rattle.kube_model.specs.EndpointFields.{endpoint_of}
use Rattle.kube_events.specs.Fields.{labels_field, pair_value}
use Rattle.kube_events.specs.declared.slice_fields.SliceSpec.{SliceSpec}

abbrev pub endpoints_field : Data → Result (List Endpoint) Path
endpoints_field d = list_at endpoint_of (codes "endpoints") d

-- the slice of a key; a label names its service
unfoldable pub slice_of : Data → Result (Key → EndpointSlice) Path
slice_of d = do
  labels ← labels_field d
  endpoints ← endpoints_field d
  Ok (λ key. record { key = key; service = pair_value (codes "kubernetes.io/service-name") labels; endpoints = endpoints })

-- ---- as it is read

unfoldable pub service_named : Data → Result (List ℕ) Path
service_named d = do
  labels ← labels_field d
  Ok (pair_value (codes "kubernetes.io/service-name") labels)

abbrev pub slice_with : SliceSpec → Key → EndpointSlice
slice_with s key = record { key = key; service = s.service; endpoints = s.endpoints }
