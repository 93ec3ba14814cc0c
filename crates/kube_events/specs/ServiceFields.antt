-- The fields of a service beside its metadata, in the order in which the first faulty one is named.
use Rattle.std.specs.Prelude.{ℕ, List, [], ◌∷◌, Bool, Option, Some, None, Result, Ok, Err, codes}
use Rattle.serde_json.specs.Data.{Data}
use Rattle.json_fields.specs.Path.{Path}
use Rattle.json_fields.specs.Reading.{◌>>=◌, optional_at, default_at, tells_at, list_at, labels_at, object_of, text_of}
use Rattle.ip_ranges.specs.declared.family.Family.{Family}
use Rattle.ip_ranges.specs.declared.family.Family.TheVariants.{V4, V6}
use Rattle.ip_ranges.specs.Values.{AddressValue}
use Rattle.kube_model.specs.declared.key.Key.{Key}
use Rattle.kube_model.specs.declared.port.Port.{Port}
use Rattle.kube_model.specs.declared.service.Policy.{Policy}
use Rattle.kube_model.specs.declared.service.Policy.TheVariants.{Cluster}
use Rattle.kube_model.specs.declared.service.Service.{Service}
use Rattle.kube_model.specs.declared.service.Wanted.{Wanted}
use Rattle.kube_events.specs.declared.service_fields.Notes.{Notes}
use Rattle.kube_events.specs.declared.service_fields.Request.{Request}
use Rattle.kube_events.specs.declared.service_fields.Traffic.{Traffic}
use Rattle.kube_events.specs.Fields.{Pairs, pair_value}
use Rattle.kube_model.specs.Named.{policy_of}
use Rattle.kube_model.specs.PortFields.{port_of}
use Rattle.kube_events.specs.Named.{family_of, address_in}
use Rattle.kube_events.specs.Wanted.{wanted_of}
use Rattle.kube_events.specs.declared.service_fields.ServiceSpec.{ServiceSpec}

-- ---- what annotations tell

abbrev pub share_key_in : Pairs → List ℕ
share_key_in annotations = pair_value (codes "metallb.io/allow-shared-ip") annotations

abbrev pub pool_asked_in : Pairs → List ℕ
pool_asked_in annotations = pair_value (codes "metallb.io/address-pool") annotations

abbrev pub addresses_asked_in : Pairs → List ℕ
addresses_asked_in annotations = pair_value (codes "metallb.io/loadBalancerIPs") annotations

-- the pool of the record
abbrev pub pool_in : Pairs → List ℕ
pool_in annotations = pair_value (codes "metallb.io/ip-allocated-from-pool") annotations

-- the mark of the record
abbrev pub mark_in : Pairs → List ℕ
mark_in annotations = pair_value (codes "metallb.io/ip-held-as") annotations

-- ---- fields

abbrev pub annotations_field : Data → Result Pairs Path
annotations_field d = labels_at (codes "metadata.annotations") d

-- whether a load balancer is asked for
abbrev pub balancer_field : Data → Result Bool Path
balancer_field d = tells_at (codes "spec.type") (codes "LoadBalancer") d

abbrev pub class_field : Data → Result (Option (List ℕ)) Path
class_field d = optional_at text_of (codes "spec.loadBalancerClass") d

abbrev pub address_field : Data → Result (List ℕ) Path
address_field d = default_at text_of (codes "spec.loadBalancerIP") [] d

-- one or two distinct families; none means IPv4
abbrev pub families_from : Path → List Family → Result (List Family) Path
families_from path [] = Ok (V4 ∷ [])
families_from path (family ∷ []) = Ok (family ∷ [])
families_from path (V4 ∷ V6 ∷ []) = Ok (V4 ∷ V6 ∷ [])
families_from path (V6 ∷ V4 ∷ []) = Ok (V6 ∷ V4 ∷ [])
families_from path _ = Err path

unfoldable pub families_at : Path → Data → Result (List Family) Path
families_at path d = do
  families ← list_at family_of path d
  families_from path families

abbrev pub families_field : Data → Result (List Family) Path
families_field d = families_at (codes "spec.ipFamilies") d

abbrev pub prefer_dual_field : Data → Result Bool Path
prefer_dual_field d = tells_at (codes "spec.ipFamilyPolicy") (codes "PreferDualStack") d

abbrev pub policy_field : Data → Result Policy Path
policy_field d = default_at policy_of (codes "spec.externalTrafficPolicy") Cluster d

abbrev pub selector_field : Data → Result Pairs Path
selector_field d = labels_at (codes "spec.selector") d

abbrev pub ports_field : Data → Result (List Port) Path
ports_field d = list_at port_of (codes "spec.ports") d

-- the address of a place where the service is reached, if it has one
unfoldable pub ingress_of : Data → Result (Option AddressValue) Path
ingress_of d = do
  members ← object_of d
  optional_at address_in (codes "ip") d

abbrev pub places_field : Data → Result (List (Option AddressValue)) Path
places_field d = list_at ingress_of (codes "status.loadBalancer.ingress") d

-- the addresses that are there
abbrev pub addresses_in : List (Option AddressValue) → List AddressValue
addresses_in [] = []
addresses_in (None ∷ places) = addresses_in places
addresses_in (Some address ∷ places) = address ∷ addresses_in places

-- the service of a key and labels
unfoldable pub service_of : Data → Result (Key → Pairs → Service) Path
service_of d = do
  annotations ← annotations_field d
  balancer ← balancer_field d
  class ← class_field d
  address ← address_field d
  families ← families_field d
  prefer_dual ← prefer_dual_field d
  policy ← policy_field d
  selector ← selector_field d
  ports ← ports_field d
  places ← places_field d
  Ok (λ key labels. record {
    key = key;
    labels = labels;
    balancer = balancer;
    class = class;
    families = families;
    prefer_dual = prefer_dual;
    policy = policy;
    selector = selector;
    ports = ports;
    share_key = share_key_in annotations;
    pool_asked = pool_asked_in annotations;
    wanted = wanted_of (addresses_asked_in annotations) address;
    holding = record { addresses = addresses_in places; pool = pool_in annotations; mark = mark_in annotations };
  })

-- ---- the same in parts, as they are read

-- what these annotations tell
abbrev pub notes_in : Pairs → Notes
notes_in annotations = record {
  share_key = share_key_in annotations;
  pool_asked = pool_asked_in annotations;
  addresses_asked = addresses_asked_in annotations;
  pool = pool_in annotations;
  mark = mark_in annotations;
}

unfoldable pub notes_of : Data → Result Notes Path
notes_of d = do
  annotations ← annotations_field d
  Ok (notes_in annotations)

unfoldable pub request_of : Data → Result Request Path
request_of d = do
  balancer ← balancer_field d
  class ← class_field d
  address ← address_field d
  Ok (record { balancer = balancer; class = class; address = address })

unfoldable pub traffic_of : Data → Result Traffic Path
traffic_of d = do
  families ← families_field d
  prefer_dual ← prefer_dual_field d
  policy ← policy_field d
  selector ← selector_field d
  ports ← ports_field d
  Ok (record { families = families; prefer_dual = prefer_dual; policy = policy; selector = selector; ports = ports })

unfoldable pub recorded_of : Data → Result (List AddressValue) Path
recorded_of d = do
  places ← places_field d
  Ok (addresses_in places)

abbrev pub spec_with : Notes → Request → Wanted → Traffic → List AddressValue → ServiceSpec
spec_with notes request wanted traffic addresses = record {
  balancer = request.balancer;
  class = request.class;
  share_key = notes.share_key;
  pool_asked = notes.pool_asked;
  wanted = wanted;
  traffic = traffic;
  holding = record { addresses = addresses; pool = notes.pool; mark = notes.mark };
}

abbrev pub service_with : ServiceSpec → Key → Pairs → Service
service_with s key labels = record {
  key = key;
  labels = labels;
  balancer = s.balancer;
  class = s.class;
  families = s.traffic.families;
  prefer_dual = s.traffic.prefer_dual;
  policy = s.traffic.policy;
  selector = s.traffic.selector;
  ports = s.traffic.ports;
  share_key = s.share_key;
  pool_asked = s.pool_asked;
  wanted = s.wanted;
  holding = s.holding;
}
