-- The lines that spell services.
use Rattle.std.specs.Prelude.{◌≡◌, ◌≤◌, ◌<◌, ℕ, List, [], ◌∷◌, map, Bool, Option, Some, None, option_map, Ok, IfSome, unwrap_or, codes, length}
use Rattle.std.specs.List.{All}
use Rattle.serde_json.specs.Data.{Data, string}
use Rattle.json_fields.specs.Reading.{is_text}
use Rattle.ip_ranges.specs.declared.family.Family.{Family}
use Rattle.ip_ranges.specs.declared.family.Family.TheVariants.{V4, V6}
use Rattle.ip_ranges.specs.Values.{AddressValue}
use Rattle.ip_ranges.specs.AddressText.{address_of}
use Rattle.kube_model.specs.declared.event.Event.TheVariants.{Changed}
use Rattle.kube_model.specs.declared.object.Object.TheVariants as objects
use Rattle.kube_model.specs.declared.port.Port.{Port}
use Rattle.kube_model.specs.declared.port.Protocol.{Protocol}
use Rattle.kube_model.specs.declared.port.Protocol.TheVariants.{Tcp, Udp, Sctp}
use Rattle.kube_model.specs.declared.service.Policy.{Policy}
use Rattle.kube_model.specs.declared.service.Policy.TheVariants.{Cluster, Local}
use Rattle.kube_model.specs.declared.service.Service.{Service}
use Rattle.kube_model.specs.Families.{AreFamilies}
use Rattle.kube_events.specs.ServiceFields.{share_key_in, pool_asked_in, addresses_asked_in, pool_in, mark_in}
use Rattle.kube_events.specs.Wanted.{wanted_of}
use Rattle.kube_events.specs.Event.{event_of_line}
use Rattle.event_laws.specs.ObjectLines.{Field, spelled, list_data, number_data, Pairs, pairs_data, pairs_spelled, Head, IsHead, added_line, Spells, parent}

abbrev pub family_text : Family → List ℕ
family_text V4 = codes "IPv4"
family_text V6 = codes "IPv6"

-- families that aren't there mean IPv4
abbrev pub families_spelled : Option (List Family) → List Family
families_spelled None = V4 ∷ []
families_spelled (Some []) = V4 ∷ []
families_spelled (Some (family ∷ families)) = family ∷ families

abbrev pub policy_text : Policy → List ℕ
policy_text Cluster = codes "Cluster"
policy_text Local = codes "Local"

abbrev pub protocol_text : Protocol → List ℕ
protocol_text Tcp = codes "TCP"
protocol_text Udp = codes "UDP"
protocol_text Sctp = codes "SCTP"

-- what is chosen freely of a port
pub record PortLine : Type 0 where
  pub protocol : Option Protocol
  pub port : ℕ

abbrev pub port_data : PortLine → Data
port_data p = spelled (
    (codes "port", Some (number_data p.port)) ∷
    (codes "protocol", option_map (λ protocol. string (protocol_text protocol)) p.protocol) ∷ [])

abbrev pub port_spelled : PortLine → Port
port_spelled p = record { protocol = unwrap_or p.protocol Tcp; port = p.port }

abbrev pub IsPortLine : PortLine → Type 0
IsPortLine p = (1 ≤ p.port) × (p.port ≤ 65535)

-- a place where the service is reached: where it has an address, a text and the address
abbrev pub PlaceLine : Type 0
PlaceLine = Option (List ℕ × AddressValue)

abbrev pub place_data : PlaceLine → Data
place_data place = spelled ((codes "ip", option_map (λ at. string at.0) place) ∷ [])

-- the text spells the address (RFC 4291, section 2.2)
abbrev pub IsPlaceLine : PlaceLine → Type 0
IsPlaceLine place = IfSome place (λ at. address_of at.0 ≡ Ok at.1)

-- the addresses that are there
abbrev pub addresses_spelled : List PlaceLine → List AddressValue
addresses_spelled [] = []
addresses_spelled (None ∷ places) = addresses_spelled places
addresses_spelled (Some at ∷ places) = at.1 ∷ addresses_spelled places

-- what is chosen freely of the line; a parent without any member may be left out
pub record ServiceLine : Type 0 where
  pub namespace : List ℕ
  pub head : Head
  pub without_spec : Bool
  pub without_status : Bool
  pub without_balancer : Bool
  pub annotations : Option Pairs
  pub service_type : Option (List ℕ)
  pub class : Option (List ℕ)
  pub address : Option (List ℕ)
  pub families : Option (List Family)
  pub family_policy : Option (List ℕ)
  pub policy : Option Policy
  pub selector : Option Pairs
  pub ports : Option (List PortLine)
  pub places : Option (List PlaceLine)

abbrev pub service_head_fields : ServiceLine → List Field
service_head_fields s =
    (codes "annotations", option_map pairs_data s.annotations) ∷
    (codes "labels", option_map pairs_data s.head.labels) ∷
    (codes "name", Some (string s.head.name)) ∷
    (codes "namespace", Some (string s.namespace)) ∷
    (codes "resourceVersion", Some (string s.head.version)) ∷ []

abbrev pub service_spec_fields : ServiceLine → List Field
service_spec_fields s =
    (codes "externalTrafficPolicy", option_map (λ policy. string (policy_text policy)) s.policy) ∷
    (codes "ipFamilies", option_map (list_data (λ family. string (family_text family))) s.families) ∷
    (codes "ipFamilyPolicy", option_map string s.family_policy) ∷
    (codes "loadBalancerClass", option_map string s.class) ∷
    (codes "loadBalancerIP", option_map string s.address) ∷
    (codes "ports", option_map (list_data port_data) s.ports) ∷
    (codes "selector", option_map pairs_data s.selector) ∷
    (codes "type", option_map string s.service_type) ∷ []

abbrev pub balancer_fields : ServiceLine → List Field
balancer_fields s = (codes "ingress", option_map (list_data place_data) s.places) ∷ []

abbrev pub status_fields : ServiceLine → List Field
status_fields s = (codes "loadBalancer", parent s.without_balancer (balancer_fields s)) ∷ []

abbrev pub service_fields : ServiceLine → List Field
service_fields s =
    (codes "kind", Some (string (codes "Service"))) ∷
    (codes "metadata", Some (spelled (service_head_fields s))) ∷
    (codes "spec", parent s.without_spec (service_spec_fields s)) ∷
    (codes "status", parent s.without_status (status_fields s)) ∷ []

abbrev pub service_line : ServiceLine → Data
service_line s = added_line (spelled (service_fields s))

abbrev pub annotations_spelled : ServiceLine → Pairs
annotations_spelled s = pairs_spelled s.annotations

-- the service that the line spells
abbrev pub service_spelled : ServiceLine → Service
service_spelled s = record {
  key = record { namespace = s.namespace; name = s.head.name };
  labels = pairs_spelled s.head.labels;
  balancer = is_text s.service_type (codes "LoadBalancer");
  class = s.class;
  families = families_spelled s.families;
  prefer_dual = is_text s.family_policy (codes "PreferDualStack");
  policy = unwrap_or s.policy Cluster;
  selector = pairs_spelled s.selector;
  ports = map port_spelled (unwrap_or s.ports []);
  share_key = share_key_in (annotations_spelled s);
  pool_asked = pool_asked_in (annotations_spelled s);
  wanted = wanted_of (addresses_asked_in (annotations_spelled s)) (unwrap_or s.address []);
  holding = record {
    addresses = addresses_spelled (unwrap_or s.places []);
    pool = pool_in (annotations_spelled s);
    mark = mark_in (annotations_spelled s);
  };
}

-- the families, the ports and the addresses that are there can be read
abbrev pub IsServiceLine : ServiceLine → Type 0
IsServiceLine s = AreFamilies (families_spelled s.families) × IfSome s.ports (All IsPortLine) × IfSome s.places (All IsPlaceLine)

-- The line that spells a service is read as it.
abbrev pub ServicesAreRead : Type 0
ServicesAreRead = (line : List ℕ) (s : ServiceLine) (n : ℕ) → Spells line (service_line s) → 0 < length s.namespace → IsHead s.head n → IsServiceLine s
    → event_of_line line ≡ Ok (Changed n (objects.Service (service_spelled s)))
