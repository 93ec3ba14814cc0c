-- Services are read as they are spelled.
use Rattle.std.proofs.Common.{◌≡◌, ℕ, false, List, [], ◌∷◌, map, Option, Some, None, option_map, unwrap_or, Ok, codes, refl}
use Rattle.serde_json.specs.Data.{Data, string}
use Rattle.json_fields.specs.Path.{Path}
use Rattle.json_fields.specs.Reading.{list_at, default_at, optional_at, required_at, name_at, is_text, object_of, text_of, number_in}
use Rattle.ip_ranges.specs.declared.family.Family.{Family}
use Rattle.ip_ranges.specs.declared.family.Family.TheVariants.{V4, V6}
use Rattle.ip_ranges.specs.Values.{AddressValue}
use Rattle.ip_ranges.specs.AddressText.{address_of}
use Rattle.kube_model.specs.declared.object.Kind.TheVariants as kinds
use Rattle.kube_model.specs.declared.port.Protocol.{Protocol}
use Rattle.kube_model.specs.declared.port.Protocol.TheVariants.{Tcp, Udp, Sctp}
use Rattle.kube_model.specs.declared.service.Policy.{Policy}
use Rattle.kube_model.specs.declared.service.Policy.TheVariants.{Cluster, Local}
use Rattle.kube_model.specs.Families.{AreFamilies}
use Rattle.kube_model.specs.Named.{protocol_of, policy_of}
use Rattle.kube_model.specs.PortFields.{port_of}
use Rattle.kube_model.specs.declared.object.Object.TheVariants as objects
use Rattle.kube_events.specs.Named.{family_of, address_in}
use Rattle.kube_events.specs.Fields.{key_of, name_field}
use Rattle.kube_events.specs.ServiceFields.{annotations_field, balancer_field, class_field, address_field, families_from, families_at, prefer_dual_field}
use Rattle.kube_events.specs.ServiceFields.{policy_field, selector_field, ports_field, ingress_of, places_field, addresses_in, service_of}
use Rattle.kube_events.specs.ObjectFields.{body_of}
use Rattle.event_laws.specs.ObjectLines.{Field, spelled, number_data, pairs_spelled}
use Rattle.event_laws.specs.ServiceLines.{family_text, families_spelled, policy_text, protocol_text, PortLine, port_data, port_spelled, IsPortLine}
use Rattle.event_laws.specs.ServiceLines.{PlaceLine, place_data, IsPlaceLine, addresses_spelled, service_head_fields, service_spec_fields}
use Rattle.event_laws.specs.ServiceLines.{balancer_fields, status_fields, service_fields, service_line, ServicesAreRead, service_spelled}
use Rattle.event_laws.proofs.Spelled.{own_value, inner_value, innermost_value, optional_read, same_optional_read, default_read, required_read, number_read}
use Rattle.event_laws.proofs.Spelled.{tells_read, text_read, labels_read, same_list_read, list_read_if, name_read, version_read, object_read, from_bytes}

protocol_read : (protocol : Protocol) → protocol_of (string (protocol_text protocol)) ≡ Ok protocol
unfolding protocol_of
protocol_read Tcp = refl
protocol_read Udp = refl
protocol_read Sctp = refl

policy_read : (policy : Policy) → policy_of (string (policy_text policy)) ≡ Ok policy
unfolding policy_of
policy_read Cluster = refl
policy_read Local = refl

family_read : (family : Family) → family_of (string (family_text family)) ≡ Ok family
unfolding family_of
family_read V4 = refl
family_read V6 = refl

families_kept : (path : Path) (found : Option (List Family)) → AreFamilies (families_spelled found)
    → families_from path (unwrap_or found []) ≡ Ok (families_spelled found)
families_kept path None one = refl
families_kept path (Some []) one = refl
families_kept path (Some (family ∷ [])) one = refl
families_kept path (Some (V4 ∷ V6 ∷ [])) two = refl
families_kept path (Some (V6 ∷ V4 ∷ [])) two = refl
families_kept path (Some (V4 ∷ V4 ∷ [])) two = absurd (two refl)
families_kept path (Some (V6 ∷ V6 ∷ [])) two = absurd (two refl)
families_kept path (Some (first ∷ second ∷ third ∷ rest)) more = absurd more

port_read : (p : PortLine) → IsPortLine p → port_of (port_data p) ≡ Ok (port_spelled p)
unfolding port_of object_of
port_read p within =
    let fields : List Field =
    (codes "port", Some (number_data p.port)) ∷ (codes "protocol", option_map (λ protocol. string (protocol_text protocol)) p.protocol) ∷ [] in
    let d : Data = spelled fields in
    let protocol : default_at protocol_of (codes "protocol") Tcp d ≡ Ok (unwrap_or p.protocol Tcp) =
    default_read protocol_of (λ protocol. string (protocol_text protocol)) (codes "protocol") Tcp d p.protocol (own_value (codes "protocol") fields refl)
    (λ protocol. refl) protocol_read in
    let port : required_at (number_in 1 65535) (codes "port") d ≡ Ok p.port = required_read (number_in 1 65535) (codes "port") d (number_data p.port) p.port
    (own_value (codes "port") fields refl) (number_read 1 65535 p.port within) in
    rw (protocol, port) refl

abbrev place_spelled : PlaceLine → Option AddressValue
place_spelled place = option_map (λ at. at.1) place

address_read : (at : List ℕ × AddressValue) → address_of at.0 ≡ Ok at.1 → address_in (string at.0) ≡ Ok at.1
unfolding address_in
address_read at is = rw is refl

place_read : (place : PlaceLine) → IsPlaceLine place → ingress_of (place_data place) ≡ Ok (place_spelled place)
unfolding ingress_of object_of
place_read place is =
    let fields : List Field = (codes "ip", option_map (λ at. string at.0) place) ∷ [] in
    let address : optional_at address_in (codes "ip") (spelled fields) ≡ Ok (option_map (λ at. at.1) place) = optional_read address_in (λ at. string at.0)
    (λ at. at.1) (λ at. address_of at.0 ≡ Ok at.1) (codes "ip") (spelled fields) place (own_value (codes "ip") fields refl) (λ at. refl) address_read is in
    rw address refl

addresses_kept : (places : List PlaceLine) → addresses_in (map place_spelled places) ≡ addresses_spelled places
addresses_kept [] = refl
addresses_kept (None ∷ places) = addresses_kept places
addresses_kept (Some at ∷ places) = rw (addresses_kept places) refl

pub services_are_read : ServicesAreRead
unfolding key_of body_of service_of families_at
services_are_read line s n spells has_namespace is_head readable =
    let fields : List Field = service_fields s in
    let d : Data = spelled fields in
    let head : List Field = service_head_fields s in
    let spec : List Field = service_spec_fields s in
    let name : name_field d ≡ Ok s.head.name = name_read (codes "metadata.name") d s.head.name
    (inner_value (codes "metadata.name") (codes "metadata") (codes "name") fields false head refl refl) is_head.0 in
    let namespace : name_at (codes "metadata.namespace") d ≡ Ok s.namespace = name_read (codes "metadata.namespace") d s.namespace
    (inner_value (codes "metadata.namespace") (codes "metadata") (codes "namespace") fields false head refl refl) has_namespace in
    let annotations : annotations_field d ≡ Ok (pairs_spelled s.annotations) = labels_read (codes "metadata.annotations") d s.annotations
    (inner_value (codes "metadata.annotations") (codes "metadata") (codes "annotations") fields false head refl refl) in
    let balancer : balancer_field d ≡ Ok (is_text s.service_type (codes "LoadBalancer")) = tells_read (codes "spec.type") (codes "LoadBalancer") d
    s.service_type (inner_value (codes "spec.type") (codes "spec") (codes "type") fields s.without_spec spec refl refl) in
    let class : class_field d ≡ Ok s.class = same_optional_read text_of string (codes "spec.loadBalancerClass") d s.class (inner_value
    (codes "spec.loadBalancerClass") (codes "spec") (codes "loadBalancerClass") fields s.without_spec spec refl refl) (λ text. refl) text_read in
    let address : address_field d ≡ Ok (unwrap_or s.address []) = default_read text_of string (codes "spec.loadBalancerIP") [] d s.address
    (inner_value (codes "spec.loadBalancerIP") (codes "spec") (codes "loadBalancerIP") fields s.without_spec spec refl refl) (λ text. refl) text_read in
    let families : list_at family_of (codes "spec.ipFamilies") d ≡ Ok (unwrap_or s.families []) =
    same_list_read family_of (λ family. string (family_text family)) (codes "spec.ipFamilies") d s.families
    (inner_value (codes "spec.ipFamilies") (codes "spec") (codes "ipFamilies") fields s.without_spec spec refl refl) family_read in
    let prefer_dual : prefer_dual_field d ≡ Ok (is_text s.family_policy (codes "PreferDualStack")) =
    tells_read (codes "spec.ipFamilyPolicy") (codes "PreferDualStack") d s.family_policy
    (inner_value (codes "spec.ipFamilyPolicy") (codes "spec") (codes "ipFamilyPolicy") fields s.without_spec spec refl refl) in
    let policy : policy_field d ≡ Ok (unwrap_or s.policy Cluster) =
    default_read policy_of (λ policy. string (policy_text policy)) (codes "spec.externalTrafficPolicy") Cluster d s.policy (inner_value (codes
    "spec.externalTrafficPolicy") (codes "spec") (codes "externalTrafficPolicy") fields s.without_spec spec refl refl) (λ policy. refl) policy_read in
    let selector : selector_field d ≡ Ok (pairs_spelled s.selector) = labels_read (codes "spec.selector") d s.selector
    (inner_value (codes "spec.selector") (codes "spec") (codes "selector") fields s.without_spec spec refl refl) in
    let ports : ports_field d ≡ Ok (map port_spelled (unwrap_or s.ports [])) = list_read_if port_of port_data port_spelled IsPortLine (codes "spec.ports") d
    s.ports (inner_value (codes "spec.ports") (codes "spec") (codes "ports") fields s.without_spec spec refl refl) port_read readable.1 in
    let places : places_field d ≡ Ok (map place_spelled (unwrap_or s.places [])) = list_read_if ingress_of place_data place_spelled IsPlaceLine
    (codes "status.loadBalancer.ingress") d s.places (innermost_value (codes "status.loadBalancer.ingress") (codes "status") (codes "loadBalancer")
    (codes "ingress") fields s.without_status (status_fields s) s.without_balancer (balancer_fields s) refl refl refl) place_read readable.2 in
    from_bytes line (service_line s) _ spells
    (object_read kinds.Service d (record { namespace = s.namespace; name = s.head.name }) n (pairs_spelled s.head.labels)
    (λ key labels. objects.Service (record (service_spelled s) { key = key; labels = labels }))
    refl
    (rw (name, namespace) refl)
    (version_read d s.head.version n (inner_value (codes "metadata.resourceVersion") (codes "metadata") (codes "resourceVersion") fields false head refl refl)
    is_head.1)
    (labels_read (codes "metadata.labels") d s.head.labels
    (inner_value (codes "metadata.labels") (codes "metadata") (codes "labels") fields false head refl refl))
    (rw (
      annotations,
      balancer,
      class,
      address,
      families,
      families_kept (codes "spec.ipFamilies") s.families readable.0,
      prefer_dual,
      policy,
      selector,
      ports,
      places,
      addresses_kept (unwrap_or s.places []),
    ) refl))
