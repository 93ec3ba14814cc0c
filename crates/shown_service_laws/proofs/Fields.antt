-- The fields of a service that is read of a value with texts.
use Rattle.std.proofs.Common.{◌≤◌, ◌<◌, List, [], ◌∷◌, IfOk, codes, arith}
use Rattle.std.specs.Bool.{⊤}
use Rattle.std.specs.Str.{IsUtf8}
use Rattle.ip_ranges.specs.declared.family.Family.{Family}
use Rattle.ip_ranges.specs.declared.family.Family.TheVariants.{V4, V6}
use Rattle.json_fields.specs.Path.{Path}
use Rattle.json_fields.specs.Reading.{default_at, required_at, list_at, object_of, number_in}
use Rattle.json_text_laws.specs.Texts.{AreLabels}
use Rattle.json_text_laws.proofs.Readers.{Reads, then_ok, any_ok, reads-required_at, reads-number_in, reads-list_at, reads-labels_at, value_text}
use Rattle.kube_model.specs.declared.key.Key.{Key}
use Rattle.kube_model.specs.declared.port.Port.{Port}
use Rattle.kube_model.specs.declared.port.Protocol.TheVariants.{Tcp}
use Rattle.kube_model.specs.declared.service.Policy.{Policy}
use Rattle.kube_model.specs.declared.service.Policy.TheVariants.{Cluster, Local}
use Rattle.kube_model.specs.declared.service.Service.{Service}
use Rattle.kube_model.specs.Families.{AreFamilies}
use Rattle.kube_model.specs.Named.{protocol_of}
use Rattle.kube_model.specs.PortFields.{port_of}
use Rattle.kube_events.specs.Fields.{Pairs}
use Rattle.kube_events.specs.Named.{family_of}
use Rattle.kube_events.specs.ServiceFields.{annotations_field, balancer_field, class_field, address_field, families_from, families_at}
use Rattle.kube_events.specs.ServiceFields.{families_field, prefer_dual_field, policy_field, selector_field, ports_field, places_field, service_of}
use Rattle.line_event_laws.proofs.Keys.{HasText}
use Rattle.sharing_terms.specs.Marked.{AreSmall, IsBackend, AreTerms}
use Rattle.sharing_terms.specs.Terms.{backend_by, terms_of}
use Rattle.sharing_terms.proofs.PortSets.{ports_in-are}
use Rattle.shown_service_laws.proofs.Sets.{all-ports_in}

-- the number has 16 bits
abbrev IsSmall : Port → Type 0
IsSmall port = port.port < 65536

-- what is read of the fields that terms are made of, and of the families
pub record HasFields (service : Service) : Type 0 where
  pub share_key : IsUtf8 service.share_key
  pub families : AreFamilies service.families
  pub ports : AreSmall service.ports
  pub namespace : HasText service.key
  pub selector : AreLabels service.selector

-- each service of a key and labels has such fields
abbrev pub MakesFields : (Key → Pairs → Service) → Type 0
MakesFields make = (key : Key) (labels : Pairs) → HasText key → HasFields (make key labels)

-- ---- terms

backend_is : (policy : Policy) (service : Service) → HasFields service → IsBackend (backend_by policy service)
backend_is Cluster service fields = tt
backend_is Local service fields = (fields.namespace, fields.selector.ascending, fields.selector.texts)

pub terms_are : (service : Service) → HasFields service → AreTerms (terms_of service)
terms_are service fields = record {
  key = fields.share_key;
  ports = (ports_in-are service.ports).0;
  numbers = all-ports_in IsSmall service.ports fields.ports;
  backend = backend_is service.policy service fields;
}

-- ---- fields

reads-port_of : Reads IsSmall port_of
unfolding port_of
reads-port_of d h =
    then_ok (λ _. ⊤) IsSmall (object_of d) _ (any_ok (object_of d)) (λ members _.
    then_ok (λ _. ⊤) IsSmall (default_at protocol_of (codes "protocol") Tcp d) _ (any_ok (default_at protocol_of (codes "protocol") Tcp d)) (λ protocol _.
    then_ok (λ n. (1 ≤ n) × (n ≤ 65535)) IsSmall (required_at (number_in 1 65535) (codes "port") d) _
    (reads-required_at (λ n. (1 ≤ n) × (n ≤ 65535)) (number_in 1 65535) (codes "port") (reads-number_in 1 65535) d h)
    (λ port within. let top : port ≤ 65535 = within.1 in omega arith)))

families_are : (path : Path) (families : List Family) → IfOk (families_from path families) AreFamilies
families_are path [] = tt
families_are path (f ∷ []) = tt
families_are path (V4 ∷ V6 ∷ []) = λ e. absurd (cc)
families_are path (V6 ∷ V4 ∷ []) = λ e. absurd (cc)
families_are path (V4 ∷ V4 ∷ []) = tt
families_are path (V6 ∷ V6 ∷ []) = tt
families_are path (V4 ∷ V6 ∷ h ∷ rest) = tt
families_are path (V6 ∷ V4 ∷ h ∷ rest) = tt
families_are path (V4 ∷ V4 ∷ h ∷ rest) = tt
families_are path (V6 ∷ V6 ∷ h ∷ rest) = tt

reads-families : Reads AreFamilies families_field
unfolding families_at
reads-families d h =
    then_ok (λ _. ⊤) AreFamilies (list_at family_of (codes "spec.ipFamilies") d) _ (any_ok (list_at family_of (codes "spec.ipFamilies") d))
    (λ families _. families_are (codes "spec.ipFamilies") families)

pub reads-service_of : Reads MakesFields service_of
unfolding service_of
reads-service_of d h =
    then_ok AreLabels MakesFields (annotations_field d) _ (reads-labels_at (codes "metadata.annotations") d h) (λ annotations notes.
    then_ok (λ _. ⊤) MakesFields (balancer_field d) _ (any_ok (balancer_field d)) (λ balancer _.
    then_ok (λ _. ⊤) MakesFields (class_field d) _ (any_ok (class_field d)) (λ class _.
    then_ok (λ _. ⊤) MakesFields (address_field d) _ (any_ok (address_field d)) (λ address _.
    then_ok AreFamilies MakesFields (families_field d) _ (reads-families d h) (λ families are.
    then_ok (λ _. ⊤) MakesFields (prefer_dual_field d) _ (any_ok (prefer_dual_field d)) (λ prefer_dual _.
    then_ok (λ _. ⊤) MakesFields (policy_field d) _ (any_ok (policy_field d)) (λ policy _.
    then_ok AreLabels MakesFields (selector_field d) _ (reads-labels_at (codes "spec.selector") d h) (λ selector pairs.
    then_ok AreSmall MakesFields (ports_field d) _ (reads-list_at IsSmall port_of (codes "spec.ports") reads-port_of d h) (λ ports small.
    then_ok (λ _. ⊤) MakesFields (places_field d) _ (any_ok (places_field d)) (λ places _ key labels text. record {
      share_key = value_text (codes "metallb.io/allow-shared-ip") annotations notes;
      families = are;
      ports = small;
      namespace = text;
      selector = pairs;
    }))))))))))
