-- What a service of the type has: its terms are terms that there can be.
use Rattle.std.proofs.Common.{◌<◌, Ordering, Less, Equal, Greater, List, [], ◌∷◌}
use Rattle.std.specs.BTreeSet.{insert_key}
use Rattle.std.specs.Ordering.{match_ordering}
use Rattle.std.specs.Str.{IsUtf8}
use Rattle.kube_labels.specs.Pairs.{IsAscending}
use Rattle.kube_model.specs.declared.port.Port.{Port}
use Rattle.kube_model.specs.declared.service.Policy.{Policy}
use Rattle.kube_model.specs.declared.service.Policy.TheVariants.{Cluster as ClusterPolicy, Local as LocalPolicy}
use Rattle.kube_model.specs.declared.service.Service.{Service}
use Rattle.sharing_terms.specs.Marked.{AreSmall, AreTexts, AreTerms, IsBackend}
use Rattle.sharing_terms.specs.Ports.{port_cmp, ports_with}
use Rattle.sharing_terms.specs.Terms.{terms_of, backend_by}
use Rattle.sharing_terms.proofs.PortSets.{ports_in-are}

small_by : (r : Ordering) (p y : Port) (ys : List Port) → p.port < 65536 → y.port < 65536 → AreSmall ys → AreSmall (insert_key port_cmp ys p)
    → AreSmall (match_ordering r (p ∷ y ∷ ys) (y ∷ ys) (y ∷ insert_key port_cmp ys p))
small_by Less p y ys small first others ih = (small, (first, others))
small_by Equal p y ys small first others ih = (first, others)
small_by Greater p y ys small first others ih = (first, ih)

small-inserted : (ys : List Port) (p : Port) → p.port < 65536 → AreSmall ys → AreSmall (insert_key port_cmp ys p)
small-inserted [] p small others = (small, tt)
small-inserted (y ∷ ys) p small others = small_by (port_cmp p y) p y ys small others.0 others.1 (small-inserted ys p small others.1)

small-with : (ports kept : List Port) → AreSmall ports → AreSmall kept → AreSmall (ports_with kept ports)
small-with [] kept small held = held
small-with (p ∷ ports) kept small held = small-with ports (insert_key port_cmp kept p) small.1 (small-inserted kept p small.0 held)

backend-by : (policy : Policy) (service : Service) → IsUtf8 service.key.namespace → IsAscending service.selector → AreTexts service.selector
    → IsBackend (backend_by policy service)
backend-by ClusterPolicy service namespace ordered texts = tt
backend-by LocalPolicy service namespace ordered texts = (namespace, ordered, texts)

pub terms-are : (service : Service) → IsUtf8 service.share_key → IsUtf8 service.key.namespace → AreSmall service.ports → IsAscending service.selector
    → AreTexts service.selector → AreTerms (terms_of service)
terms-are service key namespace small ordered texts = record {
  key = key;
  ports = (ports_in-are service.ports).0;
  numbers = small-with service.ports [] small tt;
  backend = backend-by service.policy service namespace ordered texts;
}
