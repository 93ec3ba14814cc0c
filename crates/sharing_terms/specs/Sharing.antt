-- Which terms may share an address.
use Rattle.std.specs.Prelude.{◌≡◌, ◌≢◌, ◌==◌, ◌&&◌, not, Bool, true, false, List, [], ⊤}
use Rattle.std.specs.List.{Contains, list_any}
use Rattle.std.specs.Str.{bytes_eq}
use Rattle.std.specs.Cmp.Lexicographic.{pointwise}
use Rattle.mlb_base.specs.Items.{is_nil}
use Rattle.kube_labels.specs.Pairs.{pair_eq}
use Rattle.kube_model.specs.declared.port.Port.{Port}
use Rattle.kube_model.specs.declared.port.Protocol.{Protocol}
use Rattle.kube_model.specs.declared.port.Protocol.TheVariants.{Tcp, Udp, Sctp}
use Rattle.sharing_terms.specs.declared.terms.Terms.{Terms}
use Rattle.sharing_terms.specs.declared.terms.Backend.{Backend}
use Rattle.sharing_terms.specs.declared.terms.Backend.TheVariants.{Cluster, Local}

-- both go to the cluster, or both to the same selection of one namespace
abbrev pub AreAlike : Backend → Backend → Type 0
AreAlike Cluster Cluster = ⊤
AreAlike Cluster (Local namespace selector) = ⊥
AreAlike (Local namespace selector) Cluster = ⊥
AreAlike (Local namespace selector) (Local other others) = (namespace ≡ other) × (selector ≡ others)

-- They have one sharing key, no port in common, and backends that are alike.
pub record MayShare (a b : Terms) : Type 0 where
  pub same_key : a.key ≡ b.key
  pub has_key : a.key ≢ []
  pub apart : (port : Port) → Contains a.ports port → ¬ (Contains b.ports port)
  pub alike : AreAlike a.backend b.backend

-- The same as tests.
abbrev pub same_protocol : Protocol → Protocol → Bool
same_protocol Tcp Tcp = true
same_protocol Udp Udp = true
same_protocol Sctp Sctp = true
same_protocol p q = false

abbrev pub same_port : Port → Port → Bool
same_port p q = same_protocol p.protocol q.protocol && (p.port == q.port)

abbrev pub has_port : List Port → Port → Bool
has_port ports port = list_any (same_port port) ports

abbrev pub is_alike : Backend → Backend → Bool
is_alike Cluster Cluster = true
is_alike Cluster (Local namespace selector) = false
is_alike (Local namespace selector) Cluster = false
is_alike (Local namespace selector) (Local other others) = bytes_eq namespace other && pointwise pair_eq selector others

abbrev pub may_share : Terms → Terms → Bool
may_share a b = bytes_eq a.key b.key && not (is_nil a.key) && not (list_any (has_port b.ports) a.ports) && is_alike a.backend b.backend
