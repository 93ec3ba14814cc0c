-- Marks: texts that keep terms, in the annotation `metallb.io/ip-held-as`. A mark is `v1;`, the sharing key, `;`, the ports, `;` and
-- the backend. Texts stand in lower-case hexadecimal.
use Rattle.std.specs.Prelude.{ℕ, List, [], ◌∷◌, ◌++◌, codes, decimal}
use Rattle.std.specs.List.{flat_map}
use Rattle.hex.specs.Hex.{encode_lower}
use Rattle.kube_model.specs.declared.port.Port.{Port}
use Rattle.kube_model.specs.declared.port.Protocol.{Protocol}
use Rattle.kube_model.specs.declared.port.Protocol.TheVariants.{Tcp, Udp, Sctp}
use Rattle.sharing_terms.specs.declared.terms.Terms.{Terms}
use Rattle.sharing_terms.specs.declared.terms.Backend.{Backend}
use Rattle.sharing_terms.specs.declared.terms.Backend.TheVariants.{Cluster, Local}

-- T, U or S
abbrev pub protocol_letter : Protocol → ℕ
protocol_letter Tcp = 84
protocol_letter Udp = 85
protocol_letter Sctp = 83

-- T, U or S, and the port
abbrev pub port_text : Port → List ℕ
port_text port = protocol_letter port.protocol ∷ decimal port.port

-- the first port, and each other one after a comma (44)
abbrev pub ports_text : List Port → List ℕ
ports_text [] = []
ports_text (port ∷ ports) = port_text port ++ flat_map (λ p. 44 ∷ port_text p) ports

-- a comma (44), the name, an equals sign (61) and the value
abbrev pub pair_text : List ℕ × List ℕ → List ℕ
pair_text p = 44 ∷ encode_lower p.0 ++ 61 ∷ encode_lower p.1

-- C, or L with the namespace and the pairs of the selector
abbrev pub backend_text : Backend → List ℕ
backend_text Cluster = codes "C"
backend_text (Local namespace selector) = codes "L" ++ encode_lower namespace ++ flat_map pair_text selector

-- the one mark of the terms
abbrev pub mark_of : Terms → List ℕ
mark_of t = codes "v1;" ++ encode_lower t.key ++ codes ";" ++ ports_text t.ports ++ codes ";" ++ backend_text t.backend
