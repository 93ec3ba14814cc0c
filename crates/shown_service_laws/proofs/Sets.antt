-- What holds of each port of a list holds of each port of its set.
use Rattle.std.proofs.Common.{List, [], ◌∷◌, Ordering}
use Rattle.std.specs.BTreeSet.{insert_key}
use Rattle.std.specs.List.{AllByRecursion}
use Rattle.json_text_laws.proofs.Values.{chosen}
use Rattle.kube_model.specs.declared.port.Port.{Port}
use Rattle.sharing_terms.specs.Ports.{port_cmp, ports_with, ports_in}

all-insert_key : {K : Type 0} (P : K → Type 0) (cmp : K → K → Ordering) (ks : List K) (k : K) → P k → AllByRecursion P ks
    → AllByRecursion P (insert_key cmp ks k)
all-insert_key P cmp [] k new all = (new, tt)
all-insert_key P cmp (x ∷ ks) k new all =
    chosen (AllByRecursion P) (cmp k x) _ _ _ (new, all) all (all.0, all-insert_key P cmp ks k new all.1)

all-ports_with : (P : Port → Type 0) (kept ports : List Port) → AllByRecursion P kept → AllByRecursion P ports → AllByRecursion P (ports_with kept ports)
all-ports_with P kept [] old new = old
all-ports_with P kept (p ∷ ports) old new = all-ports_with P (insert_key port_cmp kept p) ports (all-insert_key P port_cmp kept p new.0 old) new.1

pub all-ports_in : (P : Port → Type 0) (ports : List Port) → AllByRecursion P ports → AllByRecursion P (ports_in ports)
all-ports_in P ports all = all-ports_with P [] ports tt all
