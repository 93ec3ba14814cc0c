-- The lines that spell namespaces and nodes, of which the metadata alone is read.
use Rattle.std.specs.Prelude.{◌≡◌, ℕ, List, Bool, Ok, codes}
use Rattle.kube_model.specs.declared.event.Event.TheVariants.{Changed}
use Rattle.kube_model.specs.declared.object.Object.TheVariants as objects
use Rattle.kube_events.specs.Event.{event_of_line}
use Rattle.event_laws.specs.ObjectLines.{Field, Head, IsHead, object_line, pairs_spelled, Spells}

-- The line that spells a namespace is read as it, whatever its spec has.
abbrev pub NamespacesAreRead : Type 0
NamespacesAreRead = (line : List ℕ) (head : Head) (left_out : Bool) (spec : List Field) (n : ℕ)
    → Spells line (object_line (codes "Namespace") head left_out spec) → IsHead head n
    → event_of_line line
    ≡ Ok (Changed n (objects.Namespace (record { name = head.name; labels = pairs_spelled head.labels })))

-- The line that spells a node is read as it, whatever its spec has.
abbrev pub NodesAreRead : Type 0
NodesAreRead = (line : List ℕ) (head : Head) (left_out : Bool) (spec : List Field) (n : ℕ) → Spells line (object_line (codes "Node") head left_out spec)
    → IsHead head n
    → event_of_line line
    ≡ Ok (Changed n (objects.Node (record { name = head.name; labels = pairs_spelled head.labels })))
