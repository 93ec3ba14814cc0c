-- Namespaces and nodes are read as they are spelled.
use Rattle.std.proofs.Common.{refl}
use Rattle.kube_model.specs.declared.object.Kind.TheVariants as kinds
use Rattle.kube_model.specs.declared.object.Object.TheVariants as objects
use Rattle.kube_events.specs.ObjectFields.{body_of}
use Rattle.event_laws.specs.BareLines.{NamespacesAreRead, NodesAreRead}
use Rattle.event_laws.proofs.Spelled.{head_read}

pub namespaces_are_read : NamespacesAreRead
unfolding body_of
namespaces_are_read line head left_out spec n spells is_head =
    head_read kinds.Namespace line head left_out spec n (λ key labels. objects.Namespace (record { name = key.name; labels = labels })) spells (λ d. refl)
    is_head refl

pub nodes_are_read : NodesAreRead
unfolding body_of
nodes_are_read line head left_out spec n spells is_head =
    head_read kinds.Node line head left_out spec n (λ key labels. objects.Node (record { name = key.name; labels = labels })) spells (λ d. refl) is_head refl
