-- The objects after an event, kind by kind.
use Rattle.std.proofs.Common.{◌≡◌, ℕ, Result, OnOk, refl, ◌∙◌}
use Rattle.kube_model.specs.declared.event.Event.TheVariants.{Changed, Deleted}
use Rattle.kube_model.specs.declared.key.Key.{Key}
use Rattle.kube_model.specs.declared.object.Kind.{Kind}
use Rattle.kube_model.specs.declared.object.Kind.TheVariants as kinds
use Rattle.kube_model.specs.declared.object.Object.{Object}
use Rattle.kube_model.specs.declared.object.Object.TheVariants as objects
use Rattle.object_history.specs.Observations.{Watched}
use Rattle.object_history.specs.Cache.{objects_after}
use Rattle.pool_config.specs.declared.object_set.ObjectSet.{ObjectSet}
use Rattle.pool_config.specs.Objects.{set_shown, set_without}

pub shown_is : (version : ℕ) (object : Object) (s : ObjectSet) → set_shown s version object ≡ objects_after (Watched (Changed version object)) s
shown_is version (objects.Service service) s = refl
shown_is version (objects.Pool pool) s = refl
shown_is version (objects.L2 adv) s = refl
shown_is version (objects.Bgp adv) s = refl
shown_is version (objects.Peer peer) s = refl
shown_is version (objects.Community community) s = refl
shown_is version (objects.Namespace namespace) s = refl
shown_is version (objects.Node node) s = refl
shown_is version (objects.Slice slice) s = refl

pub removed_is : (kind : Kind) (key : Key) (s : ObjectSet) → set_without s kind key.name ≡ objects_after (Watched (Deleted kind key)) s
removed_is kinds.Service key s = refl
removed_is kinds.Pool key s = refl
removed_is kinds.L2 key s = refl
removed_is kinds.Bgp key s = refl
removed_is kinds.Peer key s = refl
removed_is kinds.Community key s = refl
removed_is kinds.Namespace key s = refl
removed_is kinds.Node key s = refl
removed_is kinds.Slice key s = refl
