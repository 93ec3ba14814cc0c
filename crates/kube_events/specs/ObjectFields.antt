-- The fields of an object, in the order in which the first faulty one is named.
use Rattle.std.specs.Prelude.{Result, Ok}
use Rattle.serde_json.specs.Data.{Data}
use Rattle.json_fields.specs.Path.{Path}
use Rattle.json_fields.specs.Reading.{◌>>=◌}
use Rattle.kube_model.specs.declared.key.Key.{Key}
use Rattle.kube_model.specs.declared.object.Kind.{Kind}
use Rattle.kube_model.specs.declared.object.Kind.TheVariants as kinds
use Rattle.kube_model.specs.declared.object.Object.{Object}
use Rattle.kube_model.specs.declared.object.Object.TheVariants as objects
use Rattle.kube_model.specs.declared.event.Event.{Event}
use Rattle.kube_model.specs.declared.event.Event.TheVariants.{Changed, Deleted}
use Rattle.kube_events.specs.declared.object_fields.Spec.{Spec}
use Rattle.kube_events.specs.declared.object_fields.Spec.TheVariants as specs
use Rattle.kube_events.specs.Fields.{Pairs, key_of, version_field, labels_field}
use Rattle.kube_events.specs.ServiceFields.{service_of, service_with}
use Rattle.kube_events.specs.PoolFields.{pool_of, pool_with}
use Rattle.kube_events.specs.L2Fields.{l2_of, l2_with}
use Rattle.kube_events.specs.BgpFields.{bgp_of, bgp_with}
use Rattle.kube_events.specs.PeerFields.{peer_of, peer_with}
use Rattle.kube_events.specs.CommunityFields.{named_values_field}
use Rattle.kube_events.specs.SliceFields.{slice_of, slice_with}

abbrev pub mapped : {A B : Type 0} → (A → B) → Result A Path → Result B Path
mapped make read = read >>= λ x. Ok (make x)

-- the object of a key and labels, by its fields beside the metadata
unfoldable pub body_of : Kind → Data → Result (Key → Pairs → Object) Path
body_of kinds.Service d = mapped (λ make key labels. objects.Service (make key labels)) (service_of d)
body_of kinds.Pool d = mapped (λ make key labels. objects.Pool (make key labels)) (pool_of d)
body_of kinds.L2 d = mapped (λ make key labels. objects.L2 (make key)) (l2_of d)
body_of kinds.Bgp d = mapped (λ make key labels. objects.Bgp (make key)) (bgp_of d)
body_of kinds.Peer d = mapped (λ make key labels. objects.Peer (make key)) (peer_of d)
body_of kinds.Community d = mapped (λ values key labels. objects.Community (record { name = key.name; values = values })) (named_values_field d)
body_of kinds.Namespace d = Ok (λ key labels. objects.Namespace (record { name = key.name; labels = labels }))
body_of kinds.Node d = Ok (λ key labels. objects.Node (record { name = key.name; labels = labels }))
body_of kinds.Slice d = mapped (λ make key labels. objects.Slice (make key)) (slice_of d)

-- the object that its fields state, whatever its version
unfoldable pub stated_object : Kind → Data → Result Object Path
stated_object kind d = do
  key ← key_of kind d
  labels ← labels_field d
  make ← body_of kind d
  Ok (make key labels)

unfoldable pub changed_of : Kind → Data → Result Event Path
changed_of kind d = do
  key ← key_of kind d
  version ← version_field d
  labels ← labels_field d
  make ← body_of kind d
  Ok (Changed version (make key labels))

-- of an object that is gone, the key and the version alone
unfoldable pub deleted_of : Kind → Data → Result Event Path
deleted_of kind d = do
  key ← key_of kind d
  version ← version_field d
  Ok (Deleted kind key)

-- ---- as it is read

abbrev pub object_with : Spec → Key → Pairs → Object
object_with (specs.Service s) key labels = objects.Service (service_with s key labels)
object_with (specs.Pool s) key labels = objects.Pool (pool_with s key labels)
object_with (specs.L2 s) key labels = objects.L2 (l2_with s key)
object_with (specs.Bgp s) key labels = objects.Bgp (bgp_with s key)
object_with (specs.Peer s) key labels = objects.Peer (peer_with s key)
object_with (specs.Community values) key labels = objects.Community (record { name = key.name; values = values })
object_with specs.Namespace key labels = objects.Namespace (record { name = key.name; labels = labels })
object_with specs.Node key labels = objects.Node (record { name = key.name; labels = labels })
object_with (specs.Slice s) key labels = objects.Slice (slice_with s key)
