-- What lines tell of objects, and objects that are stated.
use Rattle.std.proofs.Common.{◌≡◌, ℕ, Result, Ok, Err, refl, inl, inr}
use Rattle.json_fields.specs.Path.{Path}
use Rattle.json_fields.specs.Reading.{◌>>=◌}
use Rattle.kube_model.specs.declared.event.Event.TheVariants.{Changed}
use Rattle.kube_model.specs.declared.object.Object.{Object}
use Rattle.kube_events.specs.Fields.{key_of, version_field, labels_field}
use Rattle.kube_events.specs.ObjectFields.{body_of, stated_object, changed_of}
use Rattle.kube_events.specs.Event.{event_of, event_of_line}
use Rattle.event_laws.specs.Telling.{SetLinesAreRead, DeletedLinesAreRead, SetObjectsAreStated}
use Rattle.event_laws.proofs.Spelled.{kinds_named}

pub set_lines_are_read : SetLinesAreRead
unfolding event_of event_of_line
set_lines_are_read line d kind (inl tells) = rw (tells.spells, tells.of_type, tells.has_object, tells.of_kind, kinds_named kind) refl
set_lines_are_read line d kind (inr tells) = rw (tells.spells, tells.of_type, tells.has_object, tells.of_kind, kinds_named kind) refl

pub deleted_lines_are_read : DeletedLinesAreRead
unfolding event_of event_of_line
deleted_lines_are_read line d kind tells = rw (tells.spells, tells.of_type, tells.has_object, tells.of_kind, kinds_named kind) refl

object_in : {K L : Type 0} (key : Result K Path) (version : Result ℕ Path) (labels : Result L Path) (body : Result (K → L → Object) Path) (n : ℕ)
    (object : Object)
    → (key >>= λ k. version >>= λ v. labels >>= λ l. body >>= λ make. Ok (Changed v (make k l))) ≡ Ok (Changed n object)
    → (key >>= λ k. labels >>= λ l. body >>= λ make. Ok (make k l)) ≡ Ok object
object_in (Ok k) (Ok v) (Ok l) (Ok make) n object is = cc
object_in (Ok k) (Ok v) (Ok l) (Err path) n object is = absurd cc
object_in (Ok k) (Ok v) (Err path) body n object is = absurd cc
object_in (Ok k) (Err path) labels body n object is = absurd cc
object_in (Err path) version labels body n object is = absurd cc

pub set_objects_are_stated : SetObjectsAreStated
unfolding changed_of stated_object
set_objects_are_stated kind d n object is =
    object_in (key_of kind d) (version_field d) (labels_field d) (body_of kind d) n object is
