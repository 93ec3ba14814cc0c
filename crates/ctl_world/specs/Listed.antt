-- The objects of a group, as they are shown.
use Rattle.std.specs.Prelude.{if◌then◌else◌, List, [], ◌∷◌, map, filter}
use Rattle.kube_model.specs.declared.event.Event.{Event}
use Rattle.kube_model.specs.declared.event.ListGroup.{ListGroup}
use Rattle.status_store.specs.declared.stored.Stored.{Stored}
use Rattle.world_rules.specs.World.{as_shown, is_of_group}

-- what is stored, as it is shown, where it is of the group
abbrev pub shown_in : ListGroup → Stored → List Event
shown_in group held = if is_of_group group held then as_shown held ∷ [] else []

-- those of the group, as they are shown
abbrev pub listed : ListGroup → List Stored → List Event
listed group objects = map as_shown (filter (is_of_group group) objects)
