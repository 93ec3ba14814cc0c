-- Which steps there are, as tests.
use Rattle.std.specs.Prelude.{◌≡◌, Bool, true, false, ◌&&◌, ◌==◌, not, Option, None, Some, is_some, IfSome, IsSome}
use Rattle.mlb_base.specs.Items.{is_nil}
use Rattle.kube_model.specs.declared.event.ListGroup.{ListGroup}
use Rattle.kube_model.specs.declared.event.ListGroup.TheVariants as groups
use Rattle.kube_model.specs.Records.{is_assigned}
use Rattle.status_store.specs.declared.change.Edit.{Edit}
use Rattle.status_store.specs.declared.change.Edit.TheVariants.{Set, Reset, Delete}
use Rattle.status_store.specs.Objects.{stored_at}
use Rattle.status_store.specs.Changes.{StoreValue, record_of}
use Rattle.core_rules.specs.Core.{State}
use Rattle.world_rules.specs.declared.step.Step.{Step}
use Rattle.world_rules.specs.declared.step.Step.TheVariants.{Edit as Edits, Take, Turn as Turns, Crash, Restart, Expire}
use Rattle.world_rules.specs.World.{WorldValue, lane_of, most_versions}

-- whether there is such an edit: an object that is set with its own record has no address in it, and one that is deleted is there
abbrev pub may_edit : Edit → StoreValue → Bool
may_edit (Set object) store = true
may_edit (Reset object) store = not (is_assigned (record_of object))
may_edit (Delete kind key) store = is_some (stored_at store.objects (kind, key))

-- whether an event of the group is pending
abbrev pub has_event : ListGroup → WorldValue → Bool
has_event group w = not (is_nil (lane_of group w))

-- whether the controller is up, with a service queued
abbrev pub has_turn : Option State → Bool
has_turn None = false
has_turn (Some s) = not (is_nil s.queue)

-- whether what is stored of the group is shown to the controller
abbrev pub has_lane : ListGroup → Bool
has_lane groups.Config = true
has_lane groups.Service = true
has_lane groups.Endpoint = false

-- whether there is such a step
abbrev pub is_enabled : Step → WorldValue → Bool
is_enabled (Edits edit) w = may_edit edit w.store
is_enabled (Take group) w = is_some w.core && has_event group w
is_enabled (Turns outcome) w = has_turn w.core
is_enabled (Crash applied) w = is_some w.core
is_enabled (Restart order) w = not (is_some w.core)
is_enabled (Expire group order) w = is_some w.core && has_lane group

-- whether the step would take a version
abbrev pub takes_version : Step → Bool
takes_version (Edits edit) = true
takes_version (Take group) = false
takes_version (Turns outcome) = true
takes_version (Crash applied) = applied
takes_version (Restart order) = false
takes_version (Expire group order) = false

-- whether it would, and every version has been given
abbrev pub is_used_up : Step → WorldValue → Bool
is_used_up step w = takes_version step && w.store.counter == most_versions

-- ---- puts that are out

-- a core that is up has no put out
abbrev pub HasNoneOut : Option State → Type 0
HasNoneOut core = IfSome core (λ s. s.out ≡ None)

-- a core that is up has a put out
abbrev pub HasOneOut : Option State → Type 0
HasOneOut core = IfSome core (λ s. IsSome s.out)
