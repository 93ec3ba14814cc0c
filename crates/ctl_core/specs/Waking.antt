-- Whether an event of the configuration can make the core ready, or leave it so.
use Rattle.std.specs.Prelude.{Bool, true, false, ◌&&◌, ◌||◌}
use Rattle.kube_model.specs.declared.event.Event.{Event}
use Rattle.kube_model.specs.declared.event.Event.TheVariants.{Changed, Deleted, ListEnd, Expired, Members, Frame, Ignored}
use Rattle.kube_model.specs.declared.event.ListGroup.{ListGroup}
use Rattle.kube_model.specs.declared.event.ListGroup.TheVariants as groups
use Rattle.object_history.specs.Cache.{Cached}

abbrev pub is_config : ListGroup → Bool
is_config groups.Config = true
is_config groups.Service = false
is_config groups.Endpoint = false

-- the list of the configuration ends
abbrev pub ends_config : Event → Bool
ends_config (Changed version object) = false
ends_config (Deleted kind key) = false
ends_config (ListEnd group) = is_config group
ends_config Expired = false
ends_config (Members names) = false
ends_config (Frame interface bytes) = false
ends_config Ignored = false

-- the list of the services has ended, and that of the configuration has ended or ends now
abbrev pub may_wake : Cached → Event → Bool
may_wake held event = held.services_ended && (held.config_ended || ends_config event)
