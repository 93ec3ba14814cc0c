-- What the items of two lanes are to the controller: the objects of the configuration, and the services.
use Rattle.std.specs.Prelude.{Bool, true, false, Option, Some, None, is_some}
use Rattle.core_drive.specs.Drive.{TranscriptEntry, expiring}
use Rattle.core_rules.specs.Core.{State}
use Rattle.kube_model.specs.Kinds.{kind_of, group_of}
use Rattle.kube_model.specs.declared.event.Event.{Event}
use Rattle.kube_model.specs.declared.event.Event.TheVariants.{Changed, Deleted, ListEnd, Expired, Members, Frame, Ignored}
use Rattle.kube_model.specs.declared.event.ListGroup.{ListGroup}
use Rattle.kube_model.specs.declared.event.ListGroup.TheVariants as groups
use Rattle.kube_model.specs.declared.status.LaneName.{LaneName}
use Rattle.kube_model.specs.declared.status.LaneName.TheVariants as names
use Rattle.lane_drive.specs.LaneRules.{LaneRules}
use Rattle.lane_mail.specs.declared.item.Item.{Item}
use Rattle.lane_mail.specs.declared.lane.Lane.{Lane}
use Rattle.lane_mail.specs.declared.lane.Lane.TheVariants.{First, Second}
use Rattle.line_run.specs.Machine.{Transition}
use Rattle.controller_run.specs.Output.{entry_text}
use Rattle.controller_run.specs.Stream.{goes_by, arrival, line_step, end_of}

-- the group of what the event tells of, if it tells of one
abbrev pub group_in : Event → Option ListGroup
group_in (Changed version object) = Some (group_of (kind_of object))
group_in (Deleted kind key) = Some (group_of kind)
group_in (ListEnd group) = Some group
group_in Expired = None
group_in (Members names) = None
group_in (Frame interface bytes) = None
group_in Ignored = None

-- nothing of the services may come by the first lane, and nothing of the configuration by the second
abbrev pub carries : Lane → Option ListGroup → Bool
carries First (Some groups.Config) = true
carries First (Some groups.Service) = false
carries First (Some groups.Endpoint) = true
carries First None = true
carries Second (Some groups.Config) = false
carries Second (Some groups.Service) = true
carries Second (Some groups.Endpoint) = true
carries Second None = true

-- whether the event may come by the lane
abbrev pub belongs_to : Lane → Event → Bool
belongs_to lane event = carries lane (group_in event)

abbrev pub name_of : Lane → LaneName
name_of First = names.Config
name_of Second = names.Service

-- the group that the lane is the watch of
abbrev pub lane_group : Lane → ListGroup
lane_group First = groups.Config
lane_group Second = groups.Service

-- what an event that came by the lane is to this core: an expired watch is that of the lane's own group alone, and every other event is what
-- it is in one stream
abbrev pub lane_arrival : State → Lane → Event → Transition State TranscriptEntry
lane_arrival s lane Expired = goes_by (expiring s (lane_group lane))
lane_arrival s lane (Changed version object) = arrival s (Changed version object)
lane_arrival s lane (Deleted kind key) = arrival s (Deleted kind key)
lane_arrival s lane (ListEnd group) = arrival s (ListEnd group)
lane_arrival s lane (Members names) = arrival s (Members names)
lane_arrival s lane (Frame interface bytes) = arrival s (Frame interface bytes)
lane_arrival s lane Ignored = arrival s Ignored

-- what an item is to this core
abbrev pub item_step : State → Item → Transition State TranscriptEntry
item_step s item = lane_arrival s item.lane item.event

-- the controller, as a machine over items; the lines of the input are the replies to its puts
abbrev pub lane_rules : LaneRules State TranscriptEntry
lane_rules = record {
  take = item_step;
  waits = λ s. is_some s.out;
  hear = line_step;
  unanswered = λ s. end_of s.out;
  hears = true;
  text = entry_text;
  name = name_of;
}
