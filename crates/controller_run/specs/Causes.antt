-- Why a run of the controller stops.
use Rattle.std.proofs.Common.{◌≡◌, ◌+◌, Bool, true, false, cond, Option, Some, None, Result, Ok, Err}
use Rattle.std.proofs.Common.{is_some, is_err, IsTrue, ◌≢◌, ◌⊎◌, inl, refl, sym, ap, subst}
use Rattle.std.proofs.lemmas.Bool.{true≢false}
use Rattle.kube_model.specs.declared.event.Event.{Event}
use Rattle.kube_model.specs.declared.event.Event.TheVariants.{Changed, Deleted, ListEnd, Expired, Members, Frame, Ignored}
use Rattle.kube_model.specs.declared.event.EventFault.{EventFault}
use Rattle.kube_model.specs.declared.put.Put.{Put}
use Rattle.kube_model.specs.declared.reply.PutReply.{PutReply}
use Rattle.kube_model.specs.declared.status.LaneName.TheVariants as lanes
use Rattle.kube_model.specs.declared.status.What.TheVariants as whats
use Rattle.kube_model.specs.declared.status.Status.{Status}
use Rattle.kube_model.specs.declared.status.Status.TheVariants.{BadLine, BadReply, NoReply, Limit}
use Rattle.kube_events.specs.Event.{event_of_line}
use Rattle.kube_lines.specs.ReplyLines.{reply_of}
use Rattle.core_rules.specs.Core.{State}
use Rattle.core_rules.specs.Take.{limits}
use Rattle.core_drive.specs.Drive.{taking}
use Rattle.kube_lines.specs.OutputLines.{is_taken}
use Rattle.lane_drive.specs.LaneRules.{IsHeldLimit, IsItemLimit}
use Rattle.lane_mail.specs.declared.item.Item.{Item}
use Rattle.lane_mail.specs.declared.lane.Lane.{Lane}
use Rattle.lane_mail.specs.declared.lane.Lane.TheVariants.{First, Second}
use Rattle.mlb_edge.specs.declared.lines.Line.{Line}
use Rattle.line_run.specs.Machine.{Stops}
use Rattle.line_run.specs.Statuses.{IsLineStatus, IsEndStatus}
use Rattle.object_cache.specs.Limits.{most_services}
use Rattle.controller_run.specs.Lanes.{lane_arrival, item_step, lane_rules, name_of}
use Rattle.controller_run.specs.Stream.{goes_by, event_step, reply_step, step_where, line_step, end_of, IsCause}

-- a status that a run may stop with at a line, and its cause
abbrev IsFair : Status → Type 0
IsFair status = IsLineStatus status × IsCause status

limit_cause : (b : Bool) (s : State) (event : Event) (status : Status)
    → cond b (Stops (Limit whats.Services (most_services + 1))) (goes_by (taking s event)) ≡ Stops status → IsFair status
limit_cause false s event status e = absurd (cc)
limit_cause true s event status e =
    let it : Limit whats.Services (most_services + 1) ≡ status = cc in
    subst IsFair it (tt, refl)

event_cause : (read : Result Event EventFault) (s : State) (line : Line) (status : Status) → event_of_line line.bytes ≡ read
    → event_step s line read ≡ Stops status → IsFair status
event_cause (Err fault) s line status r e =
    let it : BadLine lanes.Input line.number line.bytes ≡ status = cc in
    subst IsFair it (refl, ap is_err r)
event_cause (Ok event) s line status r e = limit_cause (limits s event) s event status e

reply_cause : (read : Option PutReply) (put : Put) (s : State) (line : Line) (status : Status) → reply_of put line.bytes ≡ read
    → reply_step s line read ≡ Stops status → IsFair status
reply_cause None put s line status r e =
    let it : BadReply line.number line.bytes ≡ status = cc in
    subst IsFair it (tt, (put, r))
reply_cause (Some reply) put s line status r e = absurd (cc)

where_cause : (o : Option Put) (s : State) (line : Line) (status : Status) → step_where o s line ≡ Stops status → IsFair status
where_cause None s line status e = event_cause (event_of_line line.bytes) s line status refl e
where_cause (Some put) s line status e = reply_cause (reply_of put line.bytes) put s line status refl e

-- the line that a run stops at is a cause to stop so
pub line_causes : (s : State) (line : Line) (status : Status) → line_step s line ≡ Stops status → IsLineStatus status × IsCause status
line_causes s line status e = where_cause s.out s line status e

end_where : (o : Option Put) → IsEndStatus (end_of o) × IsCause (end_of o)
end_where None = (tt, tt)
end_where (Some put) = (tt, tt)

-- a run over lanes stops at an item only where one service more would be held than may be
stops_past : (b : Bool) (s : State) (event : Event) (status : Status)
    → cond b (Stops (Limit whats.Services (most_services + 1))) (goes_by (taking s event)) ≡ Stops status → status ≡ Limit whats.Services (most_services + 1)
stops_past false s event status e = absurd (cc)
stops_past true s event status e = let it : Limit whats.Services (most_services + 1) ≡ status = cc in sym it

past_limit : (event : Event) (s : State) (lane : Lane) (status : Status) → lane_arrival s lane event ≡ Stops status
    → status ≡ Limit whats.Services (most_services + 1)
past_limit Expired s lane status e = absurd (cc)
past_limit (Changed version object) s lane status e = stops_past (limits s (Changed version object)) s (Changed version object) status e
past_limit (Deleted kind key) s lane status e = stops_past (limits s (Deleted kind key)) s (Deleted kind key) status e
past_limit (ListEnd group) s lane status e = stops_past (limits s (ListEnd group)) s (ListEnd group) status e
past_limit (Members names) s lane status e = stops_past (limits s (Members names)) s (Members names) status e
past_limit (Frame interface bytes) s lane status e = stops_past (limits s (Frame interface bytes)) s (Frame interface bytes) status e
past_limit Ignored s lane status e = stops_past (limits s Ignored) s Ignored status e

pub items_past : (s : State) (item : Item) (status : Status) → item_step s item ≡ Stops status → status ≡ Limit whats.Services (most_services + 1)
items_past s item status e = past_limit item.event s item.lane status e

pub items_stop : (s : State) (item : Item) (status : Status) → item_step s item ≡ Stops status → IsItemLimit status
items_stop s item status e = inl (whats.Services, most_services + 1, tt, items_past s item status e)

reply_stops : (read : Option PutReply) (s : State) (line : Line) (status : Status) → reply_step s line read ≡ Stops status
    → status ≡ BadReply line.number line.bytes
reply_stops None s line status e = let it : BadReply line.number line.bytes ≡ status = cc in sym it
reply_stops (Some reply) s line status e = absurd (cc)

awaited_stops : (o : Option Put) (s : State) (line : Line) (status : Status) → is_some o ≡ true → step_where o s line ≡ Stops status
    → status ≡ BadReply line.number line.bytes
awaited_stops None s line status waits e = absurd (true≢false (sym waits))
awaited_stops (Some put) s line status waits e = reply_stops (reply_of put line.bytes) s line status e

-- and where a reply is awaited only at a line that isn't one
pub not_a_reply : (s : State) (line : Line) (status : Status) → is_some s.out ≡ true → line_step s line ≡ Stops status
    → status ≡ BadReply line.number line.bytes
not_a_reply s line status waits e = awaited_stops s.out s line status waits e

pub replies_stop : (s : State) (line : Line) (status : Status) → is_some s.out ≡ true → line_step s line ≡ Stops status
    → (status ≡ BadReply line.number line.bytes) ⊎ IsHeldLimit status
replies_stop s line status waits e = inl (not_a_reply s line status waits e)

put_unanswered : (o : Option Put) → is_some o ≡ true → (put : Put) × (end_of o ≡ NoReply put)
put_unanswered None waits = absurd (cc)
put_unanswered (Some put) waits = (put, refl)

-- where a reply is awaited it is that to the put in flight
pub awaits_reply : (s : State) → is_some s.out ≡ true → (put : Put) × (end_of s.out ≡ NoReply put)
awaits_reply s waits = put_unanswered s.out waits

-- neither lane is the input, and their names differ
pub lanes_are_taken : (lane : Lane) → IsTrue (is_taken (name_of lane))
lanes_are_taken First = refl
lanes_are_taken Second = refl

pub names_differ : name_of First ≢ name_of Second
names_differ e = absurd (cc)

-- there are replies
pub heard_replies : lane_rules.hears ≡ false → (s : State) → lane_rules.waits s ≡ false
heard_replies e s = absurd (true≢false e)

-- and so is the end of the input
pub end_causes : (s : State) → IsEndStatus (end_of s.out) × IsCause (end_of s.out)
end_causes s = end_where s.out
