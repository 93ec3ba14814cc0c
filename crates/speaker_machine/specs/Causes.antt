-- Why a run of the speaker stops.
use Rattle.std.specs.Bool.{IsTrue}
use Rattle.std.proofs.Common.{◌≡◌, ◌≢◌, ℕ, ◌+◌, Bool, true, false, Option, Some, None, Result, Ok, Err, is_err, inl, refl, sym, ap, subst}
use Rattle.std.proofs.lemmas.Bool.{true≢false}
use Rattle.kube_labels.specs.Names.{name_cmp}
use Rattle.kube_model.specs.Keys.{key_cmp}
use Rattle.kube_model.specs.declared.event.Event.{Event}
use Rattle.kube_model.specs.declared.event.Event.TheVariants.{Changed, Deleted, ListEnd, Expired, Members, Frame, Ignored}
use Rattle.kube_model.specs.declared.event.EventFault.{EventFault}
use Rattle.kube_model.specs.declared.object.Kind.{Kind}
use Rattle.kube_model.specs.declared.object.Kind.TheVariants as kinds
use Rattle.kube_model.specs.declared.object.Object.{Object}
use Rattle.kube_model.specs.declared.object.Object.TheVariants as objects
use Rattle.kube_model.specs.declared.status.LaneName.TheVariants as lanes
use Rattle.kube_model.specs.declared.status.Status.{Status}
use Rattle.kube_model.specs.declared.status.Status.TheVariants.{Done, BadLine, Limit}
use Rattle.kube_events.specs.Event.{event_of_line}
use Rattle.object_cache.specs.Limits.{most_services, most_nodes, passes, first_past, object_limit, limit_of}
use Rattle.object_history.specs.Cache.{Cached}
use Rattle.speaker_view.specs.View.{limit_by}
use Rattle.kube_lines.specs.OutputLines.{is_taken}
use Rattle.lane_drive.specs.LaneRules.{IsHeldLimit, IsItemLimit}
use Rattle.lane_mail.specs.declared.item.Item.{Item}
use Rattle.lane_mail.specs.declared.lane.Lane.{Lane}
use Rattle.lane_mail.specs.declared.lane.Lane.TheVariants.{First, Second}
use Rattle.mlb_edge.specs.declared.lines.Line.{Line}
use Rattle.line_run.specs.Machine.{Stops}
use Rattle.line_run.specs.Statuses.{IsLineStatus, IsEndStatus}
use Rattle.speaker_machine.specs.Lanes.{item_step, lane_rules, name_of}
use Rattle.speaker_machine.specs.Stream.{SpeakerState, what_of, limit_step, event_step, line_step, IsCause}

-- a status that a run may stop with at a line, and its cause
abbrev pub IsFair : Status → Type 0
IsFair status = IsLineStatus status × IsCause status

abbrev IsFairLimit : Kind × ℕ → Type 0
IsFairLimit p = IsFair (Limit (what_of p.0) p.1)

past_first : (b : Bool) (kind : Kind) (most : ℕ) (p : Kind × ℕ) → IsFairLimit (kind, most + 1) → first_past kind most b ≡ Some p → IsFairLimit p
past_first false kind most p fair e = absurd (cc)
past_first true kind most p fair e = let is : (kind, most + 1) ≡ p = cc in subst IsFairLimit is fair

object_fair : (held : Cached) (version : ℕ) (object : Object) (p : Kind × ℕ) → object_limit held version object ≡ Some p → IsFairLimit p
object_fair held version (objects.Service service) p e =
    past_first (passes key_cmp most_services held.services service.key version) kinds.Service most_services p (tt, refl) e
object_fair held version (objects.Node node) p e = past_first (passes name_cmp most_nodes held.nodes node.name version) kinds.Node most_nodes p (tt, refl) e
object_fair held version (objects.Namespace namespace) p e = absurd (cc)
object_fair held version (objects.Pool pool) p e = absurd (cc)
object_fair held version (objects.L2 adv) p e = absurd (cc)
object_fair held version (objects.Bgp adv) p e = absurd (cc)
object_fair held version (objects.Peer peer) p e = absurd (cc)
object_fair held version (objects.Community community) p e = absurd (cc)
object_fair held version (objects.Slice slice) p e = absurd (cc)

limit_fair : (held : Cached) (event : Event) (p : Kind × ℕ) → limit_of held event ≡ Some p → IsFairLimit p
limit_fair held (Changed version object) p e = object_fair held version object p e
limit_fair held (Deleted kind key) p e = absurd (cc)
limit_fair held (ListEnd group) p e = absurd (cc)
limit_fair held Expired p e = absurd (cc)
limit_fair held (Members names) p e = absurd (cc)
limit_fair held (Frame interface bytes) p e = absurd (cc)
limit_fair held Ignored p e = absurd (cc)

pub limit_cause : (passed : Option (Kind × ℕ)) (s : SpeakerState) (event : Event) (status : Status) → limit_by s.view event ≡ passed
    → limit_step s event passed ≡ Stops status → IsFair status
limit_cause None s event status is e = absurd (cc)
limit_cause (Some p) s event status is e =
    let it : Limit (what_of p.0) p.1 ≡ status = cc in
    subst IsFair it (limit_fair s.view.held event p is)

event_cause : (read : Result Event EventFault) (s : SpeakerState) (line : Line) (status : Status) → event_of_line line.bytes ≡ read
    → event_step s line read ≡ Stops status → IsFair status
event_cause (Err fault) s line status r e =
    let it : BadLine lanes.Input line.number line.bytes ≡ status = cc in
    subst IsFair it (refl, ap is_err r)
event_cause (Ok event) s line status r e = limit_cause (limit_by s.view event) s event status refl e

-- the line that a run stops at is a cause to stop so
pub line_causes : (s : SpeakerState) (line : Line) (status : Status) → line_step s line ≡ Stops status → IsLineStatus status × IsCause status
line_causes s line status e = event_cause (event_of_line line.bytes) s line status refl e

-- and so is the end of the input
pub end_causes : (s : SpeakerState) → IsEndStatus Done × IsCause Done
end_causes s = (tt, tt)

held_limit : (o : Option (Kind × ℕ)) (s : SpeakerState) (event : Event) (status : Status) → limit_by s.view event ≡ o → limit_step s event o ≡ Stops status
    → IsHeldLimit status
held_limit None s event status is e = absurd (cc)
held_limit (Some p) s event status is e =
    let it : Limit (what_of p.0) p.1 ≡ status = cc in
    (what_of p.0, p.1, (limit_cause (Some p) s event (Limit (what_of p.0) p.1) is refl).0, sym it)

-- with the item that a run stops at more would be held than may be
pub item_causes : (s : SpeakerState) (item : Item) (status : Status) → item_step s item ≡ Stops status → IsHeldLimit status
item_causes s item status e = held_limit (limit_by s.view item.event) s item.event status refl e

pub items_stop : (s : SpeakerState) (item : Item) (status : Status) → item_step s item ≡ Stops status → IsItemLimit status
items_stop s item status e = inl (item_causes s item status e)

-- no reply is awaited
pub awaits_none : {T : Type 0} (s : SpeakerState) → lane_rules.waits s ≡ true → T
awaits_none s waits = absurd (true≢false (sym waits))

-- neither lane is the input
pub names_taken : (lane : Lane) → IsTrue (is_taken (name_of lane))
names_taken First = refl
names_taken Second = refl

-- and they have two names
pub names_differ : name_of First ≢ name_of Second
names_differ same = absurd (cc)
