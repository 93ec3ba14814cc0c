-- Why a run behind a fence stops.
use Rattle.std.proofs.Common.{◌≡◌, ◌+◌, Bool, true, false, cond, Option, Some, None, Result, Ok, Err}
use Rattle.std.proofs.Common.{is_err, refl, ap, subst}
use Rattle.kube_model.specs.declared.event.Event.{Event}
use Rattle.kube_model.specs.declared.event.EventFault.{EventFault}
use Rattle.kube_model.specs.declared.put.Put.{Put}
use Rattle.kube_model.specs.declared.status.What.TheVariants as whats
use Rattle.kube_model.specs.declared.status.Status.{Status}
use Rattle.kube_model.specs.declared.status.Status.TheVariants.{Limit}
use Rattle.kube_events.specs.Event.{event_of_line}
use Rattle.core_rules.specs.Take.{limits}
use Rattle.fence_lines.specs.Lines.{input_of_line}
use Rattle.line_run.specs.Machine.{Stops}
use Rattle.line_run.specs.Statuses.{IsLineStatus, IsEndStatus}
use Rattle.mlb_edge.specs.declared.lines.Line.{Line}
use Rattle.object_cache.specs.Limits.{most_services}
use Rattle.put_fence.specs.declared.answer.Input.{Input}
use Rattle.put_fence.specs.declared.stage.Stage.{Stage}
use Rattle.put_fence.specs.declared.stage.Stage.TheVariants as stages
use Rattle.controller_run.specs.Stream.{end_of}
use Rattle.fenced_run.specs.Drive.{FencedState, taking}
use Rattle.fenced_run.specs.Stream.{IsCause, end_where, event_step, goes_by, line_step, refused}
use Rattle.fenced_run.specs.Stream.{takes_events, told_step}

-- a status that a run may stop with at a line, and its cause
abbrev IsFair : Status → Type 0
IsFair status = IsLineStatus status × IsCause status

limit_cause : (b : Bool) (s : FencedState) (event : Event) (status : Status)
    → cond b (Stops (Limit whats.Services (most_services + 1))) (goes_by (taking event s)) ≡ Stops status
    → IsFair status
limit_cause false s event status e = absurd (cc)
limit_cause true s event status e =
    let it : Limit whats.Services (most_services + 1) ≡ status = cc in
    subst IsFair it (tt, refl)

refused_fair : (out : Option Put) (line : Line) → is_err (input_of_line line.bytes) ≡ true
    → IsFair (refused out line)
refused_fair None line r = (refl, r)
refused_fair (Some put) line r = (tt, r)

told_cause : (read : Result Input EventFault) (s : FencedState) (line : Line) (status : Status)
    → input_of_line line.bytes ≡ read → told_step s line read ≡ Stops status → IsFair status
told_cause (Err fault) s line status r e =
    let it : refused s.core.out line ≡ status = cc in
    subst IsFair it (refused_fair s.core.out line (ap is_err r))
told_cause (Ok input) s line status r e = absurd (cc)

event_cause : (read : Result Event EventFault) (s : FencedState) (line : Line) (status : Status)
    → event_step s line read ≡ Stops status → IsFair status
event_cause (Err fault) s line status e =
    told_cause (input_of_line line.bytes) s line status refl e
event_cause (Ok event) s line status e = limit_cause (limits s.core event) s event status e

line_cause : (b : Bool) (s : FencedState) (line : Line) (status : Status)
    → cond b (event_step s line (event_of_line line.bytes)) (told_step s line (input_of_line line.bytes))
    ≡ Stops status → IsFair status
line_cause false s line status e = told_cause (input_of_line line.bytes) s line status refl e
line_cause true s line status e = event_cause (event_of_line line.bytes) s line status e

-- the line that a run stops at is a cause to stop so
pub line_causes : (s : FencedState) (line : Line) (status : Status) → line_step s line ≡ Stops status
    → IsLineStatus status × IsCause status
line_causes s line status e = line_cause (takes_events s) s line status e

end_fair : (out : Option Put) → IsEndStatus (end_of out) × IsCause (end_of out)
end_fair None = (tt, tt)
end_fair (Some put) = (tt, tt)

stage_fair : (stage : Stage) (out : Option Put)
    → IsEndStatus (end_where stage out) × IsCause (end_where stage out)
stage_fair (stages.Waiting call) out = end_fair out
stage_fair (stages.Fencing call next) out = end_fair out
stage_fair stages.Listing out = end_fair out
stage_fair (stages.Free call) out = end_fair out
stage_fair (stages.Naming put call) out = end_fair out
stage_fair (stages.Sent put) out = end_fair out
stage_fair (stages.Checking put call tries) out = end_fair out
stage_fair (stages.Chasing call put) out = end_fair out
stage_fair stages.Relisting out = end_fair out
stage_fair stages.Lost out = (tt, tt)

-- and so is the end of the input
pub end_causes : (s : FencedState)
    → IsEndStatus (end_where s.fence.stage s.core.out) × IsCause (end_where s.fence.stage s.core.out)
end_causes s = stage_fair s.fence.stage s.core.out
