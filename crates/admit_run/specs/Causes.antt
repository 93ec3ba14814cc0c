-- Why a run of the admission tool stops.
use Rattle.std.proofs.Common.{◌≡◌, List, ℕ, Option, Some, None, Result, Ok, Err, is_err, refl, sym, ap, subst}
use Rattle.kube_model.specs.declared.event.Event.{Event}
use Rattle.kube_model.specs.declared.event.EventFault.{EventFault}
use Rattle.kube_model.specs.declared.status.LaneName.TheVariants as lanes
use Rattle.kube_model.specs.declared.status.Status.{Status}
use Rattle.kube_model.specs.declared.status.Status.TheVariants.{Done, BadLine}
use Rattle.kube_events.specs.Event.{event_of_line}
use Rattle.pool_config.specs.declared.object_set.ObjectSet.{ObjectSet}
use Rattle.admission_reviews.specs.declared.review.Review.{Review}
use Rattle.line_run.specs.Machine.{Stops}
use Rattle.line_run.specs.Statuses.{IsLineStatus, IsEndStatus}
use Rattle.mlb_edge.specs.declared.lines.Line.{Line}
use Rattle.admit_run.specs.declared.work.Work.{Work}
use Rattle.admit_run.specs.declared.work.Work.TheVariants.{Judging, Explaining}
use Rattle.admit_run.specs.Stream.{readable_review, event_step, step_where, line_step, IsCause}

-- a status that a run may stop with at a line, and its cause
abbrev IsFair : Status → Type 0
IsFair status = IsLineStatus status × IsCause status

event_cause : (read : Result Event EventFault) (s : ObjectSet) (line : Line) (status : Status) → readable_review line.bytes ≡ None
    → event_of_line line.bytes ≡ read → event_step s line read ≡ Stops status → IsFair status
event_cause (Err fault) s line status none r e =
    let it : BadLine lanes.Input line.number line.bytes ≡ status = cc in
    subst IsFair it (refl, record { no_review = none; no_event = ap is_err r })
event_cause (Ok event) s line status none r e = absurd (cc)

where_cause : (found : Option Review) (s : ObjectSet) (line : Line) (status : Status) → readable_review line.bytes ≡ found
    → step_where found s line ≡ Stops status → IsFair status
where_cause None s line status none e = event_cause (event_of_line line.bytes) s line status none refl e
where_cause (Some review) s line status is e = absurd (cc)

-- the line that a run stops at is a cause to stop so
pub line_causes : (work : Work) (line : Line) (status : Status) → line_step work line ≡ Stops status → IsLineStatus status × IsCause status
line_causes (Judging s) line status e = where_cause (readable_review line.bytes) s line status refl e
line_causes Explaining line status e = absurd (cc)

-- and so is the end of the input
pub end_causes : (work : Work) → IsEndStatus Done × IsCause Done
end_causes work = (tt, tt)
