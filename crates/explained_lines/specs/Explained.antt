-- What a line is read as, whoever reads it.
use Rattle.std.specs.Prelude.{ℕ, List, Option, Some, None, Result, Ok, Err}
use Rattle.kube_model.specs.declared.event.Event.{Event as Said}
use Rattle.kube_model.specs.declared.event.EventFault.{EventFault}
use Rattle.kube_events.specs.Event.{event_of_line}
use Rattle.admission_reviews.specs.declared.review.Review.{Review as Asked}
use Rattle.admission_reviews.specs.Reviews.{review_of_line}
use Rattle.explained_lines.specs.declared.explained.Explained.{Explained}
use Rattle.explained_lines.specs.declared.explained.Explained.TheVariants.{Review, Event, Refused}
use Rattle.explained_lines.specs.Unused.{unused_of}

-- this event of the line, with what no program reads of its object
abbrev pub told_event : List ℕ → Said → Explained
told_event line event = Event event (unused_of event line)

-- the event of the line, or its fault
abbrev pub event_found : List ℕ → Result Said EventFault → Explained
event_found line (Ok event) = told_event line event
event_found line (Err fault) = Refused fault

-- the event of the line, or this fault of the review
abbrev pub event_or : List ℕ → EventFault → Result Said EventFault → Explained
event_or line fault (Ok event) = told_event line event
event_or line fault (Err other) = Refused fault

abbrev pub explained_by : List ℕ → Result (Option Asked) EventFault → Result Said EventFault → Explained
explained_by line (Ok (Some review)) event = Review review
explained_by line (Ok None) event = event_found line event
explained_by line (Err fault) event = event_or line fault event

-- A readable review, or else a readable event. Where it is neither, what is at fault is told of the review, where the line is an AdmissionReview,
-- and else of the event.
unfoldable pub explained_of : List ℕ → Explained
explained_of line = explained_by line (review_of_line line) (event_of_line line)
