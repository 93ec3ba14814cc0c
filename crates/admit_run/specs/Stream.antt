-- What a line is to the admission tool: a review, which is answered, or else an event; or what it is read as is told.
use Rattle.std.specs.Prelude.{◌≡◌, ℕ, List, [], ◌∷◌, Option, Some, None, Result, Ok, Err, is_err, ⊤, true}
use Rattle.kube_model.specs.declared.event.Event.{Event}
use Rattle.kube_model.specs.declared.event.EventFault.{EventFault}
use Rattle.kube_model.specs.declared.status.LaneName.TheVariants as lanes
use Rattle.kube_model.specs.declared.status.Status.{Status}
use Rattle.kube_model.specs.declared.status.Status.TheVariants.{Done, Usage, OpenFault, ReadFault, WriteFault, BadLine, BadReply, NoReply, Limit, NoMemory}
use Rattle.kube_events.specs.Event.{event_of_line}
use Rattle.pool_config.specs.declared.object_set.ObjectSet.{ObjectSet}
use Rattle.object_history.specs.Observations.{Watched}
use Rattle.object_history.specs.Cache.{objects_after}
use Rattle.admission_reviews.specs.declared.response.Verdict.{Verdict}
use Rattle.admission_reviews.specs.declared.review.Review.{Review}
use Rattle.admission_reviews.specs.Responses.{response_text}
use Rattle.admission_reviews.specs.Reviews.{review_of_line}
use Rattle.admission_judge.specs.Judging.{verdict_of}
use Rattle.explained_lines.specs.declared.explained.Explained.{Explained}
use Rattle.explained_lines.specs.Explained.{explained_of}
use Rattle.explained_lines.specs.Lines.{explained_text}
use Rattle.line_run.specs.Machine.{Transition, Goes, Stops, Rules}
use Rattle.line_run.specs.Text.{line_of}
use Rattle.mlb_edge.specs.declared.lines.Line.{Line}
use Rattle.admit_run.specs.declared.work.Work.{Work}
use Rattle.admit_run.specs.declared.work.Work.TheVariants.{Judging, Explaining}

-- what a review is answered by
pub record Answer : Type 0 where
  pub uid : List ℕ
  pub verdict : Verdict

-- the answer by the objects that are held
abbrev pub answer_of : ObjectSet → Review → Answer
answer_of objects review = record { uid = review.uid; verdict = verdict_of objects review.change }

-- what is told of a run
pub data TranscriptEntry : Type 0 where
  Answered : (answer : Answer) → TranscriptEntry  -- a review has this answer
  Told : (number : ℕ) → (explained : Explained) → TranscriptEntry  -- the line of this number is read as this

abbrev pub entry_text : TranscriptEntry → List ℕ
entry_text (Answered answer) = line_of (response_text answer.uid answer.verdict)
entry_text (Told number explained) = line_of (explained_text number explained)

abbrev pub review_where : Result (Option Review) EventFault → Option Review
review_where (Ok found) = found
review_where (Err fault) = None

-- the review that the bytes are, if they are a readable one
abbrev pub readable_review : List ℕ → Option Review
readable_review bytes = review_where (review_of_line bytes)

-- ---- a run that answers reviews

-- it is no readable event, or the objects are held that it shows
abbrev pub event_step : ObjectSet → Line → Result Event EventFault → Transition Work TranscriptEntry
event_step objects line (Err fault) = Stops (BadLine lanes.Input line.number line.bytes)
event_step objects line (Ok event) = Goes (Judging (objects_after (Watched event) objects)) []

-- A review changes no objects that are held.
abbrev pub step_where : Option Review → ObjectSet → Line → Transition Work TranscriptEntry
step_where (Some review) objects line = Goes (Judging objects) (Answered (answer_of objects review) ∷ [])
step_where None objects line = event_step objects line (event_of_line line.bytes)

-- ---- any run

-- what is told of a line
abbrev pub told_of : Line → TranscriptEntry
told_of line = Told line.number (explained_of line.bytes)

abbrev pub line_step : Work → Line → Transition Work TranscriptEntry
line_step (Judging objects) line = step_where (readable_review line.bytes) objects line
line_step Explaining line = Goes Explaining (told_of line ∷ [])

-- the admission tool, as a machine over lines
abbrev pub admit_rules : Rules Work TranscriptEntry
admit_rules = record { step = line_step; end = λ work. Done; text = entry_text }

-- the bytes are neither a readable review nor a readable event
pub record IsNeither (bytes : List ℕ) : Type 0 where
  pub no_review : readable_review bytes ≡ None
  pub no_event : is_err (event_of_line bytes) ≡ true

-- what is so where a run stops with this status
abbrev pub IsCause : Status → Type 0
IsCause Done = ⊤
IsCause Usage = ⊥
IsCause (OpenFault lane) = ⊥
IsCause (ReadFault lane) = ⊥
IsCause WriteFault = ⊥
IsCause (BadLine lane number bytes) = IsNeither bytes
IsCause (BadReply number bytes) = ⊥
IsCause (NoReply put) = ⊥
IsCause (Limit what count) = ⊥
IsCause NoMemory = ⊥
