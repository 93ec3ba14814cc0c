-- Which answers are right, by what the lines before them showed.
use Rattle.std.specs.Prelude.{◌≡◌, ◌↔◌, ℕ, List, [], ◌∷◌, Option, Some, None, Result, Ok, Err}
use Rattle.kube_model.specs.declared.event.Event.{Event}
use Rattle.kube_model.specs.declared.event.EventFault.{EventFault}
use Rattle.kube_events.specs.Event.{event_of_line}
use Rattle.pool_config.specs.declared.object_set.ObjectSet.{ObjectSet}
use Rattle.object_history.specs.Observations.{Observation, Watched}
use Rattle.object_history.specs.LookBack.{IsSetAsShown}
use Rattle.admission_reviews.specs.declared.response.Verdict.TheVariants.{Allowed, Refused}
use Rattle.admission_reviews.specs.declared.review.Review.{Review}
use Rattle.admission_judge.specs.Judging.{IsAllowed, Names}
use Rattle.mlb_edge.specs.declared.lines.Line.{Line}
use Rattle.admit_run.specs.Stream.{Answer, TranscriptEntry, Answered, readable_review}

-- The answer names the review. It allows the change just where it may be made to the objects as they were last shown, and refuses it just
-- by the message that names why not.
pub record IsRightAnswer (review : Review) (answer : Answer) (earlier : List Observation) : Type 0 where
  pub uid : answer.uid ≡ review.uid
  pub held : ObjectSet
  pub shown : IsSetAsShown held earlier
  pub allowed : (answer.verdict ≡ Allowed) ↔ IsAllowed held review.change
  pub refused : (message : List ℕ) → (answer.verdict ≡ Refused message) ↔ Names held review.change message

-- an event is shown and has no answer; where the line is none the run stops, and nothing more is answered
abbrev pub IsRightAfter : Result Event EventFault → List Observation → List TranscriptEntry → (List Observation → List TranscriptEntry → Type 0) → Type 0
IsRightAfter (Ok event) earlier entries Rest = Rest (Watched event ∷ earlier) entries
IsRightAfter (Err fault) earlier entries Rest = entries ≡ []

-- a review has the first of the answers, and shows nothing
abbrev pub IsRightAt : Option Review → List ℕ → List Observation → List TranscriptEntry → (List Observation → List TranscriptEntry → Type 0) → Type 0
IsRightAt (Some review) bytes earlier entries Rest =
    (answer : Answer) × (rest : List TranscriptEntry) × (entries ≡ Answered answer ∷ rest) × IsRightAnswer review answer earlier × Rest earlier rest
IsRightAt None bytes earlier entries Rest = IsRightAfter (event_of_line bytes) earlier entries Rest

-- After what was shown earlier, the newest first, these are the answers to the lines: one to each review, in their order, up to a line that is
-- neither a review nor an event; and each is right by what the events before it showed.
abbrev pub AreRight : List Line → List Observation → List TranscriptEntry → Type 0
AreRight [] earlier entries = entries ≡ []
AreRight (line ∷ lines) earlier entries = IsRightAt (readable_review line.bytes) line.bytes earlier entries (λ shown rest. AreRight lines shown rest)
