-- Each answer is right by what the lines before it showed.
use Rattle.std.proofs.Common.{◌≡◌, ℕ, List, [], ◌∷◌, map, Option, Some, None, Result, Ok, Err, refl, sym, ap, subst}
use Rattle.kube_model.specs.declared.event.Event.{Event}
use Rattle.kube_model.specs.declared.event.EventFault.{EventFault}
use Rattle.kube_events.specs.Event.{event_of_line}
use Rattle.pool_config.specs.declared.object_set.ObjectSet.{ObjectSet}
use Rattle.object_history.specs.Observations.{Observation, Watched}
use Rattle.object_history.specs.Cache.{objects_after, cached}
use Rattle.object_history.specs.LookBack.{IsSetAsShown}
use Rattle.object_history.proofs.Cached.{objects-as_shown}
use Rattle.admission_reviews.specs.declared.review.Review.{Review}
use Rattle.admission_judge.proofs.Verdicts.{allowed_is, named_is}
use Rattle.mlb_edge.specs.declared.lines.Line.{Line}
use Rattle.mlb_edge.specs.InputLines.{Ending, Whole}
use Rattle.line_run.specs.Run.{Run, run_from, runs_on}
use Rattle.line_run.specs.RunOutput.{WritesOnly}
use Rattle.admit_run.specs.declared.work.Work.{Work}
use Rattle.admit_run.specs.declared.work.Work.TheVariants.{Judging}
use Rattle.admit_run.specs.Stream.{Answer, TranscriptEntry, readable_review, answer_of, event_step, step_where, told_of, admit_rules}
use Rattle.admit_run.specs.Judged.{IsRightAnswer, IsRightAfter, IsRightAt, AreRight}
use Rattle.admit_run.specs.Right.{IsRightRun, WritesRightly}
use Rattle.admit_run.specs.Words.{begun_by}
use Rattle.admit_run.proofs.Telling.{lines_are_told}
use Rattle.pool_config.specs.Objects.{no_objects}

-- these objects are what is held after what was shown earlier
abbrev IsHeld : ObjectSet → List Observation → Type 0
IsHeld s earlier = s ≡ (cached earlier).objects

right_answer : (s : ObjectSet) (review : Review) (earlier : List Observation) → IsHeld s earlier → IsRightAnswer review (answer_of s review) earlier
right_answer s review earlier e = record {
  uid = refl;
  held = s;
  shown = subst (λ (x : ObjectSet). IsSetAsShown x earlier) (sym e) (objects-as_shown earlier);
  allowed = allowed_is s review.change;
  refused = named_is s review.change;
}

module _ (lines : List Line) (ending : Ending) (after : (earlier : List Observation) (s : ObjectSet) → IsHeld s earlier
    → AreRight lines earlier (run_from admit_rules lines ending (Judging s)).entries) where
  right_after : (read : Result Event EventFault) (line : Line) (earlier : List Observation) (s : ObjectSet) → IsHeld s earlier
      → IsRightAfter read earlier (runs_on (event_step s line read) (λ next. run_from admit_rules lines ending next)).entries
      (λ shown rest. AreRight lines shown rest)
  right_after (Ok event) line earlier s e = after (Watched event ∷ earlier) (objects_after (Watched event) s) (ap (objects_after (Watched event)) e)
  right_after (Err fault) line earlier s e = refl

  right_at : (found : Option Review) (line : Line) (earlier : List Observation) (s : ObjectSet) → IsHeld s earlier
      → IsRightAt found line.bytes earlier (runs_on (step_where found s line) (λ next. run_from admit_rules lines ending next)).entries
      (λ shown rest. AreRight lines shown rest)
  right_at (Some review) line earlier s e =
      (answer_of s review, (run_from admit_rules lines ending (Judging s)).entries, refl, right_answer s review earlier e, after earlier s e)
  right_at None line earlier s e = right_after (event_of_line line.bytes) line earlier s e

right_from : (lines : List Line) (ending : Ending) (earlier : List Observation) (s : ObjectSet) → IsHeld s earlier
    → AreRight lines earlier (run_from admit_rules lines ending (Judging s)).entries
right_from [] ending earlier s e = refl
right_from (line ∷ lines) ending earlier s e =
    right_at lines ending (λ shown t held. right_from lines ending shown t held) (readable_review line.bytes) line earlier s e

-- ---- whatever the words ask for
answers_right : (lines : List Line) → AreRight lines [] (run_from admit_rules lines Whole (Judging no_objects)).entries
answers_right lines = right_from lines Whole [] _ refl

right_run : (words : List (List ℕ)) (lines : List Line) → IsRightRun words lines
right_run words lines = record {
  judged = λ ask. subst (λ (w : List (List ℕ)). AreRight lines [] (run_from admit_rules lines Whole (begun_by w)).entries) (sym ask) (answers_right lines);
  told = λ ask. subst (λ (w : List (List ℕ)). (run_from admit_rules lines Whole (begun_by w)).entries ≡ map told_of lines) (sym ask)
      (ap (λ (r : Run TranscriptEntry). r.entries) (lines_are_told lines Whole));
}

pub writes_rightly : (words : List (List ℕ)) (work : Work) (left before after : Option (List ℕ)) → work ≡ begun_by words
    → WritesOnly admit_rules work left before after → WritesRightly words left before after
writes_rightly words work left before after begun only =
    let written : WritesOnly admit_rules (begun_by words) left before after =
    subst (λ (w : Work). WritesOnly admit_rules w left before after) begun only in
    record { written = written; right = right_run words written.lines }
