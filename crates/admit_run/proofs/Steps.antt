-- What a line is to the objects that are held, and what is written of it.
use Rattle.std.proofs.Common.{◌≡◌, ℕ, List, [], ◌∷◌, ◌++◌, Option, Some, None, Ok, refl, sym, ap, ◌∙◌}
use Rattle.std.proofs.lemmas.List.{append-nil}
use Rattle.kube_model.specs.declared.event.Event.{Event}
use Rattle.kube_events.specs.Event.{event_of_line}
use Rattle.pool_config.specs.declared.object_set.ObjectSet.{ObjectSet}
use Rattle.object_history.specs.Observations.{Watched}
use Rattle.object_history.specs.Cache.{objects_after}
use Rattle.admission_reviews.specs.declared.review.Review.{Review}
use Rattle.mlb_edge.specs.declared.lines.Line.{Line}
use Rattle.mlb_edge.specs.Written.{Grows, Grows-none}
use Rattle.line_run.specs.declared.halt.Halt.{Halt}
use Rattle.line_run.specs.declared.halt.Refusal.TheVariants.{Halted}
use Rattle.line_run.specs.Machine.{Transition, Goes}
use Rattle.line_run.specs.Run.{text_of}
use Rattle.line_run.specs.Steps.{Takes, Refuses}
use Rattle.line_run.specs.Text.{Halts}
use Rattle.line_run.proofs.Refusals.{broken}
use Rattle.admit_run.specs.declared.work.Work.{Work}
use Rattle.admit_run.specs.declared.work.Work.TheVariants.{Judging, Explaining}
use Rattle.admit_run.specs.Stream.{TranscriptEntry, Answered, readable_review, answer_of, told_of, entry_text, event_step, step_where, line_step, admit_rules}

-- the text of one entry
one_text : (entry : TranscriptEntry) → text_of admit_rules (entry ∷ []) ≡ entry_text entry
one_text entry = append-nil (entry_text entry)

-- ---- one entry is told

module _ (work next : Work) (line : Line) (entry : TranscriptEntry) (steps : line_step work line ≡ Goes next (entry ∷ [])) where
  takes_one : (before after : Option (List ℕ)) → Grows before after (entry_text entry) → Takes admit_rules work next line before after
  takes_one before after wrote = record { entries = entry ∷ []; steps = steps; wrote = rw (one_text entry) wrote }

  one_halts : (halt : Halt) (before after : Option (List ℕ)) (k n : ℕ) → Halts halt (entry_text entry) before after k n
      → Refuses (Halted halt) admit_rules work line before after k n
  one_halts halt before after k n h =
      broken halt admit_rules work line before after k n
      (record { next = next; entries = entry ∷ []; steps = steps; halts = rw (one_text entry) h })

-- ---- a review is answered

module _ (s : ObjectSet) (line : Line) (review : Review) (reads : readable_review line.bytes ≡ Some review) where
  answers : line_step (Judging s) line ≡ Goes (Judging s) (Answered (answer_of s review) ∷ [])
  answers = ap (λ (found : Option Review). step_where found s line) reads

  pub takes_review : (before after : Option (List ℕ)) → Grows before after (entry_text (Answered (answer_of s review)))
      → Takes admit_rules (Judging s) (Judging s) line before after
  takes_review before after wrote = takes_one (Judging s) (Judging s) line (Answered (answer_of s review)) answers before after wrote

  pub review_halts : (halt : Halt) (before after : Option (List ℕ)) (k n : ℕ) → Halts halt (entry_text (Answered (answer_of s review))) before after k n
      → Refuses (Halted halt) admit_rules (Judging s) line before after k n
  review_halts halt before after k n h = one_halts (Judging s) (Judging s) line (Answered (answer_of s review)) answers halt before after k n h

-- ---- an event is held

pub means_event : (s : ObjectSet) (line : Line) (event : Event) → readable_review line.bytes ≡ None → event_of_line line.bytes ≡ Ok event
    → line_step (Judging s) line ≡ Goes (Judging (objects_after (Watched event) s)) []
means_event s line event none reads = ap (λ (found : Option Review). step_where found s line) none ∙ ap (event_step s line) reads

pub takes_event : (s t : ObjectSet) (line : Line) (event : Event) (before : Option (List ℕ)) → readable_review line.bytes ≡ None
    → event_of_line line.bytes ≡ Ok event → t ≡ objects_after (Watched event) s → Takes admit_rules (Judging s) (Judging t) line before before
takes_event s t line event before none reads leads = record {
  entries = [];
  steps = means_event s line event none reads
      ∙ ap (λ (next : ObjectSet). let step : Transition Work TranscriptEntry = Goes (Judging next) [] in step) (sym leads);
  wrote = Grows-none before;
}

-- ---- it is told what a line is read as

pub takes_told : (line : Line) (before after : Option (List ℕ)) → Grows before after (entry_text (told_of line))
    → Takes admit_rules Explaining Explaining line before after
takes_told line before after wrote = takes_one Explaining Explaining line (told_of line) refl before after wrote

pub told_halts : (line : Line) (halt : Halt) (before after : Option (List ℕ)) (k n : ℕ) → Halts halt (entry_text (told_of line)) before after k n
    → Refuses (Halted halt) admit_rules Explaining line before after k n
told_halts line halt before after k n h = one_halts Explaining Explaining line (told_of line) refl halt before after k n h
