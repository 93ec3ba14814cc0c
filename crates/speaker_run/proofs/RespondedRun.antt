-- How a run with a responder ended, by what was seen and what was published.
use Rattle.std.proofs.Common.{ℕ, Bool, List, Option, refl, inr}
use mathlib.Core.List.{IsPrefix}
use Rattle.command_options.specs.Lanes.{LaneNames}
use Rattle.kube_model.specs.declared.event.Event.{Event}
use Rattle.kube_model.specs.declared.status.Status.{Status}
use Rattle.kube_model.specs.declared.status.Status.TheVariants.{NoMemory}
use Rattle.lane_drive.proofs.Carried.{done_carried, end_carried, writes_carried}
use Rattle.lane_drive.specs.Clauses as drive
use Rattle.lane_drive.specs.Complete.{CompleteOf}
use Rattle.lane_drive.specs.Files.{FilesState}
use Rattle.lane_run.specs.Outside.{SourceState}
use Rattle.mlb_edge.specs.InputLines.{to_come}
use Rattle.speaker_machine.specs.Lanes.{belongs_to}
use Rattle.speaker_machine.specs.Stream.{SpeakerState}
use Rattle.speaker_run.proofs.LaneEnds.{ends_short, shown_none, shown_plain, writes_none_of}
use Rattle.speaker_run.proofs.RespondedComplete.{sent_applicable}
use Rattle.speaker_run.proofs.RespondedShown.{Opens, shown_carries, turned_by}
use Rattle.speaker_run.specs.LaneClauses.{opened}
use Rattle.speaker_run.specs.ResponderClauses.{AreOfWatch, RespondsSo, answering}
use Rattle.speaker_run.specs.Responding.{Answering, shown_rules, unshown}

module _ (start : SpeakerState) (files : LaneNames) (bytes : List ℕ → Option (List ℕ)) (unfailing : List ℕ → Bool) (seen seen' : FilesState)
    (input input' : SourceState) (before after : Option (List ℕ)) (writes writes' : ℕ) where
  abbrev first : Option (List ℕ)
  first = bytes files.first

  abbrev second : Option (List ℕ)
  second = bytes files.second

  -- What was seen at last begins what is published: the answers are by that.
  pub responds_shown : (status : Status) (v w : Answering) → Opens start v → (events : List Event) → AreOfWatch first events → IsPrefix w.sight.seen events
      → drive.EndOf (turned_by v w) shown_rules (unshown start) files.first files.second seen seen' (opened bytes unfailing files.first)
      (opened bytes unfailing files.second) input input' before after writes writes' status
      → drive.DoneOf (turned_by v w) shown_rules (unshown start) first second status input.left input'.left before after
      → drive.WritesOf (turned_by v w) shown_rules (unshown start) first second input.left before after
      → CompleteOf belongs_to shown_rules (unshown start) (turned_by v w) first second status seen seen' input.left input.faults input'.faults writes writes'
      → RespondsSo start files status bytes unfailing seen seen' input input' before after writes writes'
  responds_shown status v w opens events shown begin ends done only complete =
      let carries = shown_carries start first v w opens events shown begin in
      let one = turned_by v w in
      let other = answering start first in
      record {
        ends = end_carried one other carries shown_rules (unshown start) files.first files.second seen seen' (opened bytes unfailing files.first)
            (opened bytes unfailing files.second) input input' before after writes writes' status ends;
        done = done_carried one other carries shown_rules (unshown start) first second status input.left input'.left before after done;
        only = writes_carried one other carries shown_rules (unshown start) first second (to_come drive.unread input.left) before after only;
        complete = λ ready. complete (sent_applicable start first second v w input.left ready);
      }

  -- The run ends where memory ran out, and just so much was written.
  pub responds_short : drive.WritesOf (answering start first) shown_rules (unshown start) first second input.left before after
      → RespondsSo start files NoMemory bytes unfailing seen seen' input input' before after writes writes'
  responds_short only = record {
    ends = ends_short (answering start first) shown_rules shown_plain (unshown start) files.first files.second seen seen' (opened bytes unfailing files.first)
        (opened bytes unfailing files.second) input input' before after writes writes' only;
    done = λ e. absurd (cc);
    only = only;
    complete = λ ready opens reads heard written. inr refl;
  }

  -- and where nothing was begun just nothing was
  pub responds_not : drive.WritesOf (answering start first) shown_rules (unshown start) first second input.left before before
  responds_not = writes_none_of (answering start first) shown_rules shown_plain (unshown start) first second input.left before (shown_none start first second)
