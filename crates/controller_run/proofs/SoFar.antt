-- However far a run has come: what was told is sound and safe, and where no put is in flight nothing is left waiting.
use Rattle.std.proofs.Common.{ℕ, List, [], ◌∷◌, ◌++◌, Option, refl, subst, append_assoc}
use Rattle.std.proofs.lemmas.List.{append-nil}
use Rattle.core_drive.proofs.Goes.{begins_fresh, drives_are_sound}
use Rattle.core_drive.specs.Drive.{TranscriptEntry}
use Rattle.core_drive.specs.Sound.{LeadsTo}
use Rattle.core_rules.specs.Core.{State, fresh}
use Rattle.line_run.specs.Run.{AreTaken}
use Rattle.line_run.specs.RunOutput.{WritesOnly}
use Rattle.controller_run.specs.Right.{IsRightRun, WritesRightly}
use Rattle.controller_run.specs.SoFar.{IsRightSoFar}
use Rattle.controller_run.specs.Stream.{controller_rules}
use Rattle.controller_run.proofs.Rightful.{where_goes, safe_led, settles_led, stays_led, led_quiet, sound_in, safe_in, settles_in, stays_in}
use Rattle.mlb_edge.specs.declared.lines.Line.{Line}
use Rattle.mlb_edge.specs.InputLines.{Whole}

module _ (class : Option (List ℕ)) where
  pub joined : (a b c : List TranscriptEntry) (s : State) → LeadsTo class ((a ++ b) ++ c) s → LeadsTo class (a ++ (b ++ c)) s
  joined a b c s leads = subst (λ (told : List TranscriptEntry). LeadsTo class told s) (append_assoc a b c) leads

  -- what leads to a core is right
  pub led_right : (told : List TranscriptEntry) (s : State) → LeadsTo class told s → IsRightSoFar class told s
  led_right told s leads = record {
    sound = drives_are_sound class told s leads;
    safe = safe_led class told s leads;
    settles = settles_led class told s leads;
    stays = stays_led class told s leads;
    quiet = led_quiet class told s leads;
  }

  -- lines that are taken
  pub lines_lead : (lines : List Line) (s t : State) (entries told : List TranscriptEntry) → AreTaken controller_rules lines s t entries → LeadsTo class told s
      → LeadsTo class (told ++ entries) t
  lines_lead [] s t entries told (same, none) leads = rw (same, none, append-nil told) leads
  lines_lead (line ∷ lines) s t entries told (next, first, rest, steps, more, is) leads =
      let one = where_goes class s.out s line refl next first told steps leads in
      rw is (joined told first rest t (lines_lead lines next t rest (told ++ first) more one))

  -- what is told of any lines that are taken is right
  any_right : (lines : List Line) (s : State) (told : List TranscriptEntry) → AreTaken controller_rules lines (fresh class) s told → IsRightSoFar class told s
  any_right lines s told taken = led_right told s (lines_lead lines (fresh class) s told [] taken (begins_fresh class))

  -- and so is the run of any lines, and what is written of it
  right_in : (lines : List Line) → IsRightRun class lines
  right_in lines =
      record {
        sound = sound_in class lines Whole;
        safe = safe_in class lines Whole;
        settles = settles_in class lines Whole;
        stays = stays_in class lines Whole;
        so_far = λ earlier later s told split taken. any_right earlier s told taken;
      }

  pub writes_rightly : (left before after : Option (List ℕ)) → WritesOnly controller_rules (fresh class) left before after
      → WritesRightly class left before after
  writes_rightly left before after only = record { written = only; right = right_in only.lines }
