-- What a run over two lane files owes at each status.
use Rattle.std.specs.Prelude.{◌≡◌, ◌≢◌, ◌⊎◌, ⊤, ℕ, Bool, true, false, List, [], ◌∷◌, ◌++◌, Option, Some, None}
use Rattle.std.specs.Io.KnownBytes.{IsAtEnd}
use Rattle.kube_model.specs.declared.event.Event.{Event}
use Rattle.kube_model.specs.declared.status.LaneName.{LaneName}
use Rattle.kube_model.specs.declared.status.LaneName.TheVariants as lanes
use Rattle.kube_model.specs.declared.status.Status.{Status}
use Rattle.kube_model.specs.declared.status.Status.TheVariants as statuses
use Rattle.lane_mail.specs.declared.lane.Lane.{Lane}
use Rattle.lane_mail.specs.declared.lane.Lane.TheVariants.{First, Second}
use Rattle.lane_mail.specs.declared.item.Item.{Item}
use Rattle.lane_mail.specs.Lanes.{items_of}
use Rattle.lane_mail.specs.Merges.{IsMerge}
use Rattle.lane_run.specs.Outside.{SourceState, outside}
use Rattle.lane_drive.specs.LaneRules.{LaneRules}
use Rattle.lane_drive.specs.Drive.{Told, AreTaken, told_text}
use Rattle.lane_drive.specs.Files.{FilesState}
use Rattle.lane_drive.specs.Sending.{Sending}
use Rattle.lane_drive.specs.Stops.{EndsBy, WritesBegun, as_they_are}
use Rattle.mlb_edge.specs.Causes.{Rose}
use Rattle.mlb_edge.specs.Failed.{times, with_closed}
use Rattle.mlb_edge.specs.declared.files.OpenEnd.{OpenEnd}
use Rattle.mlb_edge.specs.declared.files.OpenEnd.TheVariants.{Failed, NoMemory}
use Rattle.mlb_edge.specs.declared.lines.Line.{Line}
use Rattle.mlb_edge.specs.InputLines.{Whole, input_of, to_come}
use Rattle.mlb_edge.specs.Reading.{Reading}
use Rattle.mlb_edge.specs.Written.{Grows}

-- these are all lines of the bytes, and each can be read, where the source tells its bytes
abbrev pub AreLinesOf : Option (List ℕ) → List Line → Type 0
AreLinesOf None lines = ⊤
AreLinesOf (Some bytes) lines = ((input_of bytes).lines ≡ lines) × ((input_of bytes).ending ≡ Whole)

-- a reader that has read nothing
abbrev pub unread : Reading
unread = record { held = []; passed = 0; number = 0 }

module _ {S E : Type 0} (sending : Sending) (rules : LaneRules S E) (start : S) where
  -- All that both files carry was taken, each file's in its order, with all lines of the input as the replies, and just its text was written.
  pub record TakesAllOf (first second : Option (List ℕ)) (replies left before after : Option (List ℕ)) : Type 0 where
    pub items : List Item
    pub firsts : sending.Firsts first (items_of First items)
    pub seconds : sending.Seconds second (items_of Second items)
    pub merge : IsMerge items (items_of First items) (items_of Second items)
    pub heard : List Line
    pub state : S
    pub told : List (Told E)
    pub taken : AreTaken rules items heard start state told
    pub quiet : rules.waits state ≡ false
    pub wrote : Grows before after (told_text rules told)
    pub whole : rules.hears ≡ true → AreLinesOf replies heard × IsAtEnd left

  abbrev pub DoneOf : (first second : Option (List ℕ)) → Status → (replies left before after : Option (List ℕ)) → Type 0
  DoneOf first second status replies left before after = status ≡ statuses.Done → TakesAllOf first second replies left before after

  -- The run of both lanes ended so. Of each file's input it is kept, when it is handed back, whether its reading failed, unless memory is wanting.
  pub record EndsWith (file file' : List ℕ) (files files' : FilesState) (first second : SourceState) (replies replies' : SourceState)
      (before after : Option (List ℕ)) (writes writes' : ℕ) (status : Status) : Type 0 where
    pub first' : SourceState
    pub second' : SourceState
    pub reading : Reading
    pub ends : EndsBy sending rules start first first' second second' (outside unread replies before writes) (outside reading replies' after writes') status
    pub kept : status ≢ statuses.NoMemory
        → files'.failed_reads ≡ with_closed (with_closed files.failed_reads (Some file) first'.faults) (Some file') second'.faults

  -- so it is where both files were opened
  abbrev pub EndOf : (file file' : List ℕ) (files files' : FilesState) (first second : SourceState) (replies replies' : SourceState)
      (before after : Option (List ℕ)) (writes writes' : ℕ) → Status → Type 0
  EndOf file file' files files' first second replies replies' before after writes writes' status =
      ((lane : LaneName) → status ≢ statuses.OpenFault lane) → EndsWith file file' files files' first second replies replies' before after writes writes' status

  -- however the run ends
  abbrev pub WritesOf : (first second replies before after : Option (List ℕ)) → Type 0
  WritesOf first second replies before after = WritesBegun sending rules start first second (to_come unread replies) before after

module _ {S E : Type 0} (belongs : Lane → Event → Bool) (rules : LaneRules S E) (start : S) where
  -- the same where each lane sends its events as they are
  abbrev pub TakesWhole : (first second : Option (List ℕ)) (replies left before after : Option (List ℕ)) → Type 0
  TakesWhole = TakesAllOf (as_they_are belongs) rules start

  abbrev pub AtDone : (first second : Option (List ℕ)) → Status → (replies left before after : Option (List ℕ)) → Type 0
  AtDone = DoneOf (as_they_are belongs) rules start

  abbrev pub AtEnd : (file file' : List ℕ) (files files' : FilesState) (first second : SourceState) (replies replies' : SourceState)
      (before after : Option (List ℕ)) (writes writes' : ℕ) → Status → Type 0
  AtEnd = EndOf (as_they_are belongs) rules start

  abbrev pub OnlyWrites : (first second replies before after : Option (List ℕ)) → Type 0
  OnlyWrites = WritesOf (as_they_are belongs) rules start

-- the fault is one of the file of this lane, whose count in the list rose
abbrev pub RoseFor : LaneName → LaneName → List ℕ → (names names' : List (List ℕ)) → Type 0
RoseFor lane own file names names' = (lane ≡ own) × Rose (times file names) (times file names')

-- the file of this lane is the one whose opening failed, once
abbrev pub FailsToOpen : LaneName → LaneName → List ℕ → (files files' : FilesState) → Type 0
FailsToOpen lane own file files files' = (lane ≡ own) × (files'.failed_opens ≡ files.failed_opens ++ file ∷ [])

-- a lane isn't opened exactly where the opening of its file failed, and then nothing was read; else no opening failed
abbrev pub AtOpenFault : (Lane → LaneName) → (first second : List ℕ) → Status → (files files' : FilesState) → Type 0
AtOpenFault name first second status files files' =
    ((lane : LaneName) → status ≡ statuses.OpenFault lane
    → (FailsToOpen lane (name First) first files files' ⊎ FailsToOpen lane (name Second) second files files') × (files'.failed_reads ≡ files.failed_reads))
    × (((lane : LaneName) → status ≢ statuses.OpenFault lane) → files'.failed_opens ≡ files.failed_opens)

-- a lane isn't read only where the count of failed readings of its file rose, and the input only where its own rose
abbrev pub AtReadFault : (Lane → LaneName) → (first second : List ℕ) → Status → (files files' : FilesState) (reads reads' : ℕ) → Type 0
AtReadFault name first second status files files' reads reads' = (lane : LaneName) → status ≡ statuses.ReadFault lane
    → ((lane ≡ lanes.Input) × Rose reads reads')
    ⊎ (RoseFor lane (name First) first files.failed_reads files'.failed_reads ⊎ RoseFor lane (name Second) second files.failed_reads files'.failed_reads)

-- of no other file an opening or a reading failed
abbrev pub LeavesOthers : (first second : List ℕ) (files files' : FilesState) → Type 0
LeavesOthers first second files files' = (file : List ℕ) → file ≢ first → file ≢ second
    → (times file files'.failed_opens ≡ times file files.failed_opens) × (times file files'.failed_reads ≡ times file files.failed_reads)

-- nothing is read of the input
abbrev pub LeavesInput : (replies replies' : SourceState) → Type 0
LeavesInput replies replies' = replies' ≡ replies

-- the status where a lane's file isn't opened
abbrev pub status_of_open : LaneName → OpenEnd → Status
status_of_open lane Failed = statuses.OpenFault lane
status_of_open lane NoMemory = statuses.NoMemory
