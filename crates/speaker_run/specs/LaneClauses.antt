-- What the speaker owes where its words name two lane files: the clauses of a run over lane files, with the speaker's rules and the words' node
-- and class.
use Rattle.std.specs.Prelude.{◌≡◌, ◌⊎◌, ⊤, ℕ, Bool, List, String, Option, Some}
use Rattle.kube_model.specs.declared.status.LaneName.{LaneName}
use Rattle.kube_model.specs.declared.status.LaneName.TheVariants.{Watch, Frame}
use Rattle.kube_model.specs.declared.status.Status.{Status}
use Rattle.kube_model.specs.declared.status.Status.TheVariants.{Done, Usage, OpenFault, ReadFault, WriteFault, BadLine, BadReply, NoReply, Limit, NoMemory}
use Rattle.command_options.specs.Lanes.{LaneNames}
use Rattle.command_options.specs.Options.{texts_of}
use Rattle.lane_drive.specs.Asking.{AnswersAll, HasStopped}
use Rattle.lane_drive.specs.Clauses as drive
use Rattle.lane_drive.specs.Complete as can_be_done
use Rattle.lane_drive.specs.Files.{FilesState}
use Rattle.lane_mail.specs.declared.item.Item.{Item}
use Rattle.lane_run.specs.Opening.{MayBeOpened}
use Rattle.lane_run.specs.Outside.{SourceState, lane_state, outside}
use Rattle.lane_run.specs.Waiting.{MayBeAwaited}
use Rattle.line_run.specs.Clauses.{CanPass}
use Rattle.speaker_machine.specs.Lanes.{belongs_to, lane_rules, name_of}
use Rattle.speaker_machine.specs.Stream.{IsCause, SpeakerState}
use Rattle.speaker_laws.specs.Clauses.{begun_by, lanes_of, plain_lanes_of}
use Rattle.speaker_laws.specs.LaneClauses.{AreRightAsLines}

-- so it is of the two files that the words name
abbrev pub OverLanes : {Z : Type 0} → List (String Z) → (LaneNames → Type 0) → Type 0
OverLanes words so = (files : LaneNames) → lanes_of (texts_of words) ≡ Some files → so files

-- and where they ask for no responder
abbrev pub WithoutResponder : {Z : Type 0} → List (String Z) → (LaneNames → Type 0) → Type 0
WithoutResponder words so = (files : LaneNames) → plain_lanes_of (texts_of words) ≡ Some files → so files

-- a file of these bytes, of which nothing is read yet
abbrev pub opened : (List ℕ → Option (List ℕ)) → (List ℕ → Bool) → List ℕ → SourceState
opened bytes unfailing file = lane_state (bytes file) (Some file) 0 (unfailing file)

-- the next item may be waited for wherever just the text of all items taken before stands written
abbrev pub LanesMayWait : {Z R K : Type 0} → List (String Z) → (R → List Item → K → Type 0) → R → (input : SourceState) → (K → Option (List ℕ)) → (K → ℕ) → K
    → Type 0
LanesMayWait words may_wait rt input written faults out =
    WithoutResponder words
    (λ files. MayBeAwaited may_wait rt written (AnswersAll lane_rules (begun_by words) (outside drive.unread input (written out) (faults out))))

-- what the files still give may be dropped wherever the run stopped at the last item taken
abbrev pub LanesMayDrop : {Z R K : Type 0} → List (String Z) → (R → List Item → K → Type 0) → R → (input : SourceState) → (K → Option (List ℕ)) → (K → ℕ) → K
    → Type 0
LanesMayDrop words may_drop rt input written faults out =
    WithoutResponder words
    (λ files. MayBeAwaited may_drop rt written (HasStopped lane_rules (begun_by words) (outside drive.unread input (written out) (faults out))))

-- the watched file may be opened, and once it is open that of the frames
abbrev pub LanesMayOpen : {Z F : Type 0} → List (String Z) → (F → List ℕ → Type 0) → (F → F → List ℕ → Type 0) → F → Type 0
LanesMayOpen words may_open Opens unopened = OverLanes words (λ files. MayBeOpened may_open Opens unopened files.first files.second)

-- How the run ended, once both files are open; where it is done, all that both carry was taken, and just its text was written; and where each line of
-- both can be applied, in whatever order the events of both come, and no count of faults rises, it is done, unless memory runs out.
pub record OwesLanes (start : SpeakerState) (files : LaneNames) (status : Status) (bytes : List ℕ → Option (List ℕ)) (unfailing : List ℕ → Bool)
    (seen seen' : FilesState) (input input' : SourceState) (before after : Option (List ℕ)) (writes writes' : ℕ) : Type 0 where
  pub ends : drive.AtEnd belongs_to lane_rules start files.first files.second seen seen' (opened bytes unfailing files.first) (opened bytes unfailing files.second)
      input input' before after writes writes' status
  pub done : drive.AtDone belongs_to lane_rules start (bytes files.first) (bytes files.second) status input.left input'.left before after
  pub complete : can_be_done.IsComplete belongs_to lane_rules start (bytes files.first) (bytes files.second) status seen seen' input.left
      input.faults input'.faults writes writes'

abbrev pub LanesOwe : {Z K : Type 0} → List (String Z) → Status → (List ℕ → Option (List ℕ)) → (List ℕ → Bool) → (seen seen' : FilesState)
    (input input' : SourceState) → (K → Option (List ℕ)) → (K → ℕ) → K → K → Type 0
LanesOwe words status bytes unfailing seen seen' input input' written faults out out' = WithoutResponder words
    (λ files. OwesLanes (begun_by words) files status bytes unfailing seen seen' input input' (written out) (written out') (faults out) (faults out'))

-- However it ends, a beginning of the text of some items was written, which are of each file a beginning of what it carries; and they are right as
-- lines of one stream.
pub record WritesItemsRightly {Z : Type 0} (words : List (String Z)) (first second left before after : Option (List ℕ)) : Type 0 where
  pub written : drive.OnlyWrites belongs_to lane_rules (begun_by words) first second left before after
  pub right : AreRightAsLines words written.items written.state written.told

abbrev pub LanesWriteRightly : {Z K : Type 0} → List (String Z) → (List ℕ → Option (List ℕ)) → (left : Option (List ℕ)) → (K → Option (List ℕ)) → K → K → Type 0
LanesWriteRightly words bytes left written out out' = WithoutResponder words
    (λ files. WritesItemsRightly words (bytes files.first) (bytes files.second) left (written out) (written out'))

-- a lane isn't opened exactly where the opening of its file failed, and then nothing was read; else no opening failed
abbrev pub AtLaneOpenFault : {Z : Type 0} → List (String Z) → Status → (seen seen' : FilesState) → Type 0
AtLaneOpenFault words status seen seen' = OverLanes words (λ files. drive.AtOpenFault name_of files.first files.second status seen seen')

-- a lane isn't read only where the count of failed readings of its file rose
abbrev pub AtLaneReadFault : {Z : Type 0} → List (String Z) → Status → (seen seen' : FilesState) → (reads reads' : ℕ) → Type 0
AtLaneReadFault words status seen seen' reads reads' =
    OverLanes words (λ files. drive.AtReadFault name_of files.first files.second status seen seen' reads reads')

-- nothing is read of the input, and of no other file an opening or a reading failed
abbrev pub LeavesOthers : {Z : Type 0} → List (String Z) → (input input' : SourceState) (seen seen' : FilesState) → Type 0
LeavesOthers words input input' seen seen' =
    OverLanes words (λ files. drive.LeavesInput input input' × drive.LeavesOthers files.first files.second seen seen')

abbrev pub IsLane : LaneName → Type 0
IsLane lane = (lane ≡ Watch) ⊎ (lane ≡ Frame)

-- a run over lanes may end so: nothing is said of the input, and there are no puts
abbrev pub CanEndLanes : Status → Type 0
CanEndLanes Done = ⊤
CanEndLanes Usage = ⊥
CanEndLanes (OpenFault lane) = IsLane lane
CanEndLanes (ReadFault lane) = IsLane lane
CanEndLanes WriteFault = ⊤
CanEndLanes (BadLine lane number bytes) = IsLane lane
CanEndLanes (BadReply number bytes) = ⊥
CanEndLanes (NoReply put) = ⊥
CanEndLanes (Limit what count) = CanPass IsCause what count
CanEndLanes NoMemory = ⊤

abbrev pub LanesCanEnd : {Z : Type 0} → List (String Z) → Status → Type 0
LanesCanEnd words status = OverLanes words (λ files. CanEndLanes status)
