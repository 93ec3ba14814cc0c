-- What the controller owes where the words ask for a run over two lanes. Each definition is of the class and the files that they name.
use Rattle.std.specs.Prelude.{◌≡◌, ◌≢◌, ◌⊎◌, ◌↔◌, ℕ, Bool, true, ⊤, List, ◌++◌, String, Option, Some}
use Rattle.command_options.specs.Lanes.{LaneNames}
use Rattle.command_options.specs.Options.{texts_of}
use Rattle.core_drive.specs.Drive.{TranscriptEntry}
use Rattle.core_drive.specs.Sound.{IsSound}
use Rattle.core_rules.specs.Core.{State, fresh}
use Rattle.kube_model.specs.declared.event.ListGroup.{ListGroup}
use Rattle.kube_model.specs.declared.event.ListGroup.TheVariants as groups
use Rattle.kube_model.specs.declared.status.LaneName.{LaneName}
use Rattle.kube_model.specs.declared.status.LaneName.TheVariants as names
use Rattle.kube_model.specs.declared.status.Status.{Status}
use Rattle.kube_model.specs.declared.status.Status.TheVariants.{Done, Usage, OpenFault, ReadFault, WriteFault, BadLine, BadReply, NoReply, Limit, NoMemory}
use Rattle.lane_drive.specs.Asking.{AnswersAll, AsksMore, HasStopped}
use Rattle.lane_drive.specs.Clauses as lanes
use Rattle.lane_drive.specs.Complete as can_be_done
use Rattle.lane_drive.specs.Drive.{Told, AreTaken, entries_of}
use Rattle.lane_drive.specs.Files.{FilesState}
use Rattle.lane_mail.specs.declared.item.Item.{Item}
use Rattle.lane_mail.specs.declared.lane.Lane.{Lane}
use Rattle.lane_run.specs.Opening.{MayBeOpened}
use Rattle.lane_run.specs.Outside.{SourceState, lane_state, outside, source_state}
use Rattle.lane_run.specs.Waiting.{MayBeAwaited}
use Rattle.line_run.specs.Answered.{MayBeAsked}
use Rattle.line_run.specs.Clauses.{CanPass}
use Rattle.mlb_edge.specs.Reading.{Reading}
use Rattle.mlb_edge.specs.declared.lines.Line.{Line}
use Rattle.controller_run.specs.Asked.{AskLanes}
use Rattle.controller_run.specs.LaneExchanges.{LanesWriteSafely}
use Rattle.controller_run.specs.Lanes.{belongs_to, carries, lane_group, lane_rules, name_of}
use Rattle.controller_run.specs.SoFar.{IsRightSoFar}
use Rattle.controller_run.specs.Sound.{IsSafeThroughout, SettlesThroughout, KeepsThroughout, LeavesNothing}
use Rattle.controller_run.specs.Stream.{IsCause}

-- where the words ask for a run over two lanes, this is so of the class and the files that they name
abbrev pub OverLanes : {Z : Type 0} → List (String Z) → (Option (List ℕ) → LaneNames → Type 0) → Type 0
OverLanes words Owes = (class : Option (List ℕ)) (files : LaneNames) → AskLanes (texts_of words) class files → Owes class files

-- the input may be asked for more wherever all that was taken is answered, with all replies that came, and a reply is awaited or both lanes have ended
abbrev pub LanesMayAsk : {S K : Type 0} → (List ℕ → Option (List ℕ)) → (List ℕ → Bool) → (name left : S → Option (List ℕ)) (reads : S → ℕ)
    → (S → Reading → K → Type 0) → (written : K → Option (List ℕ)) (writes : K → ℕ) → S → K → Option (List ℕ) → LaneNames → Type 0
LanesMayAsk bytes unfailing name left reads may_read written writes input out class files =
    MayBeAsked name may_read input (λ source reader out'. AsksMore belongs_to lane_rules (fresh class)
    (lane_state (bytes files.first) (Some files.first) 0 (unfailing files.first)) (lane_state (bytes files.second) (Some files.second) 0 (unfailing files.second))
    (outside lanes.unread (source_state (left input) (name input) (reads input)) (written out) (writes out))
    (outside reader (source_state (left source) (name source) (reads source)) (written out') (writes out')))

-- the next item may be waited for wherever just the text of all items taken before stands written, with all replies to them heard
abbrev pub LanesMayWait : {R K : Type 0} → (R → List Item → K → Type 0) → R → (replies : SourceState) (written : K → Option (List ℕ)) (writes : K → ℕ) → K
    → Option (List ℕ) → LaneNames → Type 0
LanesMayWait may_wait rt replies written writes out class files =
    MayBeAwaited may_wait rt written (AnswersAll lane_rules (fresh class) (outside lanes.unread replies (written out) (writes out)))

-- what the files still give may be dropped wherever the run stopped at the last item taken, or at a reply after it
abbrev pub LanesMayDrop : {R K : Type 0} → (R → List Item → K → Type 0) → R → (replies : SourceState) (written : K → Option (List ℕ)) (writes : K → ℕ) → K
    → Option (List ℕ) → LaneNames → Type 0
LanesMayDrop may_drop rt replies written writes out class files =
    MayBeAwaited may_drop rt written (HasStopped lane_rules (fresh class) (outside lanes.unread replies (written out) (writes out)))

-- the file of the configuration may be opened, and once it is open that of the services
abbrev pub LanesMayOpen : {F : Type 0} → (F → List ℕ → Type 0) → (F → F → List ℕ → Type 0) → F → Option (List ℕ) → LaneNames → Type 0
LanesMayOpen may_open Opens unopened class files = MayBeOpened may_open Opens unopened files.first files.second

-- how the run ended, once both files are open
abbrev pub LanesEnd : (List ℕ → Option (List ℕ)) → (List ℕ → Bool)
    → (files files' : FilesState) (replies replies' : SourceState) (before after : Option (List ℕ))
    (writes writes' : ℕ) → Status → Option (List ℕ) → LaneNames → Type 0
LanesEnd bytes unfailing opened opened' replies replies' before after writes writes' status class files =
    lanes.AtEnd belongs_to lane_rules (fresh class) files.first files.second opened opened'
    (lane_state (bytes files.first) (Some files.first) 0 (unfailing files.first)) (lane_state (bytes files.second) (Some files.second) 0 (unfailing files.second))
    replies replies' before after writes writes' status

-- where it is done all that both files carry was taken, with all lines of the input as the replies, and just its text was written
abbrev pub LanesDone : (List ℕ → Option (List ℕ)) → Status → (left left' before after : Option (List ℕ)) → Option (List ℕ) → LaneNames → Type 0
LanesDone bytes status left left' before after class files =
    lanes.AtDone belongs_to lane_rules (fresh class) (bytes files.first) (bytes files.second) status left left' before after

-- of the configuration and the services a lane carries just that which it is the watch of
abbrev pub LanesAreWatches : Type 0
LanesAreWatches = (lane : Lane) (group : ListGroup) → group ≢ groups.Endpoint → (carries lane (Some group) ≡ true) ↔ (lane_group lane ≡ group)

-- A beginning of the text of some items was written, of each file a beginning of what it carries, with the first lines of the input as the
-- replies; and what was told of them is sound, and safe in every world that explains it, which settles when it is left alone, and along it addresses stay. So
-- it is behind each beginning of them that is taken, with whatever replies, and where no put is in flight after it nothing is left waiting.
pub record TellsSound (first second replies before after class : Option (List ℕ)) : Type 0 where
  pub written : lanes.OnlyWrites belongs_to lane_rules (fresh class) first second replies before after
  pub sound : IsSound class (entries_of written.told)
  pub safe : IsSafeThroughout class (entries_of written.told)
  pub settles : SettlesThroughout class (entries_of written.told)
  pub stays : KeepsThroughout class (entries_of written.told)
  pub so_far : (earlier later : List Item) (heard : List Line) (t : State) (told : List (Told TranscriptEntry)) → written.items ≡ earlier ++ later
      → AreTaken lane_rules earlier heard (fresh class) t told → IsRightSoFar class (entries_of told) t
  -- the list that is begun anew where a lane's watch has expired is of what the lane carries
  pub watches : LanesAreWatches

-- so it is however the run ends
abbrev pub LanesSound : (List ℕ → Option (List ℕ)) → (replies before after : Option (List ℕ)) → Option (List ℕ) → LaneNames → Type 0
LanesSound bytes replies before after class files = TellsSound (bytes files.first) (bytes files.second) replies before after class

-- what was read and written is safe in each world in which it is seen
abbrev pub LanesSafe : (List ℕ → Option (List ℕ)) → (replies before after : Option (List ℕ)) → Option (List ℕ) → LaneNames → Type 0
LanesSafe bytes replies before after class files = LanesWriteSafely (bytes files.first) (bytes files.second) replies before after

-- All that both files carry was taken, nothing is left waiting that could be served, and each settled service has its own.
pub record LeavesServed (first second left left' before after class : Option (List ℕ)) : Type 0 where
  pub whole : lanes.TakesWhole belongs_to lane_rules (fresh class) first second left left' before after
  pub quiet : LeavesNothing class (entries_of whole.told)

-- so it is where the run is done
abbrev pub LanesQuiet : (List ℕ → Option (List ℕ)) → Status → (left left' before after : Option (List ℕ)) → Option (List ℕ) → LaneNames → Type 0
LanesQuiet bytes status left left' before after class files =
    status ≡ Done → LeavesServed (bytes files.first) (bytes files.second) left left' before after class

-- where each line of both files can be taken, in whatever order the events of both come, with a reply to each put and no line after the last,
-- and no count of faults rises, the run is done, unless memory runs out
abbrev pub LanesComplete : (List ℕ → Option (List ℕ)) → Status → (files files' : FilesState) (replies : Option (List ℕ)) (reads reads' writes writes' : ℕ)
    → Option (List ℕ) → LaneNames → Type 0
LanesComplete bytes status before after replies reads reads' writes writes' class files =
    can_be_done.IsComplete belongs_to lane_rules (fresh class) (bytes files.first) (bytes files.second) status before after replies reads reads' writes writes'

-- a file isn't opened exactly where its opening failed, and then nothing was read; else no opening failed
abbrev pub LaneOpenFault : Status → (files files' : FilesState) → Option (List ℕ) → LaneNames → Type 0
LaneOpenFault status before after class files = lanes.AtOpenFault name_of files.first files.second status before after

-- a file isn't read only where the count of its failed readings rose, and the input only where its own rose
abbrev pub LaneReadFault : Status → (files files' : FilesState) (reads reads' : ℕ) → Option (List ℕ) → LaneNames → Type 0
LaneReadFault status before after reads reads' class files = lanes.AtReadFault name_of files.first files.second status before after reads reads'

-- of no other file an opening or a reading failed
abbrev pub LaneOthers : (files files' : FilesState) → Option (List ℕ) → LaneNames → Type 0
LaneOthers before after class files = lanes.LeavesOthers files.first files.second before after

-- the lane is the file of the configuration or that of the services
abbrev pub IsWatched : LaneName → Type 0
IsWatched lane = (lane ≡ names.Config) ⊎ (lane ≡ names.Service)

-- a run over two lanes may end so: a line of the input is a reply or the run stops at it, and lines that are no events are those of the files
abbrev pub CanEndLanes : Status → Type 0
CanEndLanes Done = ⊤
CanEndLanes Usage = ⊥
CanEndLanes (OpenFault lane) = IsWatched lane
CanEndLanes (ReadFault lane) = (lane ≡ names.Input) ⊎ IsWatched lane
CanEndLanes WriteFault = ⊤
CanEndLanes (BadLine lane number bytes) = IsWatched lane
CanEndLanes (BadReply number bytes) = ⊤
CanEndLanes (NoReply put) = ⊤
CanEndLanes (Limit what count) = CanPass IsCause what count
CanEndLanes NoMemory = ⊤

abbrev pub LaneCanEnd : Status → Option (List ℕ) → LaneNames → Type 0
LaneCanEnd status class files = CanEndLanes status
