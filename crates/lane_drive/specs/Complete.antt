-- Where a run over two lane files can be done.
use Rattle.std.specs.Prelude.{◌≡◌, ◌⊎◌, ℕ, Bool, true, false, List, [], ◌∷◌, ◌++◌, Option, Some}
use Rattle.kube_model.specs.declared.event.Event.{Event}
use Rattle.kube_model.specs.declared.status.Status.{Status}
use Rattle.kube_model.specs.declared.status.Status.TheVariants as statuses
use Rattle.lane_mail.specs.declared.lane.Lane.{Lane}
use Rattle.lane_mail.specs.declared.lane.Lane.TheVariants.{First, Second}
use Rattle.lane_mail.specs.declared.item.Item.{Item}
use Rattle.lane_mail.specs.Lanes.{items_of}
use Rattle.lane_mail.specs.Merges.{IsMerge}
use Rattle.lane_run.specs.declared.lane_end.LaneEnd.TheVariants.{Done}
use Rattle.lane_run.specs.LaneInputs.{lane_input}
use Rattle.lane_drive.specs.Clauses.{AreLinesOf}
use Rattle.lane_drive.specs.Drive.{Told, AreTaken}
use Rattle.lane_drive.specs.Files.{FilesState}
use Rattle.lane_drive.specs.LaneRules.{LaneRules}
use Rattle.lane_drive.specs.Sending.{Sending}
use Rattle.line_run.specs.Machine.{Stops}
use Rattle.mlb_edge.specs.Causes.{Rose}
use Rattle.mlb_edge.specs.declared.lines.Line.{Line}

module _ {S E : Type 0} (rules : LaneRules S E) (start : S) where
  -- in whatever order these items of both lanes come, all are taken with just these replies, and none is awaited at last
  abbrev pub CanTake : (firsts seconds : List Item) (replies : List Line) → Type 0
  CanTake firsts seconds replies = (items : List Item) → IsMerge items firsts seconds
      → (t : S) × (told : List (Told E)) × AreTaken rules items replies start t told × (rules.waits t ≡ false)

  -- The first of these items are taken with the first of these replies, and for the next one memory is wanting.
  pub record WantsMemory (replies : List Line) (items : List Item) : Type 0 where
    pub front : List Item
    pub item : Item
    pub others : List Item
    pub items_are : items ≡ front ++ item ∷ others
    pub heard : List Line
    pub rest : List Line
    pub split : replies ≡ heard ++ rest
    pub state : S
    pub told : List (Told E)
    pub taken : AreTaken rules front heard start state told
    pub quiet : rules.waits state ≡ false
    pub stops : rules.take state item ≡ Stops statuses.NoMemory

module _ {S E : Type 0} (sending : Sending) (rules : LaneRules S E) (start : S) where
  -- These items are taken with the first of these replies, and none is awaited then; with all of them where no item more is to come.
  pub record TakesFirst (first second : Option (List ℕ)) (replies : List Line) (items : List Item) : Type 0 where
    pub heard : List Line
    pub rest : List Line
    pub split : replies ≡ heard ++ rest
    pub state : S
    pub told : List (Told E)
    pub taken : AreTaken rules items heard start state told
    pub quiet : rules.waits state ≡ false
    pub all : sending.Firsts first (items_of First items) → sending.Seconds second (items_of Second items) → rest ≡ []

  -- whatever both lanes have sent, in whatever order, is taken, or for one of the items memory is wanting
  abbrev pub TakesSent : (first second : Option (List ℕ)) (replies : List Line) → Type 0
  TakesSent first second replies = (items : List Item) → sending.Begins first second items
      → TakesFirst first second replies items ⊎ WantsMemory rules start replies items

-- Each line of both files is an event of its lane, within the limits. The lines of the input, if there are replies, are all replies.
pub record AreEvents {S E : Type 0} (belongs : Lane → Event → Bool) (rules : LaneRules S E) (first second replies : Option (List ℕ)) (lines : List Line)
    : Type 0 where
  pub one : List ℕ
  pub two : List ℕ
  pub first_is : first ≡ Some one
  pub second_is : second ≡ Some two
  pub first_done : (lane_input belongs First one).end ≡ Done
  pub second_done : (lane_input belongs Second two).end ≡ Done
  pub heard : rules.hears ≡ true → (bytes : List ℕ) × (replies ≡ Some bytes) × AreLinesOf (Some bytes) lines
  pub unheard : rules.hears ≡ false → lines ≡ []

-- where this is so, both files open, and no count of faults rises, a run is done, unless memory runs out
abbrev pub CompleteIf : Type 0 → Status → (files files' : FilesState) (reads reads' writes writes' : ℕ) → Type 0
CompleteIf Ready status files files' reads reads' writes writes' = Ready
    → files'.failed_opens ≡ files.failed_opens → files'.failed_reads ≡ files.failed_reads → ¬ (Rose reads reads') → ¬ (Rose writes writes')
    → (status ≡ statuses.Done) ⊎ (status ≡ statuses.NoMemory)

module _ {S E : Type 0} (belongs : Lane → Event → Bool) (rules : LaneRules S E) (start : S) where
  -- Each line of both files is an event of its lane. In whatever order the events of both come they can be taken, with all lines of the input as the
  -- replies.
  pub record AreReadable (first second replies : Option (List ℕ)) : Type 0 where
    pub lines : List Line
    pub events : AreEvents belongs rules first second replies lines
    pub taken : CanTake rules start (lane_input belongs First events.one).items (lane_input belongs Second events.two).items lines

  abbrev pub IsComplete : (first second : Option (List ℕ)) → Status → (files files' : FilesState) (replies : Option (List ℕ)) (reads reads' writes writes' : ℕ)
      → Type 0
  IsComplete first second status files files' replies = CompleteIf (AreReadable first second replies) status files files'

  -- Each line of both files is an event of its lane. Whatever is sent for these, in whatever order it comes, can be taken unless memory runs out.
  pub record AreSent (sending : Sending) (first second replies : Option (List ℕ)) : Type 0 where
    pub lines : List Line
    pub events : AreEvents belongs rules first second replies lines
    pub taken : TakesSent sending rules start first second lines

  abbrev pub CompleteOf : Sending → (first second : Option (List ℕ)) → Status → (files files' : FilesState) (replies : Option (List ℕ))
      (reads reads' writes writes' : ℕ) → Type 0
  CompleteOf sending first second status files files' replies = CompleteIf (AreSent sending first second replies) status files files'
