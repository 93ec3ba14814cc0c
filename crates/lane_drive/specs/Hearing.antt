-- What one item, with the replies after it, makes of a machine and of what surrounds it.
use Rattle.std.specs.Prelude.{◌≡◌, ◌≢◌, ◌⊎◌, ◌≤◌, true, false, List, [], ◌∷◌}
use Rattle.std.specs.List.{flat_map}
use Rattle.std.specs.Io.KnownBytes.{IsAtEnd}
use Rattle.kube_model.specs.declared.status.Status.{Status}
use Rattle.kube_model.specs.declared.status.Status.TheVariants.{Done}
use Rattle.lane_mail.specs.declared.item.Item.{Item}
use Rattle.lane_run.specs.Outside.{Outside}
use Rattle.line_run.specs.Ended.{status_of_refusal}
use Rattle.line_run.specs.declared.halt.Refusal.{Refusal}
use Rattle.lane_drive.specs.LaneRules.{LaneRules, RefusesItem}
use Rattle.lane_drive.specs.Drive.{Told, AreHeard, Drives}
use Rattle.lane_drive.specs.Stops.{StopsReading}
use Rattle.mlb_edge.specs.declared.lines.Line.{Line}
use Rattle.mlb_edge.specs.InputLines.{Whole, EndsAs, Follows, to_come}
use Rattle.mlb_edge.specs.Written.{Grows}

-- So many replies were heard, and just their text was written. Where none was, nothing was read or written.
pub record HearsSome {S E : Type 0} (rules : LaneRules S E) (s t : S) (before after : Outside) : Type 0 where
  pub replies : List Line
  pub entries : List E
  pub heard : AreHeard rules replies s t entries
  pub comes : Follows (to_come before.reading before.replies.left) replies (to_come after.reading after.replies.left)
  pub wrote : Grows before.written after.written (flat_map rules.text entries)
  pub reads : before.replies.faults ≤ after.replies.faults
  pub writes : before.faults ≤ after.faults
  pub still : replies ≡ [] → after ≡ before

-- replies were heard until none is awaited
abbrev pub Hears : {S E : Type 0} → LaneRules S E → (s t : S) (before after : Outside) → Type 0
Hears rules s t before after = HearsSome rules s t before after × (rules.waits t ≡ false)

-- Some replies were heard, and the next one stops the run.
pub record StopsHearing {S E : Type 0} (rules : LaneRules S E) (s : S) (status : Status) (before after : Outside) : Type 0 where
  pub state : S
  pub mid : Outside
  pub hears : HearsSome rules s state before mid
  pub waits : rules.waits state ≡ true
  pub stops : StopsReading rules state status mid after

-- Nothing more is written. Where there are replies, the input is at its end, and else nothing more is read.
pub record EndsHearing {S E : Type 0} (rules : LaneRules S E) (before after : Outside) : Type 0 where
  pub kept : Grows before.written after.written []
  pub ended : rules.hears ≡ true → EndsAs (to_come before.reading before.replies.left) Whole × IsAtEnd after.replies.left
  pub unheard : rules.hears ≡ false → (after.reading ≡ before.reading) × (after.replies ≡ before.replies)

-- There are replies, and the input isn't at its end.
pub record GoesBehind {S E : Type 0} (rules : LaneRules S E) (s : S) (status : Status) (before after : Outside) : Type 0 where
  pub hears : rules.hears ≡ true
  pub stops : StopsReading rules s status before after
  pub ill : status ≢ Done

-- Where no reply is awaited: the item is taken, with the replies after it, and none is awaited any more.
abbrev pub DrivesItem : {S E : Type 0} → LaneRules S E → (s t : S) (item : Item) (before after : Outside) → Type 0
DrivesItem {S} {E} rules s t item before after =
    rules.waits s ≡ false → ((told : List (Told E)) × Drives rules (item ∷ []) s t told before after × (rules.waits t ≡ false))

-- The item isn't taken, or its text isn't written whole.
pub record FailsItem {S E : Type 0} (rules : LaneRules S E) (status : Status) (s : S) (item : Item) (before after : Outside) : Type 0 where
  pub refusal : Refusal
  pub is : status ≡ status_of_refusal refusal
  pub refuses : RefusesItem refusal rules s item before.written after.written before.faults after.faults
  pub unread : (after.reading ≡ before.reading) × (after.replies ≡ before.replies)

-- The item is taken, and one of the replies after it stops the run.
pub record FailsBehind {S E : Type 0} (rules : LaneRules S E) (status : Status) (s : S) (item : Item) (before after : Outside) : Type 0 where
  pub state : S
  pub told : List (Told E)
  pub mid : Outside
  pub drove : Drives rules (item ∷ []) s state told before mid
  pub waits : rules.waits state ≡ true
  pub stops : StopsReading rules state status mid after

-- where no reply is awaited: one of the two
abbrev pub RefusesNext : {S E : Type 0} → LaneRules S E → (status : Status) (s : S) (item : Item) (before after : Outside) → Type 0
RefusesNext rules status s item before after = rules.waits s ≡ false → FailsItem rules status s item before after ⊎ FailsBehind rules status s item before after
