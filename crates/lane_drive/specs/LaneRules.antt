-- What the items of two lanes, and the replies to what they come to, are to a machine.
use Rattle.std.specs.Prelude.{◌≡◌, ◌⊎◌, ℕ, Bool, false, if◌then◌else◌, List, [], ◌++◌, Option}
use Rattle.std.specs.List.{flat_map}
use Rattle.kube_lines.specs.OutputLines.{took_text}
use Rattle.kube_model.specs.declared.status.LaneName.{LaneName}
use Rattle.kube_model.specs.declared.status.What.{What}
use Rattle.kube_model.specs.declared.status.Status.{Status}
use Rattle.kube_model.specs.declared.status.Status.TheVariants.{Done, BadReply, Limit}
use Rattle.kube_model.specs.declared.status.Status.TheVariants as statuses
use Rattle.lane_mail.specs.declared.lane.Lane.{Lane}
use Rattle.lane_mail.specs.declared.item.Item.{Item}
use Rattle.line_run.specs.declared.halt.Halt.{Halt}
use Rattle.line_run.specs.declared.halt.Halt.TheVariants.{WriteFault, NoMemory}
use Rattle.line_run.specs.declared.halt.Refusal.{Refusal}
use Rattle.line_run.specs.declared.halt.Refusal.TheVariants.{Stopped, Halted}
use Rattle.line_run.specs.Machine.{Transition, Goes, Stops, Rules}
use Rattle.line_run.specs.Statuses.{IsHeld}
use Rattle.line_run.specs.Text.{line_of, Halts}
use Rattle.mlb_edge.specs.declared.lines.Line.{Line}
use Rattle.mlb_edge.specs.Written.{Grows}

-- What a machine makes of items and replies.
pub record LaneRules (S E : Type 0) : Type 0 where
  -- what an item is to a state that awaits no reply
  pub take : S → Item → Transition S E
  -- a reply is awaited: it is the next line of the input
  pub waits : S → Bool
  -- what that line is to a state that awaits it
  pub hear : S → Line → Transition S E
  -- the status where the input ends before it
  pub unanswered : S → Status
  -- there are replies; the input has no other lines, and is read to its end
  pub hears : Bool
  -- what is written of an entry
  pub text : E → List ℕ
  -- the name of a lane
  pub name : Lane → LaneName

-- a machine that awaits no reply: what an item is to it, what is written of an entry, and what its lanes are called; the input isn't read
abbrev pub silent_rules : {S E : Type 0} → (S → Item → Transition S E) → (E → List ℕ) → (Lane → LaneName) → LaneRules S E
silent_rules take text name = record {
  take = take;
  waits = λ s. false;
  hear = λ s line. Stops (BadReply line.number line.bytes);
  unanswered = λ s. Done;
  hears = false;
  text = text;
  name = name;
}

-- the first number past a limit of what is held is told
abbrev pub IsHeldLimit : Status → Type 0
IsHeldLimit status = (what : What) × (count : ℕ) × IsHeld what × (status ≡ Limit what count)

-- why a run stops at an item: more would be held than may be, or memory is wanting
abbrev pub IsItemLimit : Status → Type 0
IsItemLimit status = IsHeldLimit status ⊎ (status ≡ statuses.NoMemory)

-- The lines of the input: each is the reply that is awaited, and where none is the input is at its end.
abbrev pub reply_rules : {S E : Type 0} → LaneRules S E → Rules S E
reply_rules rules = record {
  step = λ s line. if rules.waits s then rules.hear s line else Stops (BadReply line.number line.bytes);
  end = λ s. if rules.waits s then rules.unanswered s else Done;
  text = rules.text;
}

-- the line that tells of the item, and what it came to
abbrev pub item_text : {S E : Type 0} → LaneRules S E → Item → List E → List ℕ
item_text rules item entries = line_of (took_text (rules.name item.lane) item.number) ++ flat_map rules.text entries

-- The item is taken, and its text is written.
pub record TakesItem {S E : Type 0} (rules : LaneRules S E) (s t : S) (item : Item) (before after : Option (List ℕ)) : Type 0 where
  pub entries : List E
  pub steps : rules.take s item ≡ Goes t entries
  pub wrote : Grows before after (item_text rules item entries)

-- The item can be taken, and its text isn't written whole.
pub record BreaksItem {S E : Type 0} (halt : Halt) (rules : LaneRules S E) (s : S) (item : Item) (before after : Option (List ℕ)) (faults faults' : ℕ) : Type
    0 where
  pub next : S
  pub entries : List E
  pub steps : rules.take s item ≡ Goes next entries
  pub halts : Halts halt (item_text rules item entries) before after faults faults'

abbrev pub HaltsItem : {S E : Type 0} → Halt → LaneRules S E → S → Item → Option (List ℕ) → Option (List ℕ) → ℕ → ℕ → Type 0
HaltsItem WriteFault rules s item before after faults faults' = BreaksItem WriteFault rules s item before after faults faults'
HaltsItem NoMemory rules s item before after faults faults' = Grows before after [] ⊎ BreaksItem NoMemory rules s item before after faults faults'

-- why the item isn't taken: the run stops at it and nothing is written, or its text isn't written whole
abbrev pub RefusesItem : {S E : Type 0} → Refusal → LaneRules S E → S → Item → Option (List ℕ) → Option (List ℕ) → ℕ → ℕ → Type 0
RefusesItem (Stopped status) rules s item before after faults faults' = (rules.take s item ≡ Stops status) × Grows before after []
RefusesItem (Halted halt) rules s item before after faults faults' = HaltsItem halt rules s item before after faults faults'
