-- The drive over the items of two lanes, with the lines of the input as replies.
use Rattle.std.specs.Prelude.{◌≡◌, ◌≤◌, ℕ, true, false, List, [], ◌∷◌, ◌++◌}
use Rattle.std.specs.List.{flat_map}
use Rattle.lane_mail.specs.declared.item.Item.{Item}
use Rattle.lane_run.specs.Outside.{Outside}
use Rattle.line_run.specs.Machine.{Goes}
use Rattle.lane_drive.specs.LaneRules.{LaneRules, item_text}
use Rattle.mlb_edge.specs.declared.lines.Line.{Line}
use Rattle.mlb_edge.specs.InputLines.{Follows, to_come}
use Rattle.mlb_edge.specs.Written.{Grows}

-- an item that was taken, and the entries of what it came to, with the replies to that
pub record Told (E : Type 0) : Type 0 where
  pub item : Item
  pub entries : List E

-- each of these lines was awaited, and heard as the reply
abbrev pub AreHeard : {S E : Type 0} → LaneRules S E → List Line → S → S → List E → Type 0
AreHeard rules [] s t entries = (t ≡ s) × (entries ≡ [])
AreHeard {S} {E} rules (line ∷ lines) s t entries =
    (next : S) × (first : List E) × (rest : List E) × (rules.waits s ≡ true) × (rules.hear s line ≡ Goes next first) × AreHeard rules lines next t rest
    × (entries ≡ first ++ rest)

-- The item was taken where no reply was awaited, and these lines were heard after it.
pub record IsTaken {S E : Type 0} (rules : LaneRules S E) (item : Item) (replies : List Line) (s t : S) (entries : List E) : Type 0 where
  pub quiet : rules.waits s ≡ false
  pub next : S
  pub first : List E
  pub rest : List E
  pub steps : rules.take s item ≡ Goes next first
  pub heard : AreHeard rules replies next t rest
  pub entries_are : entries ≡ first ++ rest

-- The items were taken one after the other, with these replies. After each item but the last none is awaited any more.
abbrev pub AreTaken : {S E : Type 0} → LaneRules S E → List Item → List Line → S → S → List (Told E) → Type 0
AreTaken rules [] replies s t told = (replies ≡ []) × (t ≡ s) × (told ≡ [])
AreTaken {S} {E} rules (item ∷ items) replies s t told =
    (own : List Line) × (behind : List Line) × (next : S) × (entries : List E) × (more : List (Told E)) × (replies ≡ own ++ behind)
    × IsTaken rules item own s next entries × AreTaken rules items behind next t more × (told ≡ (record { item = item; entries = entries }) ∷ more)

-- what is written of them: of each item the line that tells of it, and then what it came to
abbrev pub told_text : {S E : Type 0} → LaneRules S E → List (Told E) → List ℕ
told_text rules told = flat_map (λ one. item_text rules one.item one.entries) told

-- all entries, one after the other
abbrev pub entries_of : {E : Type 0} → List (Told E) → List E
entries_of told = flat_map (λ one. one.entries) told

-- These items were taken, with the first lines of the input as replies, and just their text was written. Nothing more was read.
pub record Drives {S E : Type 0} (rules : LaneRules S E) (items : List Item) (s t : S) (told : List (Told E)) (before after : Outside) : Type 0 where
  pub replies : List Line
  pub taken : AreTaken rules items replies s t told
  pub comes : Follows (to_come before.reading before.replies.left) replies (to_come after.reading after.replies.left)
  pub wrote : Grows before.written after.written (told_text rules told)
  pub reads : before.replies.faults ≤ after.replies.faults
  pub writes : before.faults ≤ after.faults
  pub unread : replies ≡ [] → (after.reading ≡ before.reading) × (after.replies ≡ before.replies)
