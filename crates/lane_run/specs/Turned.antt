-- What a lane has sent whose events were turned into others before.
use Rattle.std.specs.Prelude.{◌≡◌, ◌⊎◌, ℕ, Bool, List, [], ◌∷◌, Option, Some, None}
use Rattle.kube_model.specs.declared.event.Event.{Event}
use Rattle.lane_mail.specs.declared.lane.Lane.{Lane}
use Rattle.lane_mail.specs.declared.item.Item.{Item}
use Rattle.lane_mail.specs.Values.{MailId, Sender}
use Rattle.lane_run.specs.declared.lane_end.LaneEnd.{LaneEnd}
use Rattle.lane_run.specs.declared.lane_end.LaneEnd.TheVariants.{Done, ReadFault, LineLimit, InputLimit, BadLine, NoMemory}
use Rattle.lane_run.specs.Outside.{SourceState}
use Rattle.lane_run.specs.Watched.{Begins, StopsAs, Ended}

module _ {S : Type 0} (Turns : S → S → Event → Event → Type 0) where
  -- the item that is sent for another: its lane and its number stay
  abbrev pub TurnsItem : S → S → Item → Item → Type 0
  TurnsItem s t item sent = (sent.lane ≡ item.lane) × (sent.number ≡ item.number) × Turns s t item.event sent.event

  -- for each of these items one was sent, one after the other
  abbrev pub AreTurned : S → S → List Item → List Item → Type 0
  AreTurned s t [] [] = t ≡ s
  AreTurned s t [] (one ∷ sent) = ⊥
  AreTurned s t (item ∷ items) [] = ⊥
  AreTurned s t (item ∷ items) (one ∷ sent) = (next : S) × TurnsItem s next item one × AreTurned next t items sent

  -- by some items more the one state leads to the other
  abbrev pub LeadsOn : S → S → Type 0
  LeadsOn s t = (items : List Item) × (sent : List Item) × AreTurned s t items sent

  -- the state after what was sent: where memory was wanting, one item more may have been turned
  abbrev pub IsLeft : S → S → LaneEnd → Type 0
  IsLeft s t Done = t ≡ s
  IsLeft s t ReadFault = t ≡ s
  IsLeft s t (LineLimit number) = t ≡ s
  IsLeft s t InputLimit = t ≡ s
  IsLeft s t (BadLine number bytes) = t ≡ s
  IsLeft s t NoMemory = (t ≡ s) ⊎ ((item : Item) × (one : Item) × TurnsItem s t item one)

  module _ (belongs : Lane → Event → Bool) (lane : Lane) where
    -- A lane ended so, and these items were sent for those of its lines.
    pub record EndedTurned (before after : SourceState) (s t : S) (sent : List Item) (end : LaneEnd) : Type 0 where
      pub items : List Item
      pub ended : Ended belongs lane before after items end
      pub state : S
      pub turned : AreTurned s state items sent
      pub left : IsLeft state t end

    -- For a beginning of what the lane carries these items were sent. The state after them leads on to the one that is left in the end.
    pub record BeginsTurned (left : Option (List ℕ)) (s t : S) (sent : List Item) : Type 0 where
      pub items : List Item
      pub begins : Begins belongs lane left items
      pub state : S
      pub turned : AreTurned s state items sent
      pub leads : LeadsOn state t

    -- for all that the lane carries just these items were sent, and it ends so
    pub record StopsTurned (left : Option (List ℕ)) (s t : S) (sent : List Item) (end : LaneEnd) : Type 0 where
      pub items : List Item
      pub stops : StopsAs belongs lane left items end
      pub turned : AreTurned s t items sent

    -- The lane ended so, and its end mark is in the mail.
    pub record Watched (mail : MailId) (before after : SourceState) (s t : S) (done : Sender) (end : LaneEnd) : Type 0 where
      pub mail_is : done.mail ≡ mail
      pub lane_is : done.lane ≡ lane
      pub ended : EndedTurned before after s t done.sent end

-- the pass of a lane that has sent nothing
abbrev pub CanWatch : MailId → Lane → Option Sender → Type 0
CanWatch mail lane None = ⊥
CanWatch mail lane (Some pass) = (pass.mail ≡ mail) × (pass.lane ≡ lane) × (pass.sent ≡ [])
