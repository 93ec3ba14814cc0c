-- What follows of a run of two lanes.
use Rattle.std.specs.Bool.{⊤}
use Rattle.std.proofs.Common.{◌≡◌, ℕ, Bool, List, [], Option, Result, Ok, Err, IfOk, refl, ap, ◌∙◌, subst}
use Rattle.mlb_base.specs.declared.memory.NoMemory.{NoMemory as MemoryEnd}
use Rattle.kube_model.specs.declared.event.Event.{Event}
use Rattle.kube_model.specs.declared.status.Status.{Status}
use Rattle.lane_mail.specs.declared.lane.Lane.{Lane}
use Rattle.lane_mail.specs.declared.lane.Lane.TheVariants.{First, Second}
use Rattle.lane_mail.specs.declared.item.Item.{Item}
use Rattle.lane_mail.specs.Lanes.{item_lane, items_of}
use Rattle.lane_mail.specs.Values.{MailId, Sender}
use Rattle.lane_mail.proofs.Merging.{merged}
use Rattle.lane_mail.proofs.Taking.{items_append}
use Rattle.lane_run.specs.declared.lane_end.LaneEnd.{LaneEnd}
use Rattle.lane_run.specs.declared.lane_run.LaneRun.{LaneRun}
use Rattle.lane_run.specs.Ran.{LanesTurned, Ran, RanBy, TurnedBeginnings}
use Rattle.lane_run.specs.Turned.{BeginsTurned, EndedTurned, Watched}
use Rattle.lane_run.specs.Outside.{SourceState, Outside}
use Rattle.lane_run.specs.Together.{HasLanes, BeginsLanes}
use Rattle.lane_run.specs.Watched.{Begins, IsBeginning}
use Rattle.lane_run.proofs.LaneSoFar.{begins_none}
use Rattle.lane_run.proofs.Turning.{begins_less, begins_turned, ended_unturned}

-- the items of a lane among those of a beginning are a beginning of them
items_begin : (lane : Lane) (taken part : List Item) → IsBeginning part taken → IsBeginning (items_of lane part) (items_of lane taken)
items_begin lane taken part split =
    (items_of lane split.0, ap (items_of lane) split.1 ∙ items_append lane part split.0)

-- a part of what a lane sent
pub begins_part : (belongs : Lane → Event → Bool) (lane : Lane) (left : Option (List ℕ)) (taken part : List Item) → IsBeginning part taken
    → Begins belongs lane left (items_of lane taken) → Begins belongs lane left (items_of lane part)
begins_part belongs lane left taken part split =
    begins_less belongs lane left (items_of lane taken) (items_of lane part) (items_begin lane taken part split)

module _ {U : Type 0} (Turns : U → U → Event → Event → Type 0) (belongs : Lane → Event → Bool) (lane : Lane) where
  -- how the lane of a watcher ended, by the items taken of it
  ended_of : (mail : MailId) (before after : SourceState) (u u' : U) (done : Sender) (end : LaneEnd) (taken : List Item)
      → Watched Turns belongs lane mail before after u u' done end → items_of lane taken ≡ done.sent
      → EndedTurned Turns belongs lane before after u u' (items_of lane taken) end
  ended_of mail before after u u' done end taken w same = rw same w.ended

  -- a part of what was sent for the items of a lane
  pub part_turned : (before after : SourceState) (u u' : U) (end : LaneEnd) (taken part : List Item) → IsBeginning part taken
      → EndedTurned Turns belongs lane before after u u' (items_of lane taken) end → BeginsTurned Turns belongs lane before.left u u' (items_of lane part)
  part_turned before after u u' end taken part split e =
      let two = items_begin lane taken part split in
      begins_turned Turns belongs lane before after u u' (items_of lane part) two.0 end
      (subst (λ (l : List Item). EndedTurned Turns belongs lane before after u u' l end) two.1 e)

  -- nothing was sent, and the state stays
  pub none_turned : (left : Option (List ℕ)) (u u' : U) → u' ≡ u → BeginsTurned Turns belongs lane left u u' []
  none_turned left u u' same = record { items = []; begins = begins_none belongs lane left; state = u; turned = refl; leads = ([], [], same) }

-- nothing was sent, and the states stay
pub turned_none : {U V : Type 0} (TurnsFirst : U → U → Event → Event → Type 0) (TurnsSecond : V → V → Event → Event → Type 0)
    (belongs : Lane → Event → Bool) (first second : Option (List ℕ)) (u u' : U) (v v' : V) → u' ≡ u → v' ≡ v
    → TurnedBeginnings TurnsFirst TurnsSecond belongs first second u u' v v' []
turned_none TurnsFirst TurnsSecond belongs first second u u' v v' same same' =
    record { firsts = none_turned TurnsFirst belongs First first u u' same; seconds = none_turned TurnsSecond belongs Second second v v' same' }

module _ {U V : Type 0} (TurnsFirst : U → U → Event → Event → Type 0) (TurnsSecond : V → V → Event → Event → Type 0) (belongs : Lane → Event → Bool)
    (first first' second second' : SourceState) (u u' : U) (v v' : V) where
  -- a part of what both lanes sent
  pub turned_part : (sent part : List Item) (end end' : LaneEnd) → IsBeginning part sent
      → LanesTurned TurnsFirst TurnsSecond belongs first first' second second' u u' v v' sent end end'
      → TurnedBeginnings TurnsFirst TurnsSecond belongs first.left second.left u u' v v' part
  turned_part sent part end end' split lanes = record {
    firsts = part_turned TurnsFirst belongs First first first' u u' end sent part split lanes.first_ended;
    seconds = part_turned TurnsSecond belongs Second second second' v v' end' sent part split lanes.second_ended;
  }

  -- the threads were joined, and these were taken of each lane
  pub sent_of : (mail mail' : MailId) (taken firsts seconds : List Item) (one two : Sender) (end end' : LaneEnd)
      → Watched TurnsFirst belongs First mail first first' u u' one end → Watched TurnsSecond belongs Second mail' second second' v v' two end'
      → HasLanes taken firsts seconds → firsts ≡ one.sent → seconds ≡ two.sent
      → LanesTurned TurnsFirst TurnsSecond belongs first first' second second' u u' v v' taken end end'
  sent_of mail mail' taken firsts seconds one two end end' w w' lanes e e' = record {
    first_ended = ended_of TurnsFirst belongs First mail first first' u u' one end taken w (lanes.first ∙ e);
    second_ended = ended_of TurnsSecond belongs Second mail' second second' v v' two end' taken w' (lanes.second ∙ e');
    merge = merged item_lane taken;
  }

  -- and so a part of these
  pub part_of : (mail mail' : MailId) (firsts seconds part : List Item) (one two : Sender) (end end' : LaneEnd)
      → Watched TurnsFirst belongs First mail first first' u u' one end → Watched TurnsSecond belongs Second mail' second second' v v' two end'
      → BeginsLanes firsts seconds part → firsts ≡ one.sent → seconds ≡ two.sent
      → TurnedBeginnings TurnsFirst TurnsSecond belongs first.left second.left u u' v v' part
  part_of mail mail' firsts seconds part one two end end' w w' b e e' =
      turned_part b.whole part end end' b.begins (sent_of mail mail' b.whole firsts seconds one two end end' w w' b.lanes e e')

-- where each event is sent as it is, these are the items of both lanes
pub ran_unturned : {S : Type 0} (belongs : Lane → Event → Bool) (Drives : S → S → Item → Outside → Outside → Type 0)
    (Refuses : Status → S → Item → Outside → Outside → Type 0) (first first' second second' : SourceState) (s t : S) (before after : Outside)
    (ran : Result LaneRun MemoryEnd)
    → IfOk ran (RanBy (LanesTurned (λ (s t : ⊤) (event sent : Event). sent ≡ event) (λ (s t : ⊤) (event sent : Event). sent ≡ event) belongs first first'
    second second' tt tt tt tt) Drives Refuses s t before after)
    → IfOk ran (Ran belongs Drives Refuses first first' second second' s t before after)
ran_unturned belongs Drives Refuses first first' second second' s t before after (Ok run) r = record {
  taken = r.taken;
  lanes = record {
    first_ended = ended_unturned belongs First first first' tt tt (items_of First r.taken) run.first r.lanes.first_ended;
    second_ended = ended_unturned belongs Second second second' tt tt (items_of Second r.taken) run.second r.lanes.second_ended;
    merge = r.lanes.merge;
  };
  drove = r.drove;
}
ran_unturned belongs Drives Refuses first first' second second' s t before after (Err end) r = tt
