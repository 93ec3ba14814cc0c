-- What holds of what two lanes send.
use Rattle.std.proofs.Common.{◌≡◌, Bool, List, subst}
use Rattle.kube_model.specs.declared.event.Event.{Event}
use Rattle.lane_mail.specs.declared.lane.Lane.{Lane}
use Rattle.lane_mail.specs.declared.lane.Lane.TheVariants.{First, Second}
use Rattle.lane_mail.specs.declared.item.Item.{Item}
use Rattle.lane_mail.specs.Lanes.{items_of}
use Rattle.lane_mail.specs.Merges.{IsMerge}
use Rattle.lane_run.specs.declared.lane_end.LaneEnd.{LaneEnd}
use Rattle.lane_run.specs.declared.lane_end.LaneEnd.TheVariants.{Done, ReadFault}
use Rattle.lane_run.specs.Turned.{EndedTurned, StopsTurned}
use Rattle.lane_run.specs.Outside.{SourceState}
use Rattle.lane_run.specs.Watched.{Ended, IsBeginning, Sends}
use Rattle.lane_run.proofs.RanSo.{turned_part}
use Rattle.lane_drive.specs.Sending.{Sending, turned}
use Rattle.mlb_edge.specs.Causes.{Rose}

-- It is so however both lanes turn their events.
pub record SendsLawfully (sending : Sending) : Type 0 where
  -- each part of what was sent is a beginning
  pub part : (first first' second second' : SourceState) (sent part : List Item) (end end' : LaneEnd) → sending.Ended first first' second second' sent end end'
      → IsBeginning part sent → sending.Begins first.left second.left part
  -- a lane that ends at a fault has one more
  pub faults : (first first' second second' : SourceState) (sent : List Item) (end end' : LaneEnd) → sending.Ended first first' second second' sent end end'
      → (end ≡ ReadFault → Rose first.faults first'.faults) × (end' ≡ ReadFault → Rose second.faults second'.faults)
  -- lanes that end with their inputs have sent all
  pub whole : (first first' second second' : SourceState) (sent : List Item) → sending.Ended first first' second second' sent Done Done
      → sending.Firsts first.left (items_of First sent) × sending.Seconds second.left (items_of Second sent)
      × IsMerge sent (items_of First sent) (items_of Second sent)

fault_of : (belongs : Lane → Event → Bool) (lane : Lane) (before after : SourceState) (items : List Item) (end : LaneEnd)
    → Ended belongs lane before after items end → end ≡ ReadFault → Rose before.faults after.faults
fault_of belongs lane before after items end e is =
    let sends : Sends belongs lane before after items ReadFault = subst (λ (x : LaneEnd). Sends belongs lane before after items x) is e.sends in
    sends.1

module _ {U : Type 0} (Turns : U → U → Event → Event → Type 0) (belongs : Lane → Event → Bool) (lane : Lane) where
  all_turned : (before after : SourceState) (u u' : U) (sent : List Item) → EndedTurned Turns belongs lane before after u u' sent Done
      → StopsTurned Turns belongs lane before.left u u' sent Done
  all_turned before after u u' sent e = record { items = e.items; stops = e.ended.sends.0; turned = rw e.left e.turned }

pub turned_lawful : {U V : Type 0} {TurnsFirst : U → U → Event → Event → Type 0} {TurnsSecond : V → V → Event → Event → Type 0}
    {belongs : Lane → Event → Bool} {u u' : U} {v v' : V} → SendsLawfully (turned TurnsFirst TurnsSecond belongs u u' v v')
turned_lawful {U} {V} {TurnsFirst} {TurnsSecond} {belongs} {u} {u'} {v} {v'} = record {
  part = λ first first' second second' sent part end end' lanes split.
      turned_part TurnsFirst TurnsSecond belongs first first' second second' u u' v v' sent part end end' split lanes;
  faults = λ first first' second second' sent end end' lanes. (
    fault_of belongs First first first' lanes.first_ended.items end lanes.first_ended.ended,
    fault_of belongs Second second second' lanes.second_ended.items end' lanes.second_ended.ended,
  );
  whole = λ first first' second second' sent lanes. (
    all_turned TurnsFirst belongs First first first' u u' (items_of First sent) lanes.first_ended,
    all_turned TurnsSecond belongs Second second second' v v' (items_of Second sent) lanes.second_ended,
    lanes.merge,
  );
}
