-- The run of a world's own controller is one that the world explains.
use Rattle.std.proofs.Common.{◌≡◌, List, [], ◌∷◌, ◌++◌, Option, Some, None, refl, sym, ap}
use Rattle.kube_model.specs.declared.event.Event.{Event}
use Rattle.kube_model.specs.declared.event.ListGroup.{ListGroup}
use Rattle.kube_model.specs.declared.event.ListGroup.TheVariants as groups
use Rattle.status_store.specs.declared.change.Outcome.{Outcome}
use Rattle.status_store.specs.Changes.{StoreValue}
use Rattle.core_rules.specs.declared.turn.Turn.{Turn}
use Rattle.core_rules.specs.declared.turn.Turn.TheVariants.{Idle, NoPut, Wants}
use Rattle.core_rules.specs.Core.{State}
use Rattle.core_rules.specs.Turn.{core_turn, put_in}
use Rattle.core_rules.specs.Run.{TranscriptEntry, Turned}
use Rattle.world_rules.specs.Explaining.{WorldsExplainThemselves, acts_of, answered}
use Rattle.world_rules.specs.Moves.{Move, Sets, Deletes, Tells, Takes, Turns, Stops, Starts, ConfigExpires, ServicesExpire, EndsLater, Lands}
use Rattle.world_rules.specs.Moves.{after_move, entries_taken, entries_put, entries_turned, entries_expired, entries_of, run_along, begun}
use Rattle.world_rules.specs.World.{WorldValue}

-- each put of the run has its reply
abbrev IsWhole : List TranscriptEntry → Type 0
IsWhole run = answered run ≡ run

taken-whole : (c : Option State) (events : List Event) (earlier : List TranscriptEntry) → IsWhole earlier → IsWhole (entries_taken c events ++ earlier)
taken-whole None events earlier whole = whole
taken-whole (Some s) [] earlier whole = whole
taken-whole (Some s) (event ∷ more) earlier whole = refl

turn-whole : (turn : Turn) (outcome : Outcome) (store : StoreValue) (earlier : List TranscriptEntry)
    → IsWhole ((entries_put (put_in turn) outcome store ++ Turned turn ∷ []) ++ earlier)
turn-whole Idle outcome store earlier = refl
turn-whole (NoPut key pending) outcome store earlier = refl
turn-whole (Wants put pending) outcome store earlier = refl

turned-whole : (c : Option State) (outcome : Outcome) (store : StoreValue) (earlier : List TranscriptEntry) → IsWhole earlier
    → IsWhole (entries_turned c outcome store ++ earlier)
turned-whole None outcome store earlier whole = whole
turned-whole (Some s) outcome store earlier whole = turn-whole (core_turn s) outcome store earlier

expired_core-whole : (c : Option State) (group : ListGroup) (earlier : List TranscriptEntry) → IsWhole earlier → IsWhole (entries_expired c group ++ earlier)
expired_core-whole None group earlier whole = whole
expired_core-whole (Some s) group earlier whole = refl

move-whole : (move : Move) (w : WorldValue) (earlier : List TranscriptEntry) → IsWhole earlier → IsWhole (entries_of move w ++ earlier)
move-whole (Sets object holding) w earlier whole = whole
move-whole (Deletes kind key) w earlier whole = whole
move-whole (Tells event) w earlier whole = taken-whole w.core (event ∷ []) earlier whole
move-whole Takes w earlier whole = taken-whole w.core w.service_lane earlier whole
move-whole (Turns outcome) w earlier whole = turned-whole w.core outcome w.store earlier whole
move-whole (Stops applied) w earlier whole = whole
move-whole (Starts list) w earlier whole = whole
move-whole ConfigExpires w earlier whole = expired_core-whole w.core groups.Config earlier whole
move-whole (ServicesExpire list) w earlier whole = expired_core-whole w.core groups.Service earlier whole
move-whole (EndsLater before event behind) w earlier whole = whole
move-whole (Lands put) w earlier whole = whole

run-whole : (moves : List Move) (w : WorldValue) (earlier : List TranscriptEntry) → IsWhole earlier → IsWhole (run_along moves w earlier)
run-whole [] w earlier whole = whole
run-whole (move ∷ moves) w earlier whole = run-whole moves (after_move move w) (entries_of move w ++ earlier) (move-whole move w earlier whole)

pub worlds_explain_themselves : WorldsExplainThemselves
worlds_explain_themselves class store list moves good listed running may = record {
  good = good;
  listed = listed;
  running = running;
  may = may;
  same = ap acts_of (sym (run-whole moves (begun class store list) [] refl));
}
