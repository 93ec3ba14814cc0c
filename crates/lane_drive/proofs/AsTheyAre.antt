-- Two lanes that send their events as they are, as two that turn each into itself.
use Rattle.std.specs.Bool.{⊤}
use Rattle.std.proofs.Common.{◌≡◌, inl, inr, ℕ, Bool, if◌then◌else◌, List, [], ◌∷◌, ◌++◌, length, Option, Some}
use Rattle.std.proofs.Common.{refl, sym, ap, ◌∙◌, subst, arith, length-append}
use Rattle.kube_model.specs.declared.event.Event.{Event}
use Rattle.kube_model.specs.declared.status.Status.{Status}
use Rattle.lane_mail.specs.declared.lane.Lane.{Lane}
use Rattle.lane_mail.specs.declared.lane.Lane.TheVariants.{First, Second}
use Rattle.lane_mail.specs.declared.item.Item.{Item}
use Rattle.lane_mail.specs.Lanes.{is_lane, items_of}
use Rattle.lane_mail.specs.Merges.{IsMerge}
use Rattle.lane_run.specs.declared.lane_end.LaneEnd.{LaneEnd}
use Rattle.lane_run.specs.declared.lane_end.LaneEnd.TheVariants.{Done}
use Rattle.lane_run.specs.LaneInputs.{LaneInput, lane_input}
use Rattle.lane_run.specs.Ran.{LanesEnded}
use Rattle.lane_run.specs.Turned.{StopsTurned}
use Rattle.lane_run.specs.Outside.{SourceState, Outside}
use Rattle.lane_run.specs.Watched.{Begins, StopsAs}
use Rattle.lane_run.proofs.Turning.{begins_unturned, ended_unturned, unturned}
use Rattle.mlb_edge.specs.InputLines.{Input}
use Rattle.lane_drive.specs.Asking.{AsksMore, AsksOf}
use Rattle.lane_drive.specs.Clauses.{AtDone, AtEnd, DoneOf, EndOf}
use Rattle.lane_drive.specs.Complete.{AreReadable, AreSent, TakesFirst}
use Rattle.lane_drive.specs.Drive.{AreTaken}
use Rattle.lane_drive.specs.Files.{FilesState}
use Rattle.lane_drive.specs.LaneRules.{LaneRules}
use Rattle.lane_drive.specs.Sending.{Sending, turned}
use Rattle.lane_drive.specs.Stops.{AreBeginnings, WritesBegun, WritesUpTo, as_they_are}
use Rattle.lane_drive.proofs.Carried.{Carries, asks_carried, done_carried, end_carried, writes_carried}
use Rattle.lane_drive.proofs.Complete.{quiet_first, stops_told}
use Rattle.lane_drive.proofs.Taken.{taken_first}

-- ---- put together with what is still to come

merge_rest : (a b : List Item) → IsMerge (a ++ b) a b
merge_rest [] [] = (refl, refl)
merge_rest [] (y ∷ b) = inr (b, refl, merge_rest [] b)
merge_rest (x ∷ a) b = inl (a, refl, merge_rest a b)

merge_one : (lane : Lane) (item : Item) (list xs ys a b : List Item) → IsMerge list (xs ++ a) (ys ++ b)
    → IsMerge (item ∷ list) ((if is_lane First lane then item ∷ xs else xs) ++ a) ((if is_lane Second lane then item ∷ ys else ys) ++ b)
merge_one First item list xs ys a b m = inl (xs ++ a, refl, m)
merge_one Second item list xs ys a b m = inr (ys ++ b, refl, m)

merge_more : (items a b : List Item) → IsMerge (items ++ (a ++ b)) (items_of First items ++ a) (items_of Second items ++ b)
merge_more [] a b = merge_rest a b
merge_more (item ∷ items) a b = merge_one item.lane item (items ++ (a ++ b)) (items_of First items) (items_of Second items) a b (merge_more items a b)

pub begins_in : (belongs : Lane → Event → Bool) (lane : Lane) (left : Option (List ℕ)) (bytes : List ℕ) (part : List Item) → left ≡ Some bytes
    → Begins belongs lane left part → (rest : List Item) × ((lane_input belongs lane bytes).items ≡ part ++ rest)
begins_in belongs lane left bytes part told b =
    let b' : Begins belongs lane (Some bytes) part = subst (λ (o : Option (List ℕ)). Begins belongs lane o part) told b in
    (b'.begins.0, ap (λ (i : LaneInput). i.items) (sym b'.is) ∙ b'.begins.1)

none_more : {T : Type 0} (xs ys : List T) → xs ≡ xs ++ ys → ys ≡ []
none_more xs [] e = refl
none_more xs (y ∷ ys) e = absurd (omega (arith, ap length e, length-append xs (y ∷ ys)))

module _ (belongs : Lane → Event → Bool) where
  -- each lane turns its events into themselves
  abbrev pub unchanged : Sending
  unchanged = turned (λ (s t : ⊤) (event sent : Event). sent ≡ event) (λ (s t : ⊤) (event sent : Event). sent ≡ event) belongs tt tt tt tt

  lanes_so : (first first' second second' : SourceState) (sent : List Item) (end end' : LaneEnd) → unchanged.Ended first first' second second' sent end end'
      → LanesEnded belongs first first' second second' sent end end'
  lanes_so first first' second second' sent end end' lanes = record {
    first_ended = ended_unturned belongs First first first' tt tt (items_of First sent) end lanes.first_ended;
    second_ended = ended_unturned belongs Second second second' tt tt (items_of Second sent) end' lanes.second_ended;
    merge = lanes.merge;
  }

  begins_so : (first second : Option (List ℕ)) (items : List Item) → unchanged.Begins first second items → AreBeginnings belongs first second items
  begins_so first second items b = record {
    firsts = begins_unturned belongs First first tt tt (items_of First items) b.firsts;
    seconds = begins_unturned belongs Second second tt tt (items_of Second items) b.seconds;
  }

  stops_so : (lane : Lane) (left : Option (List ℕ)) (items : List Item)
      → StopsTurned (λ (s t : ⊤) (event sent : Event). sent ≡ event) belongs lane left tt tt items Done → StopsAs belongs lane left items Done
  stops_so lane left items s = rw (unturned tt tt s.items items s.turned) s.stops

  -- so they send their events as they are
  carries : Carries unchanged (as_they_are belongs)
  carries = record {
    ended = lanes_so;
    begins = begins_so;
    firsts = λ left items. stops_so First left (items_of First items);
    seconds = λ left items. stops_so Second left (items_of Second items);
  }

  module _ {S E : Type 0} (rules : LaneRules S E) (start : S) where
    pub writes_so : (first second : Option (List ℕ)) (now : Option Input) (before after : Option (List ℕ))
        → WritesBegun unchanged rules start first second now before after → WritesUpTo belongs rules start first second now before after
    writes_so = writes_carried unchanged (as_they_are belongs) carries rules start

    pub asks_so : (first second : SourceState) (before now : Outside) → AsksOf unchanged rules start first second before now
        → AsksMore belongs rules start first second before now
    asks_so = asks_carried unchanged (as_they_are belongs) carries rules start

    pub done_so : (first second : Option (List ℕ)) (status : Status) (replies left before after : Option (List ℕ))
        → DoneOf unchanged rules start first second status replies left before after
        → AtDone belongs rules start first second status replies left before after
    done_so = done_carried unchanged (as_they_are belongs) carries rules start

    pub end_so : (file file' : List ℕ) (files files' : FilesState) (first second replies replies' : SourceState) (before after : Option (List ℕ))
        (writes writes' : ℕ) (status : Status)
        → EndOf unchanged rules start file file' files files' first second replies replies' before after writes writes' status
        → AtEnd belongs rules start file file' files files' first second replies replies' before after writes writes' status
    end_so = end_carried unchanged (as_they_are belongs) carries rules start

    -- in whatever order both send their events, they are taken
    module _ (first second replies : Option (List ℕ)) (ready : AreReadable belongs rules start first second replies) where
      -- all that they sent so far, and all that is still to come
      takes_first : (items : List Item) → unchanged.Begins first second items → TakesFirst unchanged rules start first second ready.lines items
      takes_first items b =
          let e = ready.events in
          let begin = begins_so first second items b in
          let firsts = begins_in belongs First first e.one (items_of First items) e.first_is begin.firsts in
          let seconds = begins_in belongs Second second e.two (items_of Second items) e.second_is begin.seconds in
          let others = firsts.0 ++ seconds.0 in
          let merge : IsMerge (items ++ others) (lane_input belongs First e.one).items (lane_input belongs Second e.two).items =
          subst (λ (l : List Item). IsMerge (items ++ others) l (lane_input belongs Second e.two).items) (sym firsts.1)
          (subst (λ (l : List Item). IsMerge (items ++ others) (items_of First items ++ firsts.0) l) (sym seconds.1)
          (merge_more items firsts.0 seconds.0)) in
          let can = ready.taken (items ++ others) merge in
          let first_part = taken_first rules items others ready.lines start can.0 can.1 can.2 in
          record {
            heard = first_part.heard;
            rest = first_part.rest;
            split = first_part.split;
            state = first_part.state;
            told = first_part.told;
            taken = first_part.taken;
            quiet = quiet_first rules others first_part.rest first_part.state can.0 first_part.told' first_part.behind can.3;
            all = λ all all'.
                let one = no_more First first e.one (items_of First items) firsts.0 e.first_is firsts.1 (stops_so First first (items_of First items) all) in
                let two = no_more Second second e.two (items_of Second items) seconds.0 e.second_is seconds.1
                (stops_so Second second (items_of Second items) all') in
                let none : others ≡ [] = rw (one, two) refl in
                let behind : AreTaken rules [] first_part.rest first_part.state can.0 first_part.told' =
                subst (λ (l : List Item). AreTaken rules l first_part.rest first_part.state can.0 first_part.told') none first_part.behind in
                behind.0;
          }
        where
          -- a lane that sent all sends no more
          no_more : (lane : Lane) (left : Option (List ℕ)) (bytes : List ℕ) (part rest : List Item) → left ≡ Some bytes
              → (lane_input belongs lane bytes).items ≡ part ++ rest → StopsAs belongs lane left part Done → rest ≡ []
          no_more lane left bytes part rest told are stops =
              none_more part rest (ap (λ (i : LaneInput). i.items) (stops_told belongs lane left bytes part Done told stops) ∙ are)

      pub sent_so : AreSent belongs rules start unchanged first second replies
      sent_so = record { lines = ready.lines; events = ready.events; taken = λ items b. inl (takes_first items b) }
