-- How the run of two lanes that are open ends.
use Rattle.std.proofs.Common.{◌≡◌, ◌≢◌, ◌⊎◌, inl, inr, ℕ, true, false, List, [], ◌∷◌, ◌++◌, Option}
use Rattle.std.proofs.Common.{Result, Ok, Err, refl, sym, ap, ◌∙◌, subst, append_assoc}
use Rattle.std.proofs.lemmas.List.{append-nil}
use Rattle.kube_model.specs.declared.status.Status.{Status}
use Rattle.kube_model.specs.declared.status.Status.TheVariants as statuses
use Rattle.lane_mail.specs.declared.item.Item.{Item}
use Rattle.lane_run.specs.declared.lane_end.LaneEnd.TheVariants.{NoMemory}
use Rattle.lane_run.specs.declared.lane_run.LaneRun.{LaneRun}
use Rattle.lane_run.specs.declared.lane_end.LaneEnd.{LaneEnd}
use Rattle.lane_run.specs.Ran.{RanBy}
use Rattle.lane_run.specs.Reconciled.{AreDriven, Drove, Leaves}
use Rattle.lane_run.specs.Outside.{SourceState, Outside}
use Rattle.line_run.specs.declared.halt.Halt.{Halt}
use Rattle.line_run.specs.declared.halt.Refusal.{Refusal}
use Rattle.line_run.specs.declared.halt.Refusal.TheVariants.{Stopped, Halted}
use Rattle.line_run.specs.Ended.{status_of_halt, status_of_refusal}
use Rattle.line_run.specs.Machine.{Stops}
use Rattle.mlb_edge.specs.declared.lines.Line.{Line}
use Rattle.mlb_edge.specs.InputLines.{HoldsLine, to_come}
use Rattle.mlb_edge.specs.Written.{Grows, Grows-none}
use Rattle.lane_drive.specs.Asking.{AsksOf}
use Rattle.lane_drive.specs.LaneRules.{LaneRules, RefusesItem, HaltsItem}
use Rattle.lane_drive.specs.Drive.{Told, AreHeard, AreTaken, Drives}
use Rattle.lane_drive.specs.Clauses.{LeavesInput}
use Rattle.lane_drive.specs.Hearing.{DrivesItem, FailsItem, FailsBehind, RefusesNext, EndsHearing, GoesBehind}
use Rattle.lane_drive.specs.Sending.{Sending}
use Rattle.lane_drive.specs.Stops.{TakesAll, WritesBegun, EndsBy, status_of_lanes}
use Rattle.lane_drive.proofs.Sent.{SendsLawfully}
use Rattle.lane_drive.proofs.Endings.{begins_all, begins_of, upto_read, upto_still, upto_stopped, writes_none}
use Rattle.lane_drive.proofs.Heard.{never_waits}
use Rattle.lane_drive.proofs.Taken.{drives_all, drives_more}

-- where nothing was refused, all that was taken drove the reconciler
drove_all : {S U : Type 0} (Goes : S → S → Item → Outside → Outside → Type 0) (Refuses : Status → S → Item → Outside → Outside → Type 0) (taken : List Item)
    (s t : S) (before after : Outside) (done : U)
    → Drove Goes Refuses taken s t before after (Ok done) → AreDriven Goes taken s t before after
drove_all Goes Refuses taken s t before after done d =
    let all : taken ≡ d.driven = d.split ∙ (ap (λ (l : List Item). d.driven ++ l) d.leaves.0 ∙ append-nil d.driven) in
    rw (all, d.leaves.1, d.leaves.2) d.drove

module _ {S E : Type 0} (rules : LaneRules S E) where
  -- why the item isn't taken
  pub why : (refusal : Refusal) (s : S) (item : Item) (before after : Outside)
      → RefusesItem refusal rules s item before.written after.written before.faults after.faults
      → ((rules.take s item ≡ Stops (status_of_refusal refusal)) × Grows before.written after.written [])
      ⊎ ((halt : Halt) × (status_of_refusal refusal ≡ status_of_halt halt)
      × HaltsItem halt rules s item before.written after.written before.faults after.faults)
  why (Stopped status) s item before after r = inl r
  why (Halted halt) s item before after r = inr (halt, refl, r)

  never_heard : (lines : List Line) (s t : S) (entries : List E) → ((x : S) → rules.waits x ≡ false) → AreHeard rules lines s t entries → lines ≡ []
  never_heard [] s t entries never heard = refl
  never_heard (line ∷ lines) s t entries never (next, first, rest, waits, goes, others, is) = absurd (never_waits rules never s waits)

  -- where no reply is ever awaited, none is heard
  pub silent : (items : List Item) (replies : List Line) (s t : S) (told : List (Told E)) → ((x : S) → rules.waits x ≡ false)
      → AreTaken rules items replies s t told → replies ≡ []
  silent [] replies s t told never taken = taken.0
  silent (item ∷ items) replies s t told never (own, behind, next, entries, more, replies_are, taken, others, told_are) =
      let none : own ≡ [] = never_heard own taken.next next taken.rest never taken.heard in
      let none' : behind ≡ [] = silent items behind next t more never others in
      rw (replies_are, none, none') refl

module _ {S E : Type 0} {sending : Sending} (laws : SendsLawfully sending) (rules : LaneRules S E) (start : S) (quiet : rules.waits start ≡ false) where
  -- where memory ran out nothing was done
  pub ends_undriven : (first first' second second' : SourceState) (before after : Outside) → after.written ≡ before.written
      → sending.Begins first.left second.left [] → EndsBy sending rules start first first' second second' before after statuses.NoMemory
  ends_undriven first first' second second' before after same begin =
      inr (inr (inr (inr (
        refl,
        subst (λ (o : Option (List ℕ)). WritesBegun sending rules start first.left second.left (to_come before.reading
            before.replies.left) before.written o) (sym same)
            (writes_none laws rules start first.left second.left (to_come before.reading before.replies.left) before.written begin),
      ))))

  -- The items before this one drove the machine, which refused it or a reply after it.
  record Refused (before after : Outside) (taken : List Item) (status : Status) : Type 0 where
    pub items : List Item
    pub item : Item
    pub dropped : List Item
    pub split : taken ≡ items ++ item ∷ dropped
    pub state : S
    pub told : List (Told E)
    pub mid : Outside
    pub drove : Drives rules items start state told before mid
    pub still : rules.waits state ≡ false
    pub fails : FailsItem rules status state item mid after ⊎ FailsBehind rules status state item mid after

  module _ (first first' second second' : SourceState) (end end' : LaneEnd) (before after : Outside) (taken : List Item) (status : Status)
      (r : Refused before after taken status) (lanes : sending.Ended first first' second second' taken end end') where
    sent : sending.Ended first first' second second' (r.items ++ r.item ∷ r.dropped) end end'
    sent = subst (λ (l : List Item). sending.Ended first first' second second' l end end') r.split lanes

    with_item : r.items ++ r.item ∷ r.dropped ≡ (r.items ++ r.item ∷ []) ++ r.dropped
    with_item = sym (append_assoc r.items (r.item ∷ []) r.dropped)

    begin : sending.Begins first.left second.left r.items
    begin = begins_of laws rules start first first' second second' (r.items ++ r.item ∷ r.dropped) r.items (r.item ∷ r.dropped) end end' sent refl

    begin' : sending.Begins first.left second.left (r.items ++ r.item ∷ [])
    begin' = begins_of laws rules start first first' second second' (r.items ++ r.item ∷ r.dropped) (r.items ++ r.item ∷ []) r.dropped end end' sent
        with_item

    by_fails : (end ≢ NoMemory) × (end' ≢ NoMemory) → FailsItem rules status r.state r.item r.mid after ⊎ FailsBehind rules status r.state r.item r.mid after
        → EndsBy sending rules start first first' second second' before after status
    by_fails known (inl fails) = inl (record {
      items = r.items;
      item = r.item;
      dropped = r.dropped;
      end = end;
      end' = end';
      lanes = sent;
      state = r.state;
      told = r.told;
      mid = r.mid;
      drove = r.drove;
      quiet = r.still;
      stops = rw fails.is (why rules fails.refusal r.state r.item r.mid after fails.refuses);
      unread = fails.unread;
      known = known;
    })
    by_fails known (inr fails) = inr (inl (record {
      items = r.items ++ r.item ∷ [];
      dropped = r.dropped;
      end = end;
      end' = end';
      lanes = subst (λ (l : List Item). sending.Ended first first' second second' l end end') with_item sent;
      state = fails.state;
      told = r.told ++ fails.told;
      mid = fails.mid;
      drove = drives_more rules r.items (r.item ∷ []) start r.state fails.state r.told fails.told before r.mid fails.mid r.drove fails.drove;
      waits = fails.waits;
      stops = fails.stops;
      known = known;
    }))

    upto_fails : FailsItem rules status r.state r.item r.mid after ⊎ FailsBehind rules status r.state r.item r.mid after
        → WritesBegun sending rules start first.left second.left (to_come before.reading before.replies.left) before.written after.written
    upto_fails (inl fails) =
        upto_stopped laws rules start quiet first.left second.left r.items r.state r.told before r.mid r.drove after.written status r.item r.mid.faults
        after.faults begin begin' r.still
        (rw fails.is (why rules fails.refusal r.state r.item r.mid after fails.refuses))
    upto_fails (inr fails) =
        upto_read laws rules start quiet first.left second.left (r.items ++ r.item ∷ []) fails.state (r.told ++ fails.told) before fails.mid
        (drives_more rules r.items (r.item ∷ []) start r.state fails.state r.told fails.told before r.mid fails.mid r.drove fails.drove) after.written status
        _ _ _ _ _ _ _ begin' fails.stops

    -- where no reply is ever awaited, nothing was read
    leaves_fails : ((x : S) → rules.waits x ≡ false) → FailsItem rules status r.state r.item r.mid after ⊎ FailsBehind rules status r.state r.item r.mid after
        → after.replies ≡ before.replies
    leaves_fails never (inl fails) = fails.unread.1 ∙ (r.drove.unread (silent rules r.items r.drove.replies start r.state r.told never r.drove.taken)).1
    leaves_fails never (inr fails) = absurd (never_waits rules never fails.state fails.waits)

  -- the reconciler refused an item
  module _ (first first' second second' : SourceState) (before after : Outside) (t : S) (run : LaneRun)
      (ran : RanBy (sending.Ended first first' second second') (DrivesItem rules) (RefusesNext rules) start t before after run)
      (status : Status) (ill : run.outcome ≡ Err status) where
    refused : Refused before after ran.taken status
    refused =
        let failed : Result (Unit {0}) Status = Err status in
        let drove : Drove (DrivesItem rules) (RefusesNext rules) ran.taken start t before after failed = rw ill at ran.drove in
        let leaves : Leaves (RefusesNext rules) failed drove.behind drove.state t drove.mid after = drove.leaves in
        let d = drives_all rules drove.driven start drove.state before drove.mid quiet drove.drove in
        record {
          items = drove.driven;
          item = leaves.0;
          dropped = leaves.1;
          split = drove.split ∙ ap (λ (l : List Item). drove.driven ++ l) leaves.2;
          state = drove.state;
          told = d.0;
          mid = drove.mid;
          drove = d.1;
          still = d.2;
          fails = leaves.3 d.2;
        }

    pub ends_refused : (run.first ≢ NoMemory) × (run.second ≢ NoMemory) → EndsBy sending rules start first first' second second' before after status
    ends_refused known = by_fails first first' second second' run.first run.second before after ran.taken status refused ran.lanes known refused.fails

    pub leaves_refused : (rules.hears ≡ false → (x : S) → rules.waits x ≡ false) → rules.hears ≡ false → LeavesInput before.replies after.replies
    leaves_refused never none =
        leaves_fails first first' second second' run.first run.second before after ran.taken status refused ran.lanes (never none) refused.fails

    -- and a lane ended where memory ran out
    upto_refused : EndsBy sending rules start first first' second second' before after statuses.NoMemory
    upto_refused =
        inr (inr (inr (inr (refl, upto_fails first first' second second' run.first run.second before after ran.taken status refused ran.lanes refused.fails))))

  -- all that both lanes sent was taken
  module _ (first first' second second' : SourceState) (before mid : Outside) (t : S) (run : LaneRun)
      (ran : RanBy (sending.Ended first first' second second') (DrivesItem rules) (RefusesNext rules) start t before mid run) (done : run.outcome ≡ Ok tt) where
    all_driven : AreDriven (DrivesItem rules) ran.taken start t before mid
    all_driven =
        let well : Result (Unit {0}) Status = Ok tt in
        let drove : Drove (DrivesItem rules) (RefusesNext rules) ran.taken start t before mid well = rw done at ran.drove in
        drove_all (DrivesItem rules) (RefusesNext rules) ran.taken start t before mid tt drove

    drove : (told : List (Told E)) × Drives rules ran.taken start t told before mid × (rules.waits t ≡ false)
    drove = drives_all rules ran.taken start t before mid quiet all_driven

    pub quiet_then : rules.waits t ≡ false
    quiet_then = drove.2

    -- one of them ended where memory ran out
    upto_done : EndsBy sending rules start first first' second second' before mid statuses.NoMemory
    upto_done =
        let begin = begins_all laws rules start first first' second second' ran.taken run.first run.second ran.lanes in
        inr (inr (inr (inr (
          refl,
          upto_still laws rules start quiet first.left second.left ran.taken t drove.0 before mid drove.1 mid.written begin (Grows-none mid.written),
        ))))

    abbrev all_taken : (run.first ≢ NoMemory) × (run.second ≢ NoMemory)
        → TakesAll sending rules start first first' second second' before mid run.first run.second
    all_taken known =
        record { items = ran.taken; lanes = ran.lanes; state = t; told = drove.0; drove = drove.1; quiet = drove.2; known = known }

    -- where there are replies, the end of the input may be asked for
    pub asks_behind : (run.first ≢ NoMemory) × (run.second ≢ NoMemory) → rules.hears ≡ true → (HoldsLine mid.reading → ⊥)
        → AsksOf sending rules start first second before mid
    asks_behind known hears none_held =
        inr (record { first' = first'; second' = second'; end = run.first; end' = run.second; all = all_taken known; none_held = none_held; hears = hears })

    -- the input isn't at its end
    pub ends_behind : (run.first ≢ NoMemory) × (run.second ≢ NoMemory) → (after : Outside) (status : Status) → GoesBehind rules t status mid after
        → EndsBy sending rules start first first' second second' before after status
    ends_behind known after status behind = inr (inr
        (inl (record { end = run.first; end' = run.second; mid = mid; all = all_taken known; hears = behind.hears; stops = behind.stops; ill = behind.ill })))

    -- it is, or there are no replies
    pub ends_as_lanes : (run.first ≢ NoMemory) × (run.second ≢ NoMemory) → (after : Outside) → EndsHearing rules mid after
        → EndsBy sending rules start first first' second second' before after (status_of_lanes rules.name run.first run.second)
    ends_as_lanes known after behind = inr (inr (inr (inl (record {
      end = run.first;
      end' = run.second;
      mid = mid;
      all = all_taken known;
      is = refl;
      kept = behind.kept;
      ended = behind.ended;
      unheard = behind.unheard;
    }))))

    -- where no reply is ever awaited, nothing was read
    leaves_driven : ((x : S) → rules.waits x ≡ false) → mid.replies ≡ before.replies
    leaves_driven never = (drove.1.unread (silent rules ran.taken drove.1.replies start t drove.0 never drove.1.taken)).1

    pub leaves_lanes : (after : Outside) → (rules.hears ≡ false → (x : S) → rules.waits x ≡ false) → EndsHearing rules mid after → rules.hears ≡ false
        → LeavesInput before.replies after.replies
    leaves_lanes after never behind none = (behind.unheard none).1 ∙ leaves_driven (never none)

  -- One of the lanes ended where memory ran out, whatever the reconciler made of what they sent.
  module _ (first first' second second' : SourceState) (before mid : Outside) (t : S) (run : LaneRun)
      (ran : RanBy (sending.Ended first first' second second') (DrivesItem rules) (RefusesNext rules) start t before mid run) where
    unknown_by : (outcome : Result (Unit {0}) Status) → run.outcome ≡ outcome
        → EndsBy sending rules start first first' second second' before mid statuses.NoMemory
    unknown_by (Ok tt) done = upto_done first first' second second' before mid t run ran done
    unknown_by (Err status) ill = upto_refused first first' second second' before mid t run ran status ill

    pub ends_unknown : EndsBy sending rules start first first' second second' before mid statuses.NoMemory
    ends_unknown = unknown_by run.outcome refl

    leaves_by : (rules.hears ≡ false → (x : S) → rules.waits x ≡ false) → rules.hears ≡ false → (outcome : Result (Unit {0}) Status) → run.outcome ≡ outcome
        → LeavesInput before.replies mid.replies
    leaves_by never none (Ok tt) done = leaves_driven first first' second second' before mid t run ran done (never none)
    leaves_by never none (Err status) ill = leaves_refused first first' second second' before mid t run ran status ill never none

    -- where no reply is ever awaited, nothing was read
    pub leaves_unknown : (rules.hears ≡ false → (x : S) → rules.waits x ≡ false) → rules.hears ≡ false → LeavesInput before.replies mid.replies
    leaves_unknown never none = leaves_by never none run.outcome refl
