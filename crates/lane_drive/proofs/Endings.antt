-- What follows of how the run of two lanes ended.
use Rattle.std.proofs.Common.{◌≡◌, ◌≢◌, ◌⊎◌, inl, inr, ℕ, ◌≤◌, Bool, true, false, if◌then◌else◌, List, []}
use Rattle.std.proofs.Common.{◌∷◌, ◌++◌, Option, Some, None, refl, sym, ap, ◌∙◌, subst, append_assoc}
use Rattle.std.specs.Bool.{⊤}
use Rattle.std.specs.List.{flat_map}
use Rattle.std.proofs.lemmas.List.{append-nil}
use Rattle.kube_model.specs.declared.put.Put.{Put}
use Rattle.kube_model.specs.declared.status.LaneName.{LaneName}
use Rattle.kube_model.specs.declared.status.LaneName.TheVariants as lanes
use Rattle.kube_model.specs.declared.status.Status.{Status}
use Rattle.kube_model.specs.declared.status.Status.TheVariants as statuses
use Rattle.lane_mail.specs.declared.lane.Lane.{Lane}
use Rattle.lane_mail.specs.declared.lane.Lane.TheVariants.{First, Second}
use Rattle.lane_mail.specs.declared.item.Item.{Item}
use Rattle.lane_run.specs.declared.lane_end.LaneEnd.{LaneEnd}
use Rattle.lane_run.specs.declared.lane_end.LaneEnd.TheVariants.{Done, ReadFault, LineLimit, InputLimit, BadLine, NoMemory}
use Rattle.lane_run.specs.Outside.{SourceState, Outside}
use Rattle.line_run.specs.declared.halt.Halt.{Halt}
use Rattle.line_run.specs.declared.halt.Halt.TheVariants as halts
use Rattle.line_run.specs.declared.halt.Refusal.{Refusal}
use Rattle.line_run.specs.declared.halt.Refusal.TheVariants.{Stopped, Halted}
use Rattle.line_run.specs.Ends.{IsLast, Ends}
use Rattle.line_run.specs.Ended.{status_of_halt}
use Rattle.line_run.specs.Machine.{Goes, Stops}
use Rattle.line_run.specs.Steps.{HaltsAt, Refuses}
use Rattle.line_run.specs.Text.{GrowsUpTo}
use Rattle.line_run.proofs.Texts.{upto_all, upto_none, upto_then, part_upto, nothing_more}
use Rattle.mlb_edge.specs.Causes.{Rose}
use Rattle.mlb_edge.specs.declared.lines.Line.{Line}
use Rattle.mlb_edge.specs.Reading.{Reading}
use Rattle.mlb_edge.specs.InputLines.{Input, Whole, Follows, EndsAs, to_come, Follows-refl, Follows-append}
use Rattle.mlb_edge.specs.Written.{Grows}
use Rattle.lane_drive.specs.Causes.{held_status, reply_causes, end_causes}
use Rattle.lane_drive.specs.Clauses.{AreLinesOf, TakesAllOf, unread}
use Rattle.lane_drive.specs.Drive.{Told, Drives, told_text}
use Rattle.lane_drive.specs.LaneRules.{LaneRules, IsHeldLimit, IsItemLimit, reply_rules, item_text, HaltsItem}
use Rattle.lane_drive.specs.Sending.{Sending}
use Rattle.lane_drive.specs.Stops.{status_of_lane, status_of_lanes, EndsAsLanes, WritesBegun, EndsBy}
use Rattle.lane_drive.proofs.Sent.{SendsLawfully}
use Rattle.lane_drive.proofs.Faults.{IsIllBy, line_ill, end_ill, halt_ill, ill_since, ends_ill}
use Rattle.lane_drive.proofs.Taken.{told_text-append, AreTaken-append, hears_last, one_told, takes_one}

-- no lane ends so: the others are statuses of lanes
abbrev pub IsLaneStatus : Status → Type 0
IsLaneStatus statuses.Done = ⊤
IsLaneStatus statuses.Usage = ⊥
IsLaneStatus (statuses.OpenFault lane) = ⊥
IsLaneStatus (statuses.ReadFault lane) = ⊤
IsLaneStatus statuses.WriteFault = ⊥
IsLaneStatus (statuses.BadLine lane number bytes) = ⊤
IsLaneStatus (statuses.BadReply number bytes) = ⊥
IsLaneStatus (statuses.NoReply put) = ⊥
IsLaneStatus (statuses.Limit what count) = ⊤
IsLaneStatus statuses.NoMemory = ⊤

module _ (name : Lane → LaneName) where
  lane_status : (own : LaneName) (end : LaneEnd) → IsLaneStatus (status_of_lane own end)
  lane_status own Done = tt
  lane_status own ReadFault = tt
  lane_status own (LineLimit number) = tt
  lane_status own InputLimit = tt
  lane_status own (BadLine number bytes) = tt
  lane_status own NoMemory = tt

  lanes_status : (end end' : LaneEnd) → IsLaneStatus (status_of_lanes name end end')
  lanes_status Done end' = lane_status (name Second) end'
  lanes_status ReadFault end' = tt
  lanes_status (LineLimit number) end' = tt
  lanes_status InputLimit end' = tt
  lanes_status (BadLine number bytes) end' = tt
  lanes_status NoMemory end' = tt

  lane_done : (own : LaneName) (end : LaneEnd) → statuses.Done ≡ status_of_lane own end → end ≡ Done
  lane_done own Done e = refl
  lane_done own ReadFault e = absurd (cc)
  lane_done own (LineLimit number) e = absurd (cc)
  lane_done own InputLimit e = absurd (cc)
  lane_done own (BadLine number bytes) e = absurd (cc)
  lane_done own NoMemory e = absurd (cc)

  -- a run is done where both lanes are
  lanes_done : (end end' : LaneEnd) → statuses.Done ≡ status_of_lanes name end end' → (end ≡ Done) × (end' ≡ Done)
  lanes_done Done end' e = (refl, lane_done (name Second) end' e)
  lanes_done ReadFault end' e = absurd (cc)
  lanes_done (LineLimit number) end' e = absurd (cc)
  lanes_done InputLimit end' e = absurd (cc)
  lanes_done (BadLine number bytes) end' e = absurd (cc)
  lanes_done NoMemory end' e = absurd (cc)

  lane_read : (own told : LaneName) (end : LaneEnd) → statuses.ReadFault told ≡ status_of_lane own end → (told ≡ own) × (end ≡ ReadFault)
  lane_read own told Done e = absurd (cc)
  lane_read own told ReadFault e = (cc, refl)
  lane_read own told (LineLimit number) e = absurd (cc)
  lane_read own told InputLimit e = absurd (cc)
  lane_read own told (BadLine number bytes) e = absurd (cc)
  lane_read own told NoMemory e = absurd (cc)

  -- a read fault is that of a lane
  lanes_read : (told : LaneName) (end end' : LaneEnd) → statuses.ReadFault told ≡ status_of_lanes name end end'
      → ((told ≡ name First) × (end ≡ ReadFault)) ⊎ ((told ≡ name Second) × (end' ≡ ReadFault))
  lanes_read told Done end' e = inr (lane_read (name Second) told end' e)
  lanes_read told ReadFault end' e = inl (lane_read (name First) told ReadFault e)
  lanes_read told (LineLimit number) end' e = absurd (cc)
  lanes_read told InputLimit end' e = absurd (cc)
  lanes_read told (BadLine number bytes) end' e = absurd (cc)
  lanes_read told NoMemory end' e = absurd (cc)

-- the replies are all lines of the input
heard_all : (left : Option (List ℕ)) (reading : Reading) (left' : Option (List ℕ)) (replies : List Line)
    → Follows (to_come unread left) replies (to_come reading left') → EndsAs (to_come reading left') Whole → AreLinesOf left replies
heard_all None reading left' replies follows ends = tt
heard_all (Some bytes) reading None replies follows ends = absurd follows
heard_all (Some bytes) reading (Some more) replies follows ends =
    (follows.0 ∙ (ap (λ (input : Input). replies ++ input.lines) ends ∙ append-nil replies), follows.1 ∙ ap (λ (input : Input). input.ending) ends)

module _ {S E : Type 0} (rules : LaneRules S E) (s : S) (item : Item) (before after : Option (List ℕ)) where
  -- of an item that was refused nothing was written, or it can be taken and a beginning of its text was
  abbrev pub ItemBegun : Type 0
  ItemBegun = Grows before after []
      ⊎ ((next : S) × (entries : List E) × (rules.take s item ≡ Goes next entries) × GrowsUpTo before after (item_text rules item entries))

  halted_begun : (halt : Halt) (writes writes' : ℕ) → HaltsItem halt rules s item before after writes writes' → ItemBegun
  halted_begun halts.WriteFault writes writes' b = inr (b.next, b.entries, b.steps, part_upto before after (item_text rules item b.entries) b.halts.0)
  halted_begun halts.NoMemory writes writes' (inl nothing) = inl nothing
  halted_begun halts.NoMemory writes writes' (inr b) = inr (b.next, b.entries, b.steps, b.halts)

  pub stopped_begun : (status : Status) (writes writes' : ℕ) → ((rules.take s item ≡ Stops status) × Grows before after [])
      ⊎ ((halt : Halt) × (status ≡ status_of_halt halt) × HaltsItem halt rules s item before after writes writes') → ItemBegun
  stopped_begun status writes writes' (inl stops) = inl stops.1
  stopped_begun status writes writes' (inr (halt, is, h)) = halted_begun halt writes writes' h

module _ {S E : Type 0} {sending : Sending} (laws : SendsLawfully sending) (rules : LaneRules S E) (start : S) where
  -- nothing was written
  abbrev pub writes_none : (first second : Option (List ℕ)) (now : Option Input) (before : Option (List ℕ)) → sending.Begins first second []
      → WritesBegun sending rules start first second now before before
  writes_none first second now before begin = record {
    items = [];
    replies = [];
    next = now;
    comes = Follows-refl now;
    begin = begin;
    state = start;
    told = [];
    taken = (refl, refl, refl);
    wrote = upto_none before [];
  }

  -- A beginning of the text of what was driven, and of the next item or reply, was written.
  module _ (quiet : rules.waits start ≡ false) (first second : Option (List ℕ)) (items : List Item) (state : S) (told : List (Told E)) (before mid : Outside)
      (drove : Drives rules items start state told before mid) (after : Option (List ℕ)) where
    abbrev pub upto_still : sending.Begins first second items → Grows mid.written after []
        → WritesBegun sending rules start first second (to_come before.reading before.replies.left) before.written after
    upto_still begin nothing = record {
      items = items;
      replies = drove.replies;
      next = to_come mid.reading mid.replies.left;
      comes = drove.comes;
      begin = begin;
      state = state;
      told = told;
      taken = drove.taken;
      wrote = upto_all before.written after (told_text rules told) (nothing_more before.written mid.written after (told_text rules told) drove.wrote nothing);
    }

    abbrev pub upto_item : (item : Item) (next : S) (entries : List E) → sending.Begins first second (items ++ item ∷ []) → rules.waits state ≡ false
        → rules.take state item ≡ Goes next entries → GrowsUpTo mid.written after (item_text rules item entries)
        → WritesBegun sending rules start first second (to_come before.reading before.replies.left) before.written after
    upto_item item next entries begin quiet' steps part =
        let more = one_told item (entries ++ []) in
        let text : told_text rules (told ++ more) ≡ told_text rules told ++ item_text rules item entries =
        told_text-append rules told more ∙ ap (λ (t : List ℕ). told_text rules told ++ t)
        (append-nil (item_text rules item (entries ++ [])) ∙ ap (item_text rules item) (append-nil entries)) in
        record {
          items = items ++ item ∷ [];
          replies = drove.replies ++ [];
          next = to_come mid.reading mid.replies.left;
          comes = Follows-append (to_come before.reading before.replies.left) (to_come mid.reading mid.replies.left) (to_come mid.reading mid.replies.left)
              drove.replies [] drove.comes (Follows-refl (to_come mid.reading mid.replies.left));
          begin = begin;
          state = next;
          told = told ++ more;
          taken = AreTaken-append rules items (item ∷ []) drove.replies [] start state next told more drove.taken
              (takes_one rules state next next item [] entries [] quiet' steps (refl, refl));
          wrote = rw text (upto_then before.written mid.written after (told_text rules told) (item_text rules item entries) drove.wrote part);
        }

    upto_reply : (b : Bool) (line : Line) (next : S) (entries : List E) (next' : Option Input)
        → Follows (to_come mid.reading mid.replies.left) (line ∷ []) next' → rules.waits state ≡ b → sending.Begins first second items
        → (if b then rules.hear state line else Stops (statuses.BadReply line.number line.bytes)) ≡ Goes next entries
        → GrowsUpTo mid.written after (flat_map rules.text entries)
        → WritesBegun sending rules start first second (to_come before.reading before.replies.left) before.written after
    upto_reply false line next entries next' comes waits begin steps part = absurd (cc)
    upto_reply true line next entries next' comes waits begin steps part =
        let last = hears_last rules items drove.replies start state next told line entries quiet drove.taken waits steps in
        record {
          items = items;
          replies = drove.replies ++ line ∷ [];
          next = next';
          comes = Follows-append (to_come before.reading before.replies.left) (to_come mid.reading mid.replies.left) next' drove.replies (line ∷ []) drove.comes
              comes;
          begin = begin;
          state = next;
          told = last.0;
          taken = last.1;
          wrote = rw last.2 (upto_then before.written mid.written after (told_text rules told) (flat_map rules.text entries) drove.wrote part);
        }

    upto_halted : (halt : Halt) (line : Line) (writes writes' : ℕ) (next' : Option Input) → Follows (to_come mid.reading mid.replies.left) (line ∷ []) next'
        → sending.Begins first second items → HaltsAt halt (reply_rules rules) state line mid.written after writes writes'
        → WritesBegun sending rules start first second (to_come before.reading before.replies.left) before.written after
    upto_halted halts.WriteFault line writes writes' next' comes begin b = upto_reply (rules.waits state) line b.next b.entries next' comes refl begin b.steps
        (part_upto mid.written after (flat_map rules.text b.entries) b.halts.0)
    upto_halted halts.NoMemory line writes writes' next' comes begin (inl nothing) = upto_still begin nothing
    upto_halted halts.NoMemory line writes writes' next' comes begin (inr b) =
        upto_reply (rules.waits state) line b.next b.entries next' comes refl begin b.steps b.halts

    upto_refused : (refusal : Refusal) (line : Line) (writes writes' : ℕ) (next' : Option Input) → Follows (to_come mid.reading mid.replies.left)
        (line ∷ []) next' → sending.Begins first second items → Refuses refusal (reply_rules rules) state line mid.written after writes writes'
        → WritesBegun sending rules start first second (to_come before.reading before.replies.left) before.written after
    upto_refused (Stopped status) line writes writes' next' comes begin r = upto_still begin r.1
    upto_refused (Halted halt) line writes writes' next' comes begin r = upto_halted halt line writes writes' next' comes begin r

    pub upto_read : (status : Status) (next : Option Input) (held' : List ℕ) (left' : Option (List ℕ)) (reads reads' writes writes' : ℕ)
        → sending.Begins first second items
        → Ends (reply_rules rules) state status (to_come mid.reading mid.replies.left) next held' left' mid.written after reads reads' writes writes'
        → WritesBegun sending rules start first second (to_come before.reading before.replies.left) before.written after
    upto_read status next held' left' reads reads' writes writes' begin (inl (last, nothing)) = upto_still begin nothing
    upto_read status next held' left' reads reads' writes writes' begin (inr (inl (u, nothing))) = upto_still begin nothing
    upto_read status next held' left' reads reads' writes writes' begin (inr (inr u)) =
        upto_refused u.refusal u.line writes writes' next u.comes begin u.refuses

    upto_begun : (item : Item) → sending.Begins first second items → sending.Begins first second (items ++ item ∷ [])
        → rules.waits state ≡ false → ItemBegun rules state item mid.written after
        → WritesBegun sending rules start first second (to_come before.reading before.replies.left) before.written after
    upto_begun item begin begin' quiet' (inl nothing) = upto_still begin nothing
    upto_begun item begin begin' quiet' (inr (next, entries, steps, part)) = upto_item item next entries begin' quiet' steps part

    pub upto_stopped : (status : Status) (item : Item) (writes writes' : ℕ) → sending.Begins first second items
        → sending.Begins first second (items ++ item ∷ []) → rules.waits state ≡ false
        → ((rules.take state item ≡ Stops status) × Grows mid.written after [])
        ⊎ ((halt : Halt) × (status ≡ status_of_halt halt) × HaltsItem halt rules state item mid.written after writes writes')
        → WritesBegun sending rules start first second (to_come before.reading before.replies.left) before.written after
    upto_stopped status item writes writes' begin begin' quiet' why =
        upto_begun item begin begin' quiet' (stopped_begun rules state item mid.written after status writes writes' why)

  -- a beginning of what both lanes sent
  pub begins_of : (first first' second second' : SourceState) (sent part rest : List Item) (end end' : LaneEnd)
      → sending.Ended first first' second second' sent end end' → sent ≡ part ++ rest → sending.Begins first.left second.left part
  begins_of first first' second second' sent part rest end end' lanes split = laws.part first first' second second' sent part end end' lanes (rest, split)

  -- what both lanes sent
  pub begins_all : (first first' second second' : SourceState) (sent : List Item) (end end' : LaneEnd)
      → sending.Ended first first' second second' sent end end' → sending.Begins first.left second.left sent
  begins_all first first' second second' sent end end' lanes =
      begins_of first first' second second' sent sent [] end end' lanes (sym (append-nil sent))

  module _ (first first' second second' : SourceState) (before after : Outside) where
    -- however the run ends, a beginning of the text of some items was written
    pub writes_upto : (status : Status) → rules.waits start ≡ false → EndsBy sending rules start first first' second second' before after status
        → WritesBegun sending rules start first.left second.left (to_come before.reading before.replies.left) before.written after.written
    writes_upto status quiet (inl s) =
        upto_stopped quiet first.left second.left s.items s.state s.told before s.mid s.drove after.written status s.item s.mid.faults after.faults
        (begins_of first first' second second' (s.items ++ s.item ∷ s.dropped) s.items (s.item ∷ s.dropped) s.end s.end' s.lanes refl)
        (begins_of first first' second second' (s.items ++ s.item ∷ s.dropped) (s.items ++ s.item ∷ []) s.dropped s.end s.end' s.lanes
        (sym (append_assoc s.items (s.item ∷ []) s.dropped))) s.quiet s.stops
    writes_upto status quiet (inr (inl s)) =
        upto_read quiet first.left second.left s.items s.state s.told before s.mid s.drove after.written status _ _ _ _ _ _ _
        (begins_of first first' second second' (s.items ++ s.dropped) s.items s.dropped s.end s.end' s.lanes refl) s.stops
    writes_upto status quiet (inr (inr (inl s))) =
        upto_read quiet first.left second.left s.all.items s.all.state s.all.told before s.mid s.all.drove after.written status
        _ _ _ _ _ _ _ (begins_all first first' second second' s.all.items s.end s.end' s.all.lanes) s.stops
    writes_upto status quiet (inr (inr (inr (inl s)))) =
        upto_still quiet first.left second.left s.all.items s.all.state s.all.told before s.mid s.all.drove after.written
        (begins_all first first' second second' s.all.items s.end s.end' s.all.lanes) s.kept
    writes_upto status quiet (inr (inr (inr (inr s)))) = s.1

    -- all was taken
    takes_whole : before.reading ≡ unread → EndsAsLanes sending rules start first first' second second' before after statuses.Done
        → TakesAllOf sending rules start first.left second.left before.replies.left after.replies.left before.written after.written
    takes_whole fresh s =
        let ends = lanes_done rules.name s.end s.end' s.is in
        let all = s.all in
        let ended : sending.Ended first first' second second' all.items Done Done =
        subst (λ (end : LaneEnd). sending.Ended first first' second second' all.items Done end) ends.1
        (subst (λ (end : LaneEnd). sending.Ended first first' second second' all.items end s.end') ends.0 all.lanes) in
        let whole = laws.whole first first' second second' all.items ended in
        let comes : Follows (to_come unread before.replies.left) all.drove.replies (to_come s.mid.reading s.mid.replies.left) =
        subst (λ (r : Reading). Follows (to_come r before.replies.left) all.drove.replies (to_come s.mid.reading s.mid.replies.left)) fresh all.drove.comes in
        record {
          items = all.items;
          firsts = whole.0;
          seconds = whole.1;
          merge = whole.2;
          heard = all.drove.replies;
          state = all.state;
          told = all.told;
          taken = all.drove.taken;
          quiet = all.quiet;
          wrote = nothing_more before.written s.mid.written after.written (told_text rules all.told) all.drove.wrote s.kept;
          whole = λ hears.
              let e = s.ended hears in
              (heard_all before.replies.left s.mid.reading s.mid.replies.left all.drove.replies comes e.0, e.1);
        }

    -- Why the machine stops.
    module _ (items_stop : (s : S) (item : Item) (status : Status) → rules.take s item ≡ Stops status → IsItemLimit status)
        (replies_stop : (s : S) (line : Line) (status : Status) → rules.waits s ≡ true → rules.hear s line ≡ Stops status
        → (status ≡ statuses.BadReply line.number line.bytes) ⊎ IsHeldLimit status)
        (puts : (s : S) → rules.waits s ≡ true → (put : Put) × (rules.unanswered s ≡ statuses.NoReply put)) where
      by_end : (s : S) (status : Status) (reads reads' writes writes' : ℕ) → status ≢ statuses.Done → (status ≡ (reply_rules rules).end s)
          ⊎ (status ≡ statuses.NoMemory) → IsIllBy status reads reads' writes writes'
      by_end s status reads reads' writes writes' ill (inl is) = end_ill status reads reads' writes writes' (rw is (end_causes rules puts s).0) ill
      by_end s status reads reads' writes writes' ill (inr is) = rw is tt

      last_ill : (s : S) (status : Status) (now : Option Input) (left' : Option (List ℕ)) (reads reads' writes writes' : ℕ) → status ≢ statuses.Done
          → IsLast (reply_rules rules) s status now left' → IsIllBy status reads reads' writes writes'
      last_ill s status now left' reads reads' writes writes' ill last = by_end s status reads reads' writes writes' ill last.is

      -- a run that awaits a reply isn't done
      by_reply : (s : S) (status : Status) → rules.waits s ≡ true → (status ≡ (reply_rules rules).end s) ⊎ (status ≡ statuses.NoMemory) → status ≢ statuses.Done
      by_reply s status waits (inl is) done =
          let end : (reply_rules rules).end s ≡ rules.unanswered s = rw waits refl in
          let put = puts s waits in
          let wrong : statuses.Done ≡ statuses.NoReply put.0 = sym done ∙ (is ∙ (end ∙ put.1)) in
          absurd (cc)
      by_reply s status waits (inr is) done = absurd (cc)

      by_ends : (s : S) (status : Status) (now : Option Input) (left' b a : Option (List ℕ)) (reads reads' writes writes' : ℕ)
          → (IsLast (reply_rules rules) s status now left' → status ≢ statuses.Done)
          → (IsLast (reply_rules rules) s status now left' × Grows b a []) ⊎ IsIllBy status reads reads' writes writes'
          → IsIllBy status reads reads' writes writes'
      by_ends s status now left' b a reads reads' writes writes' ill (inl (last, nothing)) =
          last_ill s status now left' reads reads' writes writes' (ill last) last
      by_ends s status now left' b a reads reads' writes writes' ill (inr is) = is

      stops_ill : (s : S) (status : Status) (now next : Option Input) (held' : List ℕ) (left' b a : Option (List ℕ)) (r reads reads' w writes writes' : ℕ)
          → r ≤ reads → w ≤ writes
          → (IsLast (reply_rules rules) s status now left' → status ≢ statuses.Done)
          → Ends (reply_rules rules) s status now next held' left' b a reads reads' writes writes' → IsIllBy status r reads' w writes'
      stops_ill s status now next held' left' b a r reads reads' w writes writes' x y ill ends =
          ill_since status r reads reads' w writes writes' x y (by_ends s status now left' b a reads reads' writes writes' ill
          (ends_ill (reply_rules rules) s (λ line stop e. (reply_causes rules replies_stop s line stop e).0) status now next held' left' b a reads reads' writes
          writes' ends))

      halts_rise : (halt : Halt) (s : S) (item : Item) (b a : Option (List ℕ)) (writes writes' : ℕ) → HaltsItem halt rules s item b a writes writes'
          → halt ≡ halts.WriteFault → Rose writes writes'
      halts_rise halts.WriteFault s item b a writes writes' h e = h.halts.1
      halts_rise halts.NoMemory s item b a writes writes' h e = absurd (cc)

      limit_ill : (status : Status) (reads reads' writes writes' : ℕ) → IsItemLimit status → IsIllBy status reads reads' writes writes'
      limit_ill status reads reads' writes writes' (inl held) = line_ill status reads reads' writes writes' (held_status status held)
      limit_ill status reads reads' writes writes' (inr is) = rw is tt

      item_ill : (s : S) (item : Item) (status : Status) (b a : Option (List ℕ)) (reads reads' writes writes' : ℕ)
          → ((rules.take s item ≡ Stops status) × Grows b a [])
          ⊎ ((halt : Halt) × (status ≡ status_of_halt halt) × HaltsItem halt rules s item b a writes writes') → IsIllBy status reads reads' writes writes'
      item_ill s item status b a reads reads' writes writes' (inl stops) =
          limit_ill status reads reads' writes writes' (items_stop s item status stops.0)
      item_ill s item status b a reads reads' writes writes' (inr (halt, is, h)) =
          let ill : IsIllBy (status_of_halt halt) reads reads' writes writes' =
          halt_ill halt reads reads' writes writes' (halts_rise halt s item b a writes writes' h) in
          rw is ill

      -- the run ended as the lanes did, or for another reason
      pub as_lanes_or_ill : (status : Status) → EndsBy sending rules start first first' second second' before after status
          → EndsAsLanes sending rules start first first' second second' before after status
          ⊎ IsIllBy status before.replies.faults after.replies.faults before.faults after.faults
      as_lanes_or_ill status (inl s) =
          inr (ill_since status before.replies.faults s.mid.replies.faults after.replies.faults before.faults s.mid.faults after.faults s.drove.reads
          s.drove.writes
          (item_ill s.state s.item status s.mid.written after.written s.mid.replies.faults after.replies.faults s.mid.faults after.faults s.stops))
      as_lanes_or_ill status (inr (inl s)) =
          inr (stops_ill s.state status _ _ _ _ _ _ before.replies.faults s.mid.replies.faults after.replies.faults before.faults s.mid.faults after.faults
          s.drove.reads s.drove.writes (λ last. by_reply s.state status s.waits last.is) s.stops)
      as_lanes_or_ill status (inr (inr (inl s))) =
          inr (stops_ill s.all.state status _ _ _ _ _ _ before.replies.faults s.mid.replies.faults after.replies.faults before.faults s.mid.faults after.faults
          s.all.drove.reads s.all.drove.writes (λ last. s.ill) s.stops)
      as_lanes_or_ill status (inr (inr (inr (inl s)))) = inl s
      as_lanes_or_ill status (inr (inr (inr (inr s)))) = inr (rw s.0 tt)

      done_by : (status : Status) → status ≡ statuses.Done → before.reading ≡ unread → EndsAsLanes sending rules start first first' second second' before after
          status ⊎ IsIllBy status before.replies.faults after.replies.faults before.faults after.faults
          → TakesAllOf sending rules start first.left second.left before.replies.left after.replies.left before.written after.written
      done_by status done fresh (inl s) =
          takes_whole fresh (subst (λ (x : Status). EndsAsLanes sending rules start first first' second second' before after x) done s)
      done_by status done fresh (inr ill) =
          let none : IsIllBy statuses.Done before.replies.faults after.replies.faults before.faults after.faults =
          subst (λ (x : Status). IsIllBy x before.replies.faults after.replies.faults before.faults after.faults) done ill in
          absurd none

      -- the run is done
      pub done_whole : (status : Status) → before.reading ≡ unread → EndsBy sending rules start first first' second second' before after status
          → status ≡ statuses.Done
          → TakesAllOf sending rules start first.left second.left before.replies.left after.replies.left before.written after.written
      done_whole status fresh ends done = done_by status done fresh (as_lanes_or_ill status ends)

      write_by : (status : Status) → status ≡ statuses.WriteFault → EndsAsLanes sending rules start first first' second second' before after status
          ⊎ IsIllBy status before.replies.faults after.replies.faults before.faults after.faults → Rose before.faults after.faults
      write_by status is (inl s) =
          let none : IsLaneStatus statuses.WriteFault = subst IsLaneStatus (sym s.is ∙ is) (lanes_status rules.name s.end s.end') in
          absurd none
      write_by status is (inr ill) = subst (λ (x : Status). IsIllBy x before.replies.faults after.replies.faults before.faults after.faults) is ill

      pub write_fault : (status : Status) → EndsBy sending rules start first first' second second' before after status → status ≡ statuses.WriteFault
          → Rose before.faults after.faults
      write_fault status ends is = write_by status is (as_lanes_or_ill status ends)

      opened_by : (status : Status) (lane : LaneName) → status ≡ statuses.OpenFault lane → EndsAsLanes sending rules start first first' second second' before
          after status ⊎ IsIllBy status before.replies.faults after.replies.faults before.faults after.faults → ⊥
      opened_by status lane is (inl s) = subst IsLaneStatus (sym s.is ∙ is) (lanes_status rules.name s.end s.end')
      opened_by status lane is (inr ill) = subst (λ (x : Status). IsIllBy x before.replies.faults after.replies.faults before.faults after.faults) is ill

      -- both files are open
      pub no_open_fault : (status : Status) → EndsBy sending rules start first first' second second' before after status → (lane : LaneName)
          → status ≢ statuses.OpenFault lane
      no_open_fault status ends lane is = opened_by status lane is (as_lanes_or_ill status ends)

      read_by : (status : Status) (lane : LaneName) → status ≡ statuses.ReadFault lane → EndsAsLanes sending rules start first first' second second' before
          after status ⊎ IsIllBy status before.replies.faults after.replies.faults before.faults after.faults
          → ((lane ≡ lanes.Input) × Rose before.replies.faults after.replies.faults)
          ⊎ (((lane ≡ rules.name First) × Rose first.faults first'.faults) ⊎ ((lane ≡ rules.name Second) × Rose second.faults second'.faults))
      read_by status lane is (inl s) =
          let faults = laws.faults first first' second second' s.all.items s.end s.end' s.all.lanes in
          inr (rise faults (lanes_read rules.name lane s.end s.end' (sym is ∙ s.is)))
        where
          rise : (s.end ≡ ReadFault → Rose first.faults first'.faults) × (s.end' ≡ ReadFault → Rose second.faults second'.faults)
              → ((lane ≡ rules.name First) × (s.end ≡ ReadFault)) ⊎ ((lane ≡ rules.name Second) × (s.end' ≡ ReadFault))
              → ((lane ≡ rules.name First) × Rose first.faults first'.faults) ⊎ ((lane ≡ rules.name Second) × Rose second.faults second'.faults)
          rise faults (inl one) = inl (one.0, faults.0 one.1)
          rise faults (inr two) = inr (two.0, faults.1 two.1)
      read_by status lane is (inr ill) = inl (subst (λ (x : Status). IsIllBy x before.replies.faults after.replies.faults before.faults after.faults) is ill)

      -- the input or a file wasn't read
      pub read_fault : (status : Status) → EndsBy sending rules start first first' second second' before after status → (lane : LaneName)
          → status ≡ statuses.ReadFault lane
          → ((lane ≡ lanes.Input) × Rose before.replies.faults after.replies.faults)
          ⊎ (((lane ≡ rules.name First) × Rose first.faults first'.faults) ⊎ ((lane ≡ rules.name Second) × Rose second.faults second'.faults))
      read_fault status ends lane is = read_by status lane is (as_lanes_or_ill status ends)
