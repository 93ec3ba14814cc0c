-- Which statuses a run over two lanes may have.
use Rattle.std.proofs.Common.{◌≡◌, ◌≢◌, ◌⊎◌, inl, inr, ℕ, ◌+◌, Bool, true, false, List, [], Option, Some, None, is_some, refl, sym, subst}
use Rattle.core_rules.specs.Core.{State}
use Rattle.kube_model.specs.declared.put.Put.{Put}
use Rattle.kube_model.specs.declared.status.LaneName.{LaneName}
use Rattle.kube_model.specs.declared.status.Status.{Status}
use Rattle.kube_model.specs.declared.status.Status.TheVariants as statuses
use Rattle.kube_model.specs.declared.status.LaneName.TheVariants as names
use Rattle.kube_model.specs.declared.status.What.TheVariants as whats
use Rattle.lane_drive.specs.Clauses.{AtEnd, AtOpenFault, FailsToOpen, OnlyWrites, unread}
use Rattle.lane_drive.specs.Files.{FilesState}
use Rattle.lane_drive.specs.LaneRules.{HaltsItem, reply_rules}
use Rattle.lane_drive.specs.Stops.{StopsReading, EndsSo, status_of_lanes}
use Rattle.lane_mail.specs.declared.lane.Lane.{Lane}
use Rattle.lane_mail.specs.declared.lane.Lane.TheVariants.{First, Second}
use Rattle.lane_run.specs.LaneInputs.{lane_input, no_items}
use Rattle.lane_run.specs.Watched.{Begins}
use Rattle.lane_run.specs.Outside.{SourceState, Outside, outside}
use Rattle.lane_run.specs.declared.lane_end.LaneEnd.{LaneEnd}
use Rattle.lane_run.specs.declared.lane_end.LaneEnd.TheVariants as lane_ends
use Rattle.line_run.specs.declared.halt.Halt.{Halt}
use Rattle.line_run.specs.declared.halt.Halt.TheVariants as halts
use Rattle.line_run.specs.declared.halt.Refusal.{Refusal}
use Rattle.line_run.specs.declared.halt.Refusal.TheVariants.{Stopped, Halted}
use Rattle.line_run.specs.Ended.{status_of_end, status_of_halt, status_of_refusal}
use Rattle.line_run.specs.Machine.{Stops}
use Rattle.line_run.specs.Steps.{Refuses}
use Rattle.object_cache.specs.Limits.{most_services}
use Rattle.controller_run.specs.Causes.{items_past, not_a_reply}
use Rattle.controller_run.specs.LaneClauses.{CanEndLanes, IsWatched}
use Rattle.controller_run.specs.Lanes.{belongs_to, lane_rules, name_of}
use Rattle.line_run.proofs.Texts.{upto_none}
use Rattle.mlb_edge.specs.InputLines.{Whole, Follows-refl, to_come}
use Rattle.mlb_edge.specs.Written.{Grows}
use Rattle.mlb_edge.specs.declared.lines.Line.{Line}
use Rattle.mlb_edge.specs.declared.lines.LineEnd.{LineEnd}
use Rattle.mlb_edge.specs.declared.lines.LineEnd.TheVariants as reader

fair : (status status' : Status) → status ≡ status' → CanEndLanes status' → CanEndLanes status
fair status status' is can = subst CanEndLanes (sym is) can

halt_fair : (halt : Halt) → CanEndLanes (status_of_halt halt)
halt_fair halts.WriteFault = tt
halt_fair halts.NoMemory = tt

reader_fair : (end : LineEnd) → CanEndLanes (status_of_end end)
reader_fair reader.ReadFault = inl refl
reader_fair (reader.LineLimit number) = refl
reader_fair reader.InputLimit = refl
reader_fair reader.NoMemory = tt

-- ---- the replies
end_fair : (o : Option Put) (s : State) → s.out ≡ o → CanEndLanes ((reply_rules lane_rules).end s)
end_fair None s is = rw is tt
end_fair (Some put) s is = rw is tt

step_fair : (b : Bool) (s : State) (line : Line) (status : Status) → is_some s.out ≡ b → (reply_rules lane_rules).step s line ≡ Stops status
    → CanEndLanes status
step_fair true s line status waits e = fair status (statuses.BadReply line.number line.bytes) (not_a_reply s line status waits (rw waits at e)) tt
step_fair false s line status waits e =
    let it : Stops (statuses.BadReply line.number line.bytes) ≡ Stops status = rw waits at e in
    let same : statuses.BadReply line.number line.bytes ≡ status = cc in
    fair status (statuses.BadReply line.number line.bytes) (sym same) tt

refusal_fair : (refusal : Refusal) (s : State) (line : Line) (before after : Option (List ℕ)) (k n : ℕ)
    → Refuses refusal (reply_rules lane_rules) s line before after k n → CanEndLanes (status_of_refusal refusal)
refusal_fair (Stopped status) s line before after k n r = step_fair (is_some s.out) s line status refl r.0
refusal_fair (Halted halt) s line before after k n r = halt_fair halt

reading_fair : (s : State) (status : Status) (mid after : Outside) → StopsReading lane_rules s status mid after → CanEndLanes status
reading_fair s status mid after (inl (last, wrote)) = last_fair last.is
  where
    last_fair : (status ≡ (reply_rules lane_rules).end s) ⊎ (status ≡ statuses.NoMemory) → CanEndLanes status
    last_fair (inl is) = fair status ((reply_rules lane_rules).end s) is (end_fair s.out s refl)
    last_fair (inr is) = fair status statuses.NoMemory is tt
reading_fair s status mid after (inr (inl (unread, wrote))) = fair status (status_of_end unread.end) unread.is (reader_fair unread.end)
reading_fair s status mid after (inr (inr untaken)) =
    fair status (status_of_refusal untaken.refusal) untaken.is
    (refusal_fair untaken.refusal s untaken.line mid.written after.written mid.faults after.faults untaken.refuses)

-- ---- the lanes
second_fair : (end : LaneEnd) → CanEndLanes (status_of_lanes name_of lane_ends.Done end)
second_fair lane_ends.Done = tt
second_fair lane_ends.ReadFault = inr (inr refl)
second_fair (lane_ends.LineLimit number) = refl
second_fair lane_ends.InputLimit = refl
second_fair (lane_ends.BadLine number bytes) = inr refl
second_fair lane_ends.NoMemory = tt

lanes_fair : (end end' : LaneEnd) → CanEndLanes (status_of_lanes name_of end end')
lanes_fair lane_ends.Done end' = second_fair end'
lanes_fair lane_ends.ReadFault end' = inr (inl refl)
lanes_fair (lane_ends.LineLimit number) end' = refl
lanes_fair lane_ends.InputLimit end' = refl
lanes_fair (lane_ends.BadLine number bytes) end' = inl refl
lanes_fair lane_ends.NoMemory end' = tt

module _ (start : State) (first first' second second' : SourceState) (before after : Outside) (status : Status) where
  -- once both files are open
  ends_fair : EndsSo belongs_to lane_rules start first first' second second' before after status → CanEndLanes status
  ends_fair (inl at_item) = item_fair at_item.stops
    where
      item_fair : ((lane_rules.take at_item.state at_item.item ≡ Stops status) × Grows at_item.mid.written after.written [])
          ⊎ ((halt : Halt) × (status ≡ status_of_halt halt)
          × HaltsItem halt lane_rules at_item.state at_item.item at_item.mid.written after.written at_item.mid.faults after.faults) → CanEndLanes status
      item_fair (inl (stops, wrote)) = fair status (statuses.Limit whats.Services (most_services + 1)) (items_past at_item.state at_item.item status stops) refl
      item_fair (inr (halt, is, halts)) = fair status (status_of_halt halt) is (halt_fair halt)
  ends_fair (inr (inl at_reply)) = reading_fair at_reply.state status at_reply.mid after at_reply.stops
  ends_fair (inr (inr (inl behind))) = reading_fair behind.all.state status behind.mid after behind.stops
  ends_fair (inr (inr (inr (inl ended)))) = fair status (status_of_lanes name_of ended.end ended.end') ended.is (lanes_fair ended.end ended.end')
  ends_fair (inr (inr (inr (inr (is, wrote))))) = fair status statuses.NoMemory is tt

module _ (start : State) (file file' : List ℕ) (files files' : FilesState) (first second replies replies' : SourceState) (before after : Option (List ℕ))
    (k n : ℕ) where
  opened_fair : (status : Status) → ((lane : LaneName) → status ≢ statuses.OpenFault lane)
      → AtEnd belongs_to lane_rules start file file' files files' first second replies replies' before after k n status
      → CanEndLanes status
  opened_fair status opened at_end =
      let ended = at_end opened in
      ends_fair start first ended.first' second ended.second' (outside unread replies before k) (outside ended.reading replies' after n) status ended.ends

  unopened_fair : (lane : LaneName) → FailsToOpen lane names.Config file files files' ⊎ FailsToOpen lane names.Service file' files files' → IsWatched lane
  unopened_fair lane (inl fails) = inl fails.0
  unopened_fair lane (inr fails) = inr fails.0

  -- however it ends
  pub lanes_can_end : (status : Status) → AtEnd belongs_to lane_rules start file file' files files' first second replies replies' before after k n status
      → AtOpenFault name_of file file' status files files' → CanEndLanes status
  lanes_can_end statuses.Done at_end opens = tt
  lanes_can_end statuses.Usage at_end opens = opened_fair statuses.Usage (λ lane e. absurd (cc)) at_end
  lanes_can_end (statuses.OpenFault lane) at_end opens = unopened_fair lane (opens.0 lane refl).0
  lanes_can_end (statuses.ReadFault lane) at_end opens = opened_fair (statuses.ReadFault lane) (λ other e. absurd (cc)) at_end
  lanes_can_end statuses.WriteFault at_end opens = tt
  lanes_can_end (statuses.BadLine lane number bytes) at_end opens = opened_fair (statuses.BadLine lane number bytes) (λ other e. absurd (cc)) at_end
  lanes_can_end (statuses.BadReply number bytes) at_end opens = tt
  lanes_can_end (statuses.NoReply put) at_end opens = tt
  lanes_can_end (statuses.Limit what count) at_end opens = opened_fair (statuses.Limit what count) (λ other e. absurd (cc)) at_end
  lanes_can_end statuses.NoMemory at_end opens = tt

-- ---- where nothing was done
begins_nothing : (lane : Lane) (left : Option (List ℕ)) → Begins belongs_to lane left []
begins_nothing lane None = record { input = no_items lane_ends.Done; is = ([], Whole, refl); begins = ([], refl) }
begins_nothing lane (Some bytes) = record { input = lane_input belongs_to lane bytes; is = refl; begins = ((lane_input belongs_to lane bytes).items, refl) }

-- nothing was taken and nothing written
pub writes_nothing : (start : State) (first second replies written : Option (List ℕ))
    → OnlyWrites belongs_to lane_rules start first second replies written written
writes_nothing start first second replies written = record {
  items = [];
  replies = [];
  next = to_come unread replies;
  comes = Follows-refl (to_come unread replies);
  begin = record { firsts = begins_nothing First first; seconds = begins_nothing Second second };
  state = start;
  told = [];
  taken = (refl, refl, refl);
  wrote = upto_none written [];
}

-- so a run ends that there is no memory for
pub ends_unbegun : (start : State) (file file' : List ℕ) (files files' : FilesState) (first second replies : SourceState) (written : Option (List ℕ)) (n : ℕ)
    → AtEnd belongs_to lane_rules start file file' files files' first second replies replies written written n n statuses.NoMemory
ends_unbegun start file file' files files' first second replies written n opened = record {
  first' = first;
  second' = second;
  reading = unread;
  ends = inr (inr (inr (inr (refl, writes_nothing start first.left second.left replies.left written))));
  kept = λ known. absurd (known refl);
}
