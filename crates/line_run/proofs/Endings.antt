-- What stands after each status.
use Rattle.std.proofs.Common.{◌≡◌, ◌⊎◌, ℕ, ◌≤◌, List, [], ◌∷◌, Option, inl, inr, refl, arith}
use Rattle.std.specs.Io.KnownBytes.{IsAtEnd}
use Rattle.kube_model.specs.declared.status.What.{What}
use Rattle.kube_model.specs.declared.status.What.TheVariants as whats
use Rattle.kube_model.specs.declared.status.Status.{Status}
use Rattle.kube_model.specs.declared.status.Status.TheVariants.{Done, Usage, OpenFault, ReadFault, WriteFault, BadLine, BadReply, NoReply, Limit, NoMemory}
use Rattle.mlb_edge.specs.Causes.{Rose}
use Rattle.mlb_edge.specs.declared.lines.Line.{Line}
use Rattle.mlb_edge.specs.declared.lines.LineEnd.{LineEnd}
use Rattle.mlb_edge.specs.declared.lines.LineEnd.TheVariants as ends
use Rattle.mlb_edge.specs.InputLines.{Input, Whole, LongLine, LongInput, Follows, EndsAs, to_come, Passes}
use Rattle.mlb_edge.specs.Reading.{Reading}
use Rattle.mlb_edge.specs.Written.{Grows}
use Rattle.line_run.specs.declared.halt.Halt.{Halt}
use Rattle.line_run.specs.declared.halt.Halt.TheVariants as halts
use Rattle.line_run.specs.declared.halt.Refusal.{Refusal}
use Rattle.line_run.specs.declared.halt.Refusal.TheVariants.{Stopped, Halted}
use Rattle.line_run.specs.Ended.{status_of_end, status_of_halt, status_of_refusal}
use Rattle.line_run.specs.Ends.{IsUnread, Ends}
use Rattle.line_run.specs.Explains.{LimitStops, Explains}
use Rattle.line_run.specs.Machine.{Stops, Rules}
use Rattle.line_run.specs.Statuses.{IsHeld, IsLineStatus, IsEndStatus}
use Rattle.line_run.specs.Steps.{Refuses, HaltsAt}
use Rattle.line_run.specs.RunOutput.{StopsAs, WritesOnly, WritesRead, WritesUpTo}
use Rattle.line_run.proofs.Driven.{Driven, still, stops, stops_at, writes_upto, writes_upto_line, writes_in_part, writes_read, only_upto}
use Rattle.line_run.proofs.Texts.{part_upto}

module _ {S E : Type 0} (rules : Rules S E) (cause : Status → Type 0) (first : S) (start left before after : Option (List ℕ))
    (reads reads' writes writes' : ℕ) where
  held_stops : (what : What) (count : ℕ) → IsHeld what → cause (Limit what count) → StopsAs rules first start before after (Limit what count)
      → LimitStops rules cause first start before after what count
  held_stops whats.Line count held caused stops = absurd held
  held_stops whats.Input count held caused stops = absurd held
  held_stops whats.Services count held caused stops = record { caused = caused; stops = stops }
  held_stops whats.Nodes count held caused stops = record { caused = caused; stops = stops }

  -- the run stopped at a line
  line_stops : (status : Status) → IsLineStatus status → cause status → StopsAs rules first start before after status
      → Explains rules cause first status start left before after reads reads' writes writes'
  line_stops (BadLine lane number bytes) is caused stops = (is, record { caused = caused; stops = stops })
  line_stops (BadReply number bytes) is caused stops = record { caused = caused; stops = stops }
  line_stops (Limit what count) is caused stops = held_stops what count is caused stops
  line_stops Done is caused stops = absurd is
  line_stops Usage is caused stops = absurd is
  line_stops (OpenFault lane) is caused stops = absurd is
  line_stops (ReadFault lane) is caused stops = absurd is
  line_stops WriteFault is caused stops = absurd is
  line_stops (NoReply put) is caused stops = absurd is
  line_stops NoMemory is caused stops = absurd is

  -- the run stopped at the end of the input
  end_stops : (status : Status) → IsEndStatus status → cause status → StopsAs rules first start before after status → IsAtEnd left
      → Explains rules cause first status start left before after reads reads' writes writes'
  end_stops Done is caused stops at = (record { caused = caused; stops = stops }, at)
  end_stops (NoReply put) is caused stops at = (record { caused = caused; stops = stops }, at)
  end_stops Usage is caused stops at = absurd is
  end_stops (OpenFault lane) is caused stops at = absurd is
  end_stops (ReadFault lane) is caused stops at = absurd is
  end_stops WriteFault is caused stops at = absurd is
  end_stops (BadLine lane number bytes) is caused stops at = absurd is
  end_stops (BadReply number bytes) is caused stops at = absurd is
  end_stops (Limit what count) is caused stops at = absurd is
  end_stops NoMemory is caused stops at = absurd is

  pub explains_end : (now : Option Input) (s : S) (status : Status) → Driven rules first start now s before after → EndsAs now Whole → IsAtEnd left
      → IsEndStatus (rules.end s) × cause (rules.end s)
      → (status ≡ rules.end s) ⊎ (status ≡ NoMemory) → Explains rules cause first status start left before after reads reads' writes writes'
  explains_end now s status so_far ends at can (inl is) =
      rw is (end_stops (rules.end s) can.0 can.1 (stops rules first start now s before after Whole so_far ends) at)
  explains_end now s status so_far ends at can (inr is) = rw is (writes_upto rules first start now s before after so_far)

  -- the reader refuses
  pub explains_refusal : (now : Option Input) (s : S) (status : Status) (end : LineEnd) → status ≡ status_of_end end
      → Driven rules first start now s before after → ((number : ℕ) → end ≡ ends.LineLimit number → EndsAs now (LongLine number))
      → (end ≡ ends.InputLimit → EndsAs now LongInput) → (end ≡ ends.ReadFault → WritesRead rules first start left before after × Rose reads reads')
      → Explains rules cause first status start left before after reads reads' writes writes'
  explains_refusal now s status ends.ReadFault is so_far long far read = let r = read refl in rw is (refl, r.0, r.1)
  explains_refusal now s status (ends.LineLimit number) is so_far long far read =
      rw is (refl, stops rules first start now s before after (LongLine number) so_far (long number refl))
  explains_refusal now s status ends.InputLimit is so_far long far read = rw is (refl, stops rules first start now s before after LongInput so_far (far refl))
  explains_refusal now s status ends.NoMemory is so_far long far read = rw is (writes_upto rules first start now s before after so_far)

-- a line isn't taken
module _ {S E : Type 0} (rules : Rules S E) (cause : Status → Type 0) (first : S) (start left : Option (List ℕ)) (now next : Option Input) (s : S)
    (before mid after : Option (List ℕ)) (line : Line)
    (so_far : Driven rules first start now s before mid) (comes : Follows now (line ∷ []) next)
    (can : (status : Status) → rules.step s line ≡ Stops status → IsLineStatus status × cause status)
    (reads reads' writes m n : ℕ) (later : writes ≤ m) where
  halts_line : (halt : Halt) → HaltsAt halt rules s line mid after m n
      → Explains rules cause first (status_of_halt halt) start left before after reads reads' writes n
  halts_line halts.WriteFault e =
      (writes_in_part rules first start now next s e.next before mid after line e.entries so_far comes e.steps e.halts.0, omega (arith, e.halts.1, later))
  halts_line halts.NoMemory (inl nothing) = writes_upto rules first start now s before after (still rules first start now s before mid after so_far nothing)
  halts_line halts.NoMemory (inr e) = writes_upto_line rules first start now next s e.next before mid after line e.entries so_far comes e.steps e.halts

  pub explains_line : (refusal : Refusal) → Refuses refusal rules s line mid after m n
      → Explains rules cause first (status_of_refusal refusal) start left before after reads reads' writes n
  explains_line (Stopped status) e =
      let c = can status e.0 in
      line_stops rules cause first start left before after reads reads' writes n status c.0 c.1
      (stops_at rules first start now next s before after line status (still rules first start now s before mid after so_far e.1) comes e.0)
  explains_line (Halted halt) e = halts_line halt e

  upto_halted : (halt : Halt) → HaltsAt halt rules s line mid after m n → WritesUpTo rules first start before after
  upto_halted halts.WriteFault e =
      writes_upto_line rules first start now next s e.next before mid after line e.entries so_far comes e.steps (part_upto mid after _ e.halts.0)
  upto_halted halts.NoMemory (inl nothing) = writes_upto rules first start now s before after (still rules first start now s before mid after so_far nothing)
  upto_halted halts.NoMemory (inr e) = writes_upto_line rules first start now next s e.next before mid after line e.entries so_far comes e.steps e.halts

  pub upto_line : (refusal : Refusal) → Refuses refusal rules s line mid after m n → WritesUpTo rules first start before after
  upto_line (Stopped status) e = writes_upto rules first start now s before after (still rules first start now s before mid after so_far e.1)
  upto_line (Halted halt) e = upto_halted halt e

-- a step ends the run
module _ {S E : Type 0} (rules : Rules S E) (cause : Status → Type 0) (first : S) (start : Option (List ℕ)) (old new : Reading) (left left' : Option (List ℕ))
    (s : S) (before mid after : Option (List ℕ))
    (so_far : Driven rules first start (to_come old left) s before mid) (passes : Passes (record { held = []; passed = 0; number = 0 }) new start left')
    (can : (line : Line) (status : Status) → rules.step s line ≡ Stops status → IsLineStatus status × cause status)
    (can_end : IsEndStatus (rules.end s) × cause (rules.end s))
    (reads k k' writes m m' : ℕ) (reads_later : reads ≤ k) (writes_later : writes ≤ m) (status : Status) where
  unread_explains : IsUnread status (to_come old left) (to_come new left') new.held k k' → Grows mid after []
      → Explains rules cause first status start left' before after reads k' writes m'
  unread_explains unread nothing =
      let now : Driven rules first start (to_come old left) s before after = still rules first start (to_come old left) s before mid after so_far nothing in
      explains_refusal rules cause first start left' before after reads k' writes m' (to_come old left) s status unread.end unread.is now unread.long_line
      unread.long_input (λ e.
      let failed = unread.failed e in
      let rose = failed.1 in
      (writes_read rules first start left' old new left s before after now unread.same passes failed.0, omega (arith, rose, reads_later)))

  pub explains_step : Ends rules s status (to_come old left) (to_come new left') new.held left' mid after k k' m m'
      → Explains rules cause first status start left' before after reads k' writes m'
  explains_step (inl (last, nothing)) =
      explains_end rules cause first start left' before after reads k' writes m' (to_come old left) s status
      (still rules first start (to_come old left) s before mid after so_far nothing) last.ends last.at_end can_end last.is
  explains_step (inr (inl (unread, nothing))) = unread_explains unread nothing
  explains_step (inr (inr u)) =
      rw u.is (explains_line rules cause first start left' (to_come old left) (to_come new left') s before mid after u.line so_far u.comes (can u.line) reads k'
      writes m m' writes_later u.refusal u.refuses)

  upto_step : Ends rules s status (to_come old left) (to_come new left') new.held left' mid after k k' m m' → WritesUpTo rules first start before after
  upto_step (inl (last, nothing)) =
      writes_upto rules first start (to_come old left) s before after (still rules first start (to_come old left) s before mid after so_far nothing)
  upto_step (inr (inl (unread, nothing))) =
      writes_upto rules first start (to_come old left) s before after (still rules first start (to_come old left) s before mid after so_far nothing)
  upto_step (inr (inr u)) =
      upto_line rules cause first start left' (to_come old left) (to_come new left') s before mid after u.line so_far u.comes (can u.line) reads k' writes m m'
      writes_later u.refusal u.refuses

  pub only_step : Ends rules s status (to_come old left) (to_come new left') new.held left' mid after k k' m m' → WritesOnly rules first start before after
  only_step ended = only_upto rules first start before after (upto_step ended)
