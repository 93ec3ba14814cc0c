use Rattle.std.proofs.Common.{ℕ, List, Option, inr}
use Rattle.std.proofs.lemmas.Result.{err_from_is_err_and}
use Rattle.lane_drive.specs.LaneRules.{BreaksItem, RefusesItem}
use Rattle.lane_mail.specs.declared.item.Item.{Item}
use Rattle.line_run.specs.declared.halt.Halt.{Halt}
use Rattle.line_run.specs.declared.halt.Halt.TheVariants.{WriteFault, NoMemory}
use Rattle.line_run.specs.declared.halt.Refusal.TheVariants.{Halted}
use Rattle.speaker_machine.specs.Lanes.{lane_rules}
use Rattle.speaker_machine.specs.Stream.{SpeakerState}
use Rattle.speaker_machine.proofs.lanes.drive_item.Goals as goal

item_broken : (halt : Halt) (s : SpeakerState) (item : Item) (before after : Option (List ℕ)) (k n : ℕ) → BreaksItem halt lane_rules s item before after k n
    → RefusesItem (Halted halt) lane_rules s item before after k n
item_broken WriteFault s item before after k n breaks = breaks
item_broken NoMemory s item before after k n breaks = inr breaks

pub returns-in_err-written-clause-err : goal.returns-in_err-written-clause-err
returns-in_err-written-clause-err g c =
    let p = err_from_is_err_and c.from_residual-in_err-written.result c.from_residual-in_err-written.ensures.1 in
    rw (p.1, p.2)
    (item_broken c.in_err-written.field-0.0 c.args.speaker.now c.args.item _ _ _ _ (record {
      next = c.apply_event.new.speaker;
      entries = c.in_ok-entries.entries;
      steps = c.in_ok-entries.ensures.ok;
      halts = rw c.as_slice.ensures at (rw c.in_err-written.was at c.write_item-written.ensures.err);
    }))
