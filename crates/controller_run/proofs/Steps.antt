-- What a line or an item is to the core, and what is written of it.
use Rattle.std.proofs.Common.{◌≡◌, ℕ, List, Option, Some, None, Ok, inr, ◌++◌, refl, sym, ap, ◌∙◌}
use Rattle.std.specs.Prelude.{IsSome}
use Rattle.kube_model.specs.declared.event.Event.{Event}
use Rattle.kube_model.specs.declared.event.ListGroup.{ListGroup}
use Rattle.kube_model.specs.declared.put.Put.{Put}
use Rattle.kube_model.specs.declared.reply.PutReply.{PutReply}
use Rattle.kube_events.specs.Event.{event_of_line}
use Rattle.kube_lines.specs.OutputLines.{took_text}
use Rattle.kube_lines.specs.ReplyLines.{reply_of}
use Rattle.object_cache.specs.declared.change.TakeNote.{TakeNote}
use Rattle.object_cache.specs.declared.change.TakeNote.TheVariants.{Quiet}
use Rattle.core_rules.specs.Core.{State}
use Rattle.core_rules.specs.Replied.{core_reply}
use Rattle.core_rules.specs.Take.{core_expired}
use Rattle.core_drive.specs.Drive.{TranscriptEntry, ListExpired, with_turns, hearing, expiring, turns_from}
use Rattle.mlb_edge.specs.declared.lines.Line.{Line}
use Rattle.mlb_edge.specs.Written.{Grows}
use Rattle.lane_drive.specs.LaneRules.{BreaksItem, RefusesItem}
use Rattle.lane_mail.specs.declared.item.Item.{Item}
use Rattle.line_run.specs.declared.halt.Halt.{Halt}
use Rattle.line_run.specs.declared.halt.Halt.TheVariants.{WriteFault, NoMemory}
use Rattle.line_run.specs.declared.halt.Refusal.TheVariants.{Halted}
use Rattle.line_run.specs.Machine.{Transition, Goes}
use Rattle.line_run.specs.Steps.{Takes, Breaks, Refuses}
use Rattle.line_run.specs.Text.{Halts, line_of}
use Rattle.line_run.proofs.Refusals.{broken}
use Rattle.controller_run.specs.Lanes.{name_of, item_step, lane_rules}
use Rattle.controller_run.specs.Output.{output_of}
use Rattle.program_lines.specs.Lines.{note_text}
use Rattle.controller_run.specs.Stream.{arrival, Enters, event_step, goes_by, line_step, step_where, controller_rules}

meant : (o : Option Put) (s : State) (line : Line) (reply : PutReply) → IsSome o → ((put : Put) → o ≡ Some put → reply_of put line.bytes ≡ Some reply)
    → step_where o s line ≡ goes_by (hearing s reply)
meant None s line reply some gives = absurd (cc)
meant (Some put) s line reply some gives = rw (gives put refl) refl

-- a reply is heard
module _ (s t : State) (line : Line) (reply : PutReply) (some : IsSome s.out) (gives : (put : Put) → s.out ≡ Some put → reply_of put line.bytes ≡ Some reply)
    (leads : t ≡ core_reply s reply) where
  pub hears : (u : State) (before after : Option (List ℕ)) → u ≡ (turns_from t).core → Grows before after (output_of (turns_from t).entries)
      → Takes controller_rules s u line before after
  hears u before after core wrote = record {
    entries = (hearing s reply).entries;
    steps = meant s.out s line reply some gives
        ∙ ap (λ (next : State). let step : Transition State TranscriptEntry = Goes next (hearing s reply).entries in step) (sym (rw leads at core));
    wrote = rw leads at wrote;
  }

  pub hears_broken : (halt : Halt) (before after : Option (List ℕ)) (k n : ℕ) → Halts halt (output_of (turns_from t).entries) before after k n
      → Breaks halt controller_rules s line before after k n
  hears_broken halt before after k n h = record {
    next = (hearing s reply).core;
    entries = (hearing s reply).entries;
    steps = meant s.out s line reply some gives;
    halts = rw leads at h;
  }

-- the watch of one list expires
pub enters_lapse : (s t : State) (group : ListGroup) → t ≡ core_expired s group → Enters (goes_by (expiring s group)) Quiet t
enters_lapse s t group leads =
    record { entry = ListExpired group; steps = ap (λ (u : State). goes_by (with_turns (ListExpired group) u)) (sym leads); text = refl }

-- what an event of a line is to the core
pub means_event : (s : State) (line : Line) (event : Event) → s.out ≡ None → event_of_line line.bytes ≡ Ok event → line_step s line ≡ arrival s event
means_event s line event none reads = ap (λ (out : Option Put). step_where out s line) none ∙ ap (event_step s line) reads

-- the text of an item that is taken isn't written whole
item_broken : (halt : Halt) (s : State) (item : Item) (before after : Option (List ℕ)) (k n : ℕ) → BreaksItem halt lane_rules s item before after k n
    → RefusesItem (Halted halt) lane_rules s item before after k n
item_broken WriteFault s item before after k n b = b
item_broken NoMemory s item before after k n b = inr b

-- what arrives is entered
module _ (step : Transition State TranscriptEntry) (note : TakeNote) (t : State) (enters : Enters step note t) where
  -- what is told of it
  abbrev told : List ℕ
  told = note_text note ++ output_of (turns_from t).entries

  told_is : told ≡ output_of (with_turns enters.entry t).entries
  told_is = ap (λ (text : List ℕ). text ++ output_of (turns_from t).entries) (sym enters.text)

  leads_to : (u : State) → u ≡ (turns_from t).core → step ≡ Goes u (with_turns enters.entry t).entries
  leads_to u core = enters.steps ∙ ap (λ (next : State). let step : Transition State TranscriptEntry = Goes next (with_turns enters.entry t).entries in step)
      (sym core)

  pub takes : (s u : State) (line : Line) (before after : Option (List ℕ)) → line_step s line ≡ step → u ≡ (turns_from t).core → Grows before after told
      → Takes controller_rules s u line before after
  takes s u line before after means core wrote =
      record { entries = (with_turns enters.entry t).entries; steps = means ∙ leads_to u core; wrote = rw told_is at wrote }

  pub line_halts : (halt : Halt) (s : State) (line : Line) (before after : Option (List ℕ)) (k n : ℕ) → line_step s line ≡ step
      → Halts halt told before after k n
      → Refuses (Halted halt) controller_rules s line before after k n
  line_halts halt s line before after k n means h =
      broken halt controller_rules s line before after k n
      (record { next = (turns_from t).core; entries = (with_turns enters.entry t).entries; steps = means ∙ enters.steps; halts = rw told_is at h })

  pub item_halts : (halt : Halt) (s : State) (item : Item) (before after : Option (List ℕ)) (k n : ℕ) → item_step s item ≡ step
      → Halts halt (line_of (took_text (name_of item.lane) item.number) ++ told) before after k n → RefusesItem (Halted halt) lane_rules s item before after k n
  item_halts halt s item before after k n means h =
      item_broken halt s item before after k n
      (record { next = (turns_from t).core; entries = (with_turns enters.entry t).entries; steps = means ∙ enters.steps; halts = rw told_is at h })
