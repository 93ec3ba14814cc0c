-- What a call makes of a core and its fence, as contracts see it.
use Rattle.std.specs.Prelude.{◌≡◌, ◌⊎◌, ℕ, ◌+◌, Bool, List, [], Option, false, true}
use Rattle.std.specs.List.{flat_map}
use Rattle.kube_model.specs.declared.event.Event.{Event}
use Rattle.core_rules.specs.Core.{State}
use Rattle.core_rules.specs.Take.{core_note, core_take, limits}
use Rattle.kube_model.specs.declared.status.What.TheVariants as whats
use Rattle.kube_model.specs.declared.status.Status.TheVariants.{Limit}
use Rattle.line_run.specs.declared.halt.Halt.{Halt}
use Rattle.line_run.specs.declared.halt.Halt.TheVariants as halts
use Rattle.line_run.specs.declared.halt.Refusal.{Refusal}
use Rattle.line_run.specs.declared.halt.Refusal.TheVariants.{Stopped, Halted}
use Rattle.line_run.specs.Machine.{Transition, Goes, Stops}
use Rattle.line_run.specs.Text.{Halts}
use Rattle.mlb_edge.specs.Written.{Grows}
use Rattle.object_cache.specs.Limits.{most_services}
use Rattle.object_cache.specs.declared.change.TakeNote.{TakeNote}
use Rattle.put_fence.specs.declared.fence.Fence.{Fence}
use Rattle.fenced_run.specs.Drive.{Driven, FencedState, Step, TranscriptEntry}
use Rattle.fenced_run.specs.Stream.{entry_text}

abbrev pub state_of : State → Fence → FencedState
state_of core fence = record { core = core; fence = fence }

-- what is written of entries
abbrev pub entries_text : List TranscriptEntry → List ℕ
entries_text entries = flat_map entry_text entries

abbrev pub step_text : Step → List ℕ
step_text step = entries_text step.entries

abbrev pub driven_text : Driven → List ℕ
driven_text driven = entries_text driven.entries

-- it led to this state, and turns follow, if they do
pub record Steps (goes_on : Bool) (s : FencedState) (step : Step) : Type 0 where
  pub state : s ≡ step.state
  pub more : goes_on ≡ step.goes_on

-- the event was entered, which led to this core, and this is noted of it
pub record Enters (s : State) (event : Event) (note : TakeNote) (t : State) : Type 0 where
  pub within : limits s event ≡ false
  pub core : t ≡ core_take s event
  pub noted : note ≡ core_note s event

-- why an event isn't taken: with it one service more would be held than may be, or memory is wanting
abbrev pub IsUntaken : Refusal → State → Event → Type 0
IsUntaken (Stopped status) s event =
    (limits s event ≡ true) × (status ≡ Limit whats.Services (most_services + 1))
IsUntaken (Halted halt) s event = halt ≡ halts.NoMemory

-- ---- one line

-- what arrives is taken, and its text is written
pub record TakesStep (step : Transition FencedState TranscriptEntry) (t : FencedState) (before after : Option (List ℕ)) : Type 0 where
  pub entries : List TranscriptEntry
  pub steps : step ≡ Goes t entries
  pub wrote : Grows before after (entries_text entries)

-- it can be taken, and its text isn't written whole
pub record BreaksStep (halt : Halt) (step : Transition FencedState TranscriptEntry) (before after : Option (List ℕ)) (faults faults' : ℕ) : Type 0 where
  pub next : FencedState
  pub entries : List TranscriptEntry
  pub steps : step ≡ Goes next entries
  pub halts : Halts halt (entries_text entries) before after faults faults'

abbrev pub HaltsStep : Halt → Transition FencedState TranscriptEntry → Option (List ℕ) → Option (List ℕ) → ℕ → ℕ → Type 0
HaltsStep halts.WriteFault step before after faults faults' = BreaksStep halts.WriteFault step before after faults faults'
HaltsStep halts.NoMemory step before after faults faults' =
    Grows before after [] ⊎ BreaksStep halts.NoMemory step before after faults faults'

-- why it isn't taken: the run stops at it, or what it comes to isn't written whole
abbrev pub RefusesStep : Refusal → Transition FencedState TranscriptEntry → Option (List ℕ) → Option (List ℕ) → ℕ → ℕ → Type 0
RefusesStep (Stopped status) step before after faults faults' = (step ≡ Stops status) × Grows before after []
RefusesStep (Halted halt) step before after faults faults' = HaltsStep halt step before after faults faults'
