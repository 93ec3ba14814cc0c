-- What arrives at a core and at its fence, with the turns that follow, as a transcript.
use Rattle.std.specs.Prelude.{ℕ, Bool, true, false, List, [], ◌∷◌, ◌++◌, Option, Some, None}
use Rattle.kube_model.specs.declared.event.Event.{Event}
use Rattle.kube_model.specs.declared.key.Key.{Key}
use Rattle.kube_model.specs.declared.put.Put.{Put}
use Rattle.kube_model.specs.declared.reply.PutReply.{PutReply}
use Rattle.core_drive.specs.Drive.{Took, Turned, Heard, TranscriptEntry as CoreEntry}
use Rattle.core_rules.specs.declared.turn.Turn.{Turn}
use Rattle.core_rules.specs.declared.turn.Turn.TheVariants.{Idle, NoPut, Wants}
use Rattle.core_rules.specs.Core.{State, fresh}
use Rattle.core_rules.specs.Replied.{core_reply}
use Rattle.core_rules.specs.Take.{core_note, core_take}
use Rattle.core_rules.specs.Turn.{core_turn, after_turn}
use Rattle.put_fence.specs.declared.answer.Input.{Input}
use Rattle.put_fence.specs.declared.answer.Input.TheVariants as inputs
use Rattle.put_fence.specs.declared.fence.Fence.{Fence}
use Rattle.put_fence.specs.declared.output.Output.{Output}
use Rattle.put_fence.specs.declared.output.Output.TheVariants as outputs
use Rattle.put_fence.specs.declared.output.Taken.{Taken}
use Rattle.put_fence.specs.Fences.{started, taken}

-- a core, and the fence of its puts
pub record FencedState : Type 0 where
  pub core : State
  pub fence : Fence

-- an entry of a transcript
pub data TranscriptEntry : Type 0 where
  OfCore : (entry : CoreEntry) → TranscriptEntry  -- of the core
  Told : (input : Input) → (taken : Taken) → TranscriptEntry  -- the fence was told this, and came to this

-- the core holds nothing, and the fence reads the Lease
abbrev pub begun : Option (List ℕ) → List ℕ → FencedState
begun class name = record { core = fresh class; fence = (started name).fence }

abbrev pub with_core : State → FencedState → FencedState
with_core core s = record s { core = core }

abbrev pub with_fence : Fence → FencedState → FencedState
with_fence fence s = record s { fence = fence }

-- ---- one step

-- what was entered, the state after it, and whether turns follow
pub record Step : Type 0 where
  pub entries : List TranscriptEntry
  pub state : FencedState
  pub goes_on : Bool

abbrev pub behind : TranscriptEntry → Step → Step
behind entry step = record step { entries = entry ∷ step.entries }

-- the reply that the fence gives to the program, if it gives one
abbrev pub given_in : Output → Option PutReply
given_in outputs.Nothing = None
given_in (outputs.Ask request) = None
given_in (outputs.Again request) = None
given_in (outputs.Reply reply) = Some reply
given_in outputs.Lost = None
given_in outputs.Absent = None
given_in outputs.Unexpected = None

-- where a put is in flight, the core hears the reply that is given
abbrev pub heard : Option Put → Option PutReply → FencedState → Step
heard None given s = record { entries = []; state = s; goes_on = false }
heard (Some put) None s = record { entries = []; state = s; goes_on = false }
heard (Some put) (Some reply) s = record {
  entries = OfCore (Heard reply) ∷ [];
  state = with_core (core_reply s.core reply) s;
  goes_on = true;
}

-- the fence is told this, and gives this
abbrev pub telling_by : Input → Taken → FencedState → Step
telling_by input t s =
    behind (Told input t) (heard s.core.out (given_in t.output) (with_fence t.fence s))

abbrev pub telling : Input → FencedState → Step
telling input s = telling_by input (taken input s.fence) s

-- a turn was made; where it wants a put, the fence is told so
abbrev pub turning_by : Turn → FencedState → Step
turning_by Idle s = record { entries = []; state = s; goes_on = true }
turning_by (NoPut key pending) s =
    record { entries = OfCore (Turned (NoPut key pending)) ∷ []; state = s; goes_on = true }
turning_by (Wants put pending) s =
    behind (OfCore (Turned (Wants put pending))) (telling (inputs.Put put) s)

abbrev pub turning : FencedState → Step
turning s = turning_by (core_turn s.core) (with_core (after_turn s.core) s)

-- ---- and turns

-- what was entered, and the state after it
pub record Driven : Type 0 where
  pub entries : List TranscriptEntry
  pub state : FencedState

abbrev pub driven_by : Bool → Step → (FencedState → Driven) → Driven
driven_by true step rest = record {
  entries = step.entries ++ (rest step.state).entries;
  state = (rest step.state).state;
}
driven_by false step rest = record { entries = step.entries; state = step.state }

-- turns follow where the step goes on
abbrev pub driven : Step → (FencedState → Driven) → Driven
driven step rest = driven_by step.goes_on step rest

-- turns up to the first whose put the fence doesn't reply to at once, or to the end of the queue;
-- the queue is handed in, since each turn takes one key of it
abbrev pub turns : List Key → FencedState → Driven
turns [] s = record { entries = []; state = s }
turns (key ∷ keys) s = driven (turning s) (λ next. turns keys next)

-- all turns that can be made before an answer or an event
abbrev pub turns_from : FencedState → Driven
turns_from s = turns s.core.queue s

-- ---- what arrives

-- an event was entered
abbrev pub entering : Event → FencedState → Step
entering event s = record {
  entries = OfCore (Took event (core_note s.core event)) ∷ [];
  state = with_core (core_take s.core event) s;
  goes_on = true;
}

-- an event is taken, and turns follow
abbrev pub taking : Event → FencedState → Driven
taking event s = driven (entering event s) turns_from

-- the fence is told this, and where the core hears a reply turns follow
abbrev pub told : Input → FencedState → Driven
told input s = driven (telling input s) turns_from
