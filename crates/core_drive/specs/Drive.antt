-- What arrives at a core, with the turns that follow, as a transcript.
use Rattle.std.specs.Prelude.{List, [], ◌∷◌}
use Rattle.kube_model.specs.declared.event.Event.{Event}
use Rattle.kube_model.specs.declared.event.ListGroup.{ListGroup}
use Rattle.kube_model.specs.declared.key.Key.{Key}
use Rattle.kube_model.specs.declared.reply.PutReply.{PutReply}
use Rattle.object_cache.specs.declared.change.TakeNote.{TakeNote}
use Rattle.core_rules.specs.declared.turn.Turn.{Turn}
use Rattle.core_rules.specs.declared.turn.Turn.TheVariants.{Idle, NoPut, Wants}
use Rattle.core_rules.specs.Core.{State}
use Rattle.core_rules.specs.Take.{core_take, core_note, core_expired}
use Rattle.core_rules.specs.Turn.{core_turn, after_turn}
use Rattle.core_rules.specs.Replied.{core_reply}
use Rattle.core_rules.specs.Run.{TranscriptEntry as CoreEntry, Took as TookByCore, Expired as ExpiredByCore, Turned as TurnedByCore, Heard as HeardByCore}

-- an entry of a transcript
pub data TranscriptEntry : Type 0 where
  Took : (event : Event) → (note : TakeNote) → TranscriptEntry  -- an event was taken, and this is noted of it
  ListExpired : (group : ListGroup) → TranscriptEntry  -- the watch of one list has expired
  Turned : (turn : Turn) → TranscriptEntry  -- a turn came to this
  Heard : (reply : PutReply) → TranscriptEntry  -- the put that was out was answered

-- what was entered, and the core after it
pub record Driven : Type 0 where
  pub entries : List TranscriptEntry
  pub core : State

abbrev pub turned : Turn → State → Driven → Driven
turned Idle s rest = rest
turned (NoPut key pending) s rest = record { entries = Turned (NoPut key pending) ∷ rest.entries; core = rest.core }
turned (Wants put pending) s rest = record { entries = Turned (Wants put pending) ∷ []; core = s }

-- turns up to the first that wants a put, or to the end of the queue; the queue is handed in, since each turn takes one key of it
abbrev pub turns : List Key → State → Driven
turns [] s = record { entries = []; core = s }
turns (key ∷ keys) s = turned (core_turn s) (after_turn s) (turns keys (after_turn s))

-- all turns that can be made before a reply or an event
abbrev pub turns_from : State → Driven
turns_from s = turns s.queue s

-- what was entered, which led to this core, and the turns that follow
abbrev pub with_turns : TranscriptEntry → State → Driven
with_turns entry s =
    let rest = turns_from s in
    record { entries = entry ∷ rest.entries; core = rest.core }

-- an event is taken, and turns follow
abbrev pub taking : State → Event → Driven
taking s event = with_turns (Took event (core_note s event)) (core_take s event)

-- the watch of one list expires, and turns follow
abbrev pub expiring : State → ListGroup → Driven
expiring s group = with_turns (ListExpired group) (core_expired s group)

-- a reply is heard, and turns follow
abbrev pub hearing : State → PutReply → Driven
hearing s reply = with_turns (Heard reply) (core_reply s reply)

abbrev pub core_entry : TranscriptEntry → CoreEntry
core_entry (Took event note) = TookByCore event
core_entry (ListExpired group) = ExpiredByCore group
core_entry (Turned turn) = TurnedByCore turn
core_entry (Heard reply) = HeardByCore reply

-- a transcript as a run of the core, after an earlier one, the newest first
abbrev pub behind : List TranscriptEntry → List CoreEntry → List CoreEntry
behind [] earlier = earlier
behind (entry ∷ later) earlier = behind later (core_entry entry ∷ earlier)
