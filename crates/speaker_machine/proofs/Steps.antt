-- What a line is to a view, and what is written of it.
use Rattle.std.proofs.Common.{◌≡◌, ◌↔◌, ℕ, suc, ◌+◌, ◌<◌, List, ◌∷◌, ◌++◌, length, get_or, drop, drop-cons}
use Rattle.std.proofs.Common.{add-one, Option, Some, None, Result, Ok, Err, refl, sym, ap, ◌∙◌}
use Rattle.kube_events.specs.Event.{event_of_line}
use Rattle.kube_model.specs.declared.event.Event.{Event}
use Rattle.kube_model.specs.declared.event.Event.TheVariants.{Changed, Deleted, ListEnd, Expired, Members, Frame, Ignored}
use Rattle.kube_model.specs.declared.object.Kind.{Kind}
use Rattle.object_cache.specs.declared.change.TakeNote.{TakeNote}
use Rattle.object_cache.specs.declared.change.ApplyFault.{ApplyFault}
use Rattle.object_cache.specs.declared.change.ApplyFault.TheVariants.{Limit}
use Rattle.std.specs.Prelude.{IfOk, map}
use Rattle.std.specs.List.{flat_map}
use Rattle.ip_ranges.specs.Values.{AddressValue}
use Rattle.l2_elect.specs.Kept.{AreKeptFor}
use Rattle.announced_set.specs.Changes.{AreComeSince, AreWithdrawn}
use Rattle.speaker_view.specs.declared.change.ViewChange.{ViewChange}
use Rattle.speaker_view.specs.ViewValue.{ViewValue}
use Rattle.speaker_view.specs.View.{view_after, note_by, limit_by}
use Rattle.mlb_edge.specs.declared.lines.Line.{Line}
use Rattle.line_run.specs.declared.halt.Halt.{Halt}
use Rattle.line_run.specs.Machine.{Goes}
use Rattle.line_run.specs.Run.{text_of}
use Rattle.line_run.specs.Steps.{Breaks}
use Rattle.line_run.specs.Text.{Halts}
use Rattle.announced_set.specs.Announced.{announced_by}
use Rattle.speaker_machine.specs.declared.transcript.TranscriptEntry.TheVariants.{Noted}
use Rattle.speaker_machine.specs.Sends.{announcement}
use Rattle.speaker_machine.specs.declared.transcript.TranscriptEntry.{TranscriptEntry}
use Rattle.speaker_machine.specs.declared.local_node.LocalNode.{LocalNode}
use Rattle.speaker_machine.specs.Transcript.{entries_for, entry_text, withdrawn}
use Rattle.speaker_machine.specs.Updates.{update_entries, updates_by}
use Rattle.speaker_machine.specs.Stream.{SpeakerState, Received, state_of, frame_in, changes_of, step_by, speaker_rules}

abbrev Note : Type 0
Note = TakeNote × ViewChange

abbrev noted : Note → Result Note ApplyFault
noted note = Ok note

-- a note was told, so no limit was met
pub no_limit : (note : Note) (o : Option (Kind × ℕ)) → ((kind : Kind) (count : ℕ) → (noted note ≡ Err (Limit kind count)) ↔ (o ≡ Some (kind, count))) → o ≡ None
no_limit note None h = refl
no_limit note (Some p) h = let wrong : noted note ≡ Err (Limit p.0 p.1) = (h p.0 p.1).1 refl in absurd (cc)

abbrev refused : ApplyFault → Result Note ApplyFault
refused fault = Err fault

abbrev unmade : ApplyFault → Result (List TranscriptEntry) ApplyFault
unmade fault = Err fault

-- a fault is handed on
pub handed_on : (fault told : ApplyFault) → unmade fault ≡ unmade told → refused fault ≡ refused told
handed_on fault told e = let same : fault ≡ told = cc in ap refused same

-- what is told where addresses are withdrawn and announced, of whichever view the announcers were
pub entries-told : {E : Type 0} (r : Result (List TranscriptEntry) E) (local : LocalNode) (note : TakeNote) (held : List (AddressValue × List ℕ))
    (v' : ViewValue)
    (gone come : List AddressValue)
    → AreWithdrawn held v' local.node gone → AreComeSince held v' local.node come
    → IfOk r (λ entries. entries ≡ Noted note ∷ map withdrawn gone ++ flat_map (announcement v' local) come)
    → IfOk r (λ entries. (was : ViewValue) → AreKeptFor held was
    → entries ≡ entries_for v' local note (announced_by was local.node) (announced_by v' local.node))
entries-told (Ok entries) local note held v' gone come w a is =
    λ was kept. is ∙ (λ i. Noted note ∷ map withdrawn (w was kept i) ++ flat_map (announcement v' local) (a was kept i))
entries-told (Err e) local note held v' gone come w a is = tt

module _ (v : ViewValue) (local : LocalNode) (event : Event) where
  -- what is told is what the views before and after it say
  pub changes-are : (note : TakeNote) (v' : ViewValue) (entries : List TranscriptEntry)
      → entries ≡ entries_for v' local note (announced_by v local.node) (announced_by v' local.node) ++ updates_by v v' local.node local.next_hops
      → v' ≡ view_after event v → note ≡ note_by v event → entries ≡ changes_of (state_of v local) event
  changes-are note v' entries is w n =
      is
      ∙ ap (λ (m : TakeNote). entries_for v' local m (announced_by v local.node) (announced_by v' local.node) ++ updates_by v v' local.node local.next_hops) n
      ∙ ap (λ (u : ViewValue). entries_for u local (note_by v event) (announced_by v local.node) (announced_by u local.node) ++ update_entries v u local) w

  -- a line that reads as the event is to a state what the event is
  pub breaks : (line : Line) (t : SpeakerState) (halt : Halt) (entries : List TranscriptEntry) (before after : Option (List ℕ)) (k n : ℕ)
      → event_of_line line.bytes ≡ Ok event
      → step_by (state_of v local) event ≡ Goes t entries → Halts halt (text_of speaker_rules entries) before after k n
      → Breaks halt speaker_rules (state_of v local) line before after k n
  breaks line t halt entries before after k n reads goes h = record { next = t; entries = entries; steps = rw (reads, goes) refl; halts = h }

-- a frame changes nothing, and passes no limit
pub frame_leaves : (event : Event) (received : Received) (v : ViewValue) → frame_in event ≡ Some received → view_after event v ≡ v
frame_leaves (Frame interface bytes) received v e = refl
frame_leaves (Changed version object) received v e = absurd (cc)
frame_leaves (Deleted kind key) received v e = absurd (cc)
frame_leaves (ListEnd group) received v e = absurd (cc)
frame_leaves Expired received v e = absurd (cc)
frame_leaves (Members names) received v e = absurd (cc)
frame_leaves Ignored received v e = absurd (cc)

pub frame_within : (event : Event) (received : Received) (v : ViewValue) → frame_in event ≡ Some received → limit_by v event ≡ None
frame_within (Frame interface bytes) received v e = refl
frame_within (Changed version object) received v e = absurd (cc)
frame_within (Deleted kind key) received v e = absurd (cc)
frame_within (ListEnd group) received v e = absurd (cc)
frame_within Expired received v e = absurd (cc)
frame_within (Members names) received v e = absurd (cc)
frame_within Ignored received v e = absurd (cc)

-- the text of the entries from one on
pub next_is : (entries : List TranscriptEntry) (i : ℕ) (e : TranscriptEntry) → i < length entries → e ≡ get_or entries i e
    → text_of speaker_rules (drop i entries) ≡ entry_text e ++ text_of speaker_rules (drop (i + 1) entries)
next_is entries i e within is =
    let cons : drop i entries ≡ e ∷ drop (suc i) entries = drop-cons entries i e within ∙ ap (λ (x : TranscriptEntry). x ∷ drop (suc i) entries) (sym is) in
    rw (add-one, cons)
