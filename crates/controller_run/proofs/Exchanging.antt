-- What is read and written of lines that are taken, line by line: it is safe wherever it is seen.
use Rattle.std.proofs.Common.{◌≡◌, ℕ, ◌+◌, true, false, cond, Bool, List, [], ◌∷◌, ◌++◌, map, Option, Some, None, is_some, Result, Ok, Err}
use Rattle.std.proofs.Common.{refl, sym, ap, subst, ◌∙◌, append_assoc, arith}
use Rattle.std.proofs.lemmas.List.{append-nil, map-append}
use Rattle.std.proofs.lemmas.List.Concat.{flat_map-append}
use Rattle.std.specs.List.{AllByRecursion, flat_map}
use Rattle.mlb_base.proofs.Lists.{all-append}
use Rattle.kube_events.specs.Event.{event_of_line}
use Rattle.kube_lines.specs.OutputLines.{put_text, pending_text, accepted_text, refused_text}
use Rattle.kube_lines.specs.ReplyLines.{reply_of}
use Rattle.kube_model.specs.declared.event.Event.{Event}
use Rattle.kube_model.specs.declared.event.EventFault.{EventFault}
use Rattle.kube_model.specs.declared.event.ListGroup.{ListGroup}
use Rattle.kube_model.specs.declared.key.Key.{Key}
use Rattle.kube_model.specs.declared.put.Put.{Put}
use Rattle.kube_model.specs.declared.reason.Reason.{Reason}
use Rattle.kube_model.specs.declared.reply.PutReply.{PutReply}
use Rattle.kube_model.specs.declared.status.Status.{Status}
use Rattle.kube_model.specs.declared.status.Status.TheVariants.{Limit}
use Rattle.kube_model.specs.declared.status.What.TheVariants as whats
use Rattle.object_cache.specs.Limits.{most_services}
use Rattle.object_cache.specs.declared.change.TakeNote.{TakeNote}
use Rattle.object_cache.specs.declared.change.TakeNote.TheVariants.{Quiet, Accepted, Refused}
use Rattle.core_rules.specs.declared.turn.Turn.{Turn}
use Rattle.core_rules.specs.declared.turn.Turn.TheVariants.{Idle, NoPut, Wants}
use Rattle.core_rules.specs.Core.{State, fresh}
use Rattle.core_rules.specs.Take.{core_take, core_note, core_expired, limits}
use Rattle.core_rules.specs.Turn.{core_turn, after_turn, put_in}
use Rattle.core_rules.specs.Replied.{core_reply}
use Rattle.core_rules.specs.Run.{TranscriptEntry as CoreEntry, Took as TookByCore, Expired as ExpiredByCore, Turned as TurnedByCore, Heard as HeardByCore}
use Rattle.core_rules.specs.Run.{IsRun, core_after, put_out}
use Rattle.core_rules.proofs.Runs.{core_holds_what_was_observed, took-out, heard-out}
use Rattle.core_laws.proofs.QuietRuns.{wants-some}
use Rattle.core_drive.specs.Drive.{Driven, TranscriptEntry, Took, ListExpired, Turned, Heard, turned, turns, turns_from, with_turns, taking, expiring, hearing, behind}
use Rattle.core_drive.specs.Sound.{LeadsTo}
use Rattle.core_drive.proofs.Goes.{behind-append, begins_fresh}
use Rattle.world_rules.specs.Explaining.{answered}
use Rattle.world_rules.specs.Outside.{Seen, Read, RanOut, Wrote, Answered, seen_event, seen_of, IsSafeWhereSeen}
use Rattle.world_rules.proofs.Outside.{seen_are_safe}
use Rattle.line_exchanges.specs.Exchanges.{Exchange, text_written, IsOther, EndWith, IsRead, AreSafe, AreFirstOf, WritesSafely}
use Rattle.line_exchanges.proofs.Lines.{other-accepted, other-refused, other-pending}
use Rattle.line_run.specs.Machine.{Transition, Goes, Stops}
use Rattle.line_run.specs.Run.{Run, AreTaken, run_from, runs_on, text_of}
use Rattle.line_run.specs.RunOutput.{AreOfInput, WritesOnly}
use Rattle.line_run.specs.Text.{line_of, GrowsUpTo}
use Rattle.mlb_edge.specs.declared.lines.Line.{Line}
use Rattle.mlb_edge.specs.InputLines.{Ending, Whole, input_of}
use Rattle.controller_run.specs.Output.{entry_text, reason_line, turn_text, output_of}
use Rattle.controller_run.specs.Stream.{goes_by, arrival, event_step, reply_step, step_where, controller_rules}
use Rattle.controller_run.proofs.Rightful.{where_goes}
use Rattle.program_lines.specs.Lines.{note_text}

-- ---- the lines of what is told
abbrev note_lines : TakeNote → List (List ℕ)
note_lines Quiet = []
note_lines Accepted = accepted_text ∷ []
note_lines (Refused fault) = refused_text fault ∷ []

abbrev reason_lines : Key → Option Reason → List (List ℕ)
reason_lines key None = []
reason_lines key (Some reason) = pending_text key reason ∷ []

abbrev turn_lines : Turn → List (List ℕ)
turn_lines Idle = []
turn_lines (NoPut key pending) = reason_lines key pending
turn_lines (Wants put pending) = reason_lines put.key pending ++ put_text put ∷ []

abbrev entry_lines : TranscriptEntry → List (List ℕ)
entry_lines (Took event note) = note_lines note
entry_lines (ListExpired group) = []
entry_lines (Turned turn) = turn_lines turn
entry_lines (Heard reply) = []

abbrev pub lines_in : List TranscriptEntry → List (List ℕ)
lines_in entries = flat_map entry_lines entries

abbrev spelled : List (List ℕ) → List ℕ
spelled lines = flat_map line_of lines

note-spelled : (note : TakeNote) → spelled (note_lines note) ≡ note_text note
note-spelled Quiet = refl
note-spelled Accepted = append-nil (line_of accepted_text)
note-spelled (Refused fault) = append-nil (line_of (refused_text fault))

reason-spelled : (key : Key) (pending : Option Reason) → spelled (reason_lines key pending) ≡ reason_line key pending
reason-spelled key None = refl
reason-spelled key (Some reason) = append-nil (line_of (pending_text key reason))

turn-spelled : (turn : Turn) → spelled (turn_lines turn) ≡ turn_text turn
turn-spelled Idle = refl
turn-spelled (NoPut key pending) = reason-spelled key pending
turn-spelled (Wants put pending) =
    flat_map-append line_of (reason_lines put.key pending) (put_text put ∷ [])
    ∙ ap (λ (text : List ℕ). text ++ spelled (put_text put ∷ [])) (reason-spelled put.key pending)
    ∙ ap (λ (text : List ℕ). reason_line put.key pending ++ text) (append-nil (line_of (put_text put)))

entry-spelled : (entry : TranscriptEntry) → spelled (entry_lines entry) ≡ entry_text entry
entry-spelled (Took event note) = note-spelled note
entry-spelled (ListExpired group) = refl
entry-spelled (Turned turn) = turn-spelled turn
entry-spelled (Heard reply) = refl

pub lines-spelled : (entries : List TranscriptEntry) → spelled (lines_in entries) ≡ output_of entries
lines-spelled [] = refl
lines-spelled (entry ∷ more) =
    flat_map-append line_of (entry_lines entry) (lines_in more)
    ∙ ap (λ (text : List ℕ). text ++ spelled (lines_in more)) (entry-spelled entry)
    ∙ ap (λ (text : List ℕ). entry_text entry ++ text) (lines-spelled more)

-- ---- at most the last of them is a put
note-others : (note : TakeNote) → AllByRecursion IsOther (note_lines note)
note-others Quiet = tt
note-others Accepted = (other-accepted, tt)
note-others (Refused fault) = (other-refused fault, tt)

reason-others : (key : Key) (pending : Option Reason) → AllByRecursion IsOther (reason_lines key pending)
reason-others key None = tt
reason-others key (Some reason) = (other-pending key reason, tt)

pub others-then : (others lines : List (List ℕ)) (found : Option Put) → AllByRecursion IsOther others → EndWith lines found → EndWith (others ++ lines) found
others-then others lines None all end = all-append IsOther others lines all end
others-then others lines (Some put) all end = (
  others ++ end.0,
  ap (λ (l : List (List ℕ)). others ++ l) end.1 ∙ sym (append_assoc others end.0 (put_text put ∷ [])),
  all-append IsOther others end.0 all end.2,
)

-- turns end with the put in flight after them
turns-end : (queue : List Key) (s : State) → s.out ≡ None → EndWith (lines_in (turns queue s).entries) (turns queue s).core.out
turns-end [] s none = subst (EndWith []) (sym none) tt
turns-end (key ∷ keys) s none = by-turn (λ none'. turns-end keys (after_turn s) none') (core_turn s) refl
  where
    by-turn : ((after_turn s).out ≡ None → EndWith (lines_in (turns keys (after_turn s)).entries) (turns keys (after_turn s)).core.out)
        → (turn : Turn) → turn ≡ core_turn s
        → EndWith (lines_in (turned turn (after_turn s) (turns keys (after_turn s))).entries) (turned turn (after_turn s) (turns keys (after_turn s))).core.out
    by-turn rest Idle e = rest (ap put_in (sym e))
    by-turn rest (NoPut k pending) e =
        others-then (reason_lines k pending) (lines_in (turns keys (after_turn s)).entries) (turns keys (after_turn s)).core.out (reason-others k pending)
        (rest (ap put_in (sym e)))
    by-turn rest (Wants put pending) e =
        subst (EndWith (lines_in (Turned (Wants put pending) ∷ []))) (ap put_in e)
        (reason_lines put.key pending, append-nil (turn_lines (Wants put pending)), reason-others put.key pending)

-- ---- what is seen of it
abbrev pub seen_so_far : List CoreEntry → List Seen
seen_so_far run = seen_of (answered run)

pub whole-run : (run : List CoreEntry) → put_out run ≡ None → answered run ≡ run
whole-run [] none = refl
whole-run (TookByCore event ∷ earlier) none = refl
whole-run (ExpiredByCore group ∷ earlier) none = refl
whole-run (TurnedByCore Idle ∷ earlier) none = refl
whole-run (TurnedByCore (NoPut key pending) ∷ earlier) none = refl
whole-run (TurnedByCore (Wants put pending) ∷ earlier) none = absurd (cc)
whole-run (HeardByCore reply ∷ earlier) none = refl

-- turns show nothing, but for a last put
turns-seen : (queue : List Key) (s : State) (run : List CoreEntry) → answered run ≡ run → seen_so_far (behind (turns queue s).entries run) ≡ seen_of run
turns-seen [] s run whole = ap seen_of whole
turns-seen (key ∷ keys) s run whole = by-turn (λ r is. turns-seen keys (after_turn s) r is) (core_turn s)
  where
    by-turn : ((r : List CoreEntry) → answered r ≡ r → seen_so_far (behind (turns keys (after_turn s)).entries r) ≡ seen_of r)
        → (turn : Turn) → seen_so_far (behind (turned turn (after_turn s) (turns keys (after_turn s))).entries run) ≡ seen_of run
    by-turn rest Idle = rest run whole
    by-turn rest (NoPut k pending) = rest (TurnedByCore (NoPut k pending) ∷ run) refl
    by-turn rest (Wants put pending) = refl

-- the bytes of lines
abbrev pub bytes_of : List Line → List (List ℕ)
bytes_of lines = map (λ (line : Line). line.bytes) lines

-- where a put is in flight, a turn wanted it last
record LastWants (run : List CoreEntry) (put : Put) : Type 0 where
  pending : Option Reason
  earlier : List CoreEntry
  is : run ≡ TurnedByCore (Wants put pending) ∷ earlier

module _ (class : Option (List ℕ)) where
  not-out : (earlier : List CoreEntry) (put : Put) → IsRun class earlier → (core_after class earlier).out ≡ None → put_out earlier ≡ Some put → ⊥
  not-out earlier put is none out =
      let no : Some put ≡ None = sym out ∙ sym (core_holds_what_was_observed class earlier is).1 ∙ none in
      cc no

  last-wants : (run : List CoreEntry) (put : Put) → IsRun class run → put_out run ≡ Some put → LastWants run put
  last-wants [] put is out = absurd (cc)
  last-wants (TookByCore event ∷ earlier) put is out = absurd (not-out earlier put is.1 is.0 out)
  last-wants (ExpiredByCore group ∷ earlier) put is out = absurd (not-out earlier put is.1 is.0 out)
  last-wants (TurnedByCore turn ∷ earlier) put is out =
      let some = wants-some turn put out in
      record { pending = some.0; earlier = earlier; is = ap (λ (t : Turn). TurnedByCore t ∷ earlier) some.1 }
  last-wants (HeardByCore reply ∷ earlier) put is out = absurd (cc)

  -- the reply to it is seen with it
  reply-seen : (run : List CoreEntry) (put : Put) (reply : PutReply) → IsRun class run → put_out run ≡ Some put
      → seen_of (HeardByCore reply ∷ run) ≡ Answered reply ∷ Wrote put ∷ seen_so_far run
  reply-seen run put reply is out =
      let last = last-wants run put is out in
      subst (λ (r : List CoreEntry). seen_of (HeardByCore reply ∷ r) ≡ Answered reply ∷ Wrote put ∷ seen_so_far r) (sym last.is) refl

  -- ---- one that is taken
  -- What was read is seen so, what was told of it may end with a put in flight then, and that is what is seen of all that was told.
  pub record Exchanges {X : Type 0} (IsReadAs : Option Put → X → List Seen → Type 0) (x : X) (s next : State) (entries told : List TranscriptEntry) : Type 0 where
    pub read : List Seen
    pub is_read : IsReadAs s.out x read
    pub ends : EndWith (lines_in entries) next.out
    pub seen : seen_so_far (behind (told ++ entries) []) ≡ read ++ seen_so_far (behind told [])

  none-told : (told : List TranscriptEntry) (s : State) → LeadsTo class told s → put_out (behind told []) ≡ s.out
  none-told told s leads = sym (core_holds_what_was_observed class (behind told []) leads.is).1 ∙ ap (λ (t : State). t.out) leads.core

  module _ {X : Type 0} (IsReadAs : Option Put → X → List Seen → Type 0) (x : X) (s : State) (told : List TranscriptEntry) (leads : LeadsTo class told s) where
    abbrev ExchangesBy : Driven → Type 0
    ExchangesBy d = Exchanges IsReadAs x s d.core d.entries told

    pub by-driven : (d : Driven) (next : State) (entries : List TranscriptEntry) → goes_by d ≡ Goes next entries → ExchangesBy d
        → Exchanges IsReadAs x s next entries told
    by-driven d next entries e one =
        let core : d.core ≡ next = cc in
        let same : d.entries ≡ entries = cc in
        rw (← core, ← same) one

    pub event-exchanged : (event : Event) → s.out ≡ None → IsReadAs None x (seen_event event) → ExchangesBy (taking s event)
    event-exchanged event none reads =
        let run = behind told [] in
        let t = core_take s event in
        let rest = turns_from t in
        let whole = whole-run run (none-told told s leads ∙ none) in
        record {
          read = seen_event event;
          is_read = subst (λ (out : Option Put). IsReadAs out x (seen_event event)) (sym none) reads;
          ends = others-then (note_lines (core_note s event)) (lines_in rest.entries) rest.core.out (note-others (core_note s event))
              (turns-end t.queue t (took-out s event ∙ none));
          seen = ap seen_so_far (behind-append told (taking s event).entries []) ∙ turns-seen t.queue t (TookByCore event ∷ run) refl
              ∙ ap (λ (r : List CoreEntry). seen_event event ++ seen_of r) (sym whole);
        }

    pub expiry-exchanged : (group : ListGroup) → s.out ≡ None → IsReadAs None x (RanOut group ∷ []) → ExchangesBy (expiring s group)
    expiry-exchanged group none reads =
        let run = behind told [] in
        let t = core_expired s group in
        let whole = whole-run run (none-told told s leads ∙ none) in
        record {
          read = RanOut group ∷ [];
          is_read = subst (λ (out : Option Put). IsReadAs out x (RanOut group ∷ [])) (sym none) reads;
          ends = turns-end t.queue t none;
          seen = ap seen_so_far (behind-append told (expiring s group).entries []) ∙ turns-seen t.queue t (ExpiredByCore group ∷ run) refl
              ∙ ap (λ (r : List CoreEntry). RanOut group ∷ seen_of r) (sym whole);
        }

    pub reply-exchanged : (put : Put) (reply : PutReply) → s.out ≡ Some put → IsReadAs (Some put) x (Answered reply ∷ Wrote put ∷ [])
        → ExchangesBy (hearing s reply)
    reply-exchanged put reply out reads =
        let run = behind told [] in
        let t = core_reply s reply in
        record {
          read = Answered reply ∷ Wrote put ∷ [];
          is_read = subst (λ (found : Option Put). IsReadAs found x (Answered reply ∷ Wrote put ∷ [])) (sym out) reads;
          ends = turns-end t.queue t (heard-out s.out reply s (ap is_some out));
          seen = ap seen_so_far (behind-append told (hearing s reply).entries []) ∙ turns-seen t.queue t (HeardByCore reply ∷ run) refl
              ∙ reply-seen run put reply leads.is (none-told told s leads ∙ out);
        }

  -- what was told so far is safe wherever it is seen
  pub safe-so-far : (told : List TranscriptEntry) (s : State) → LeadsTo class told s → IsSafeWhereSeen s.out (seen_so_far (behind told []))
  safe-so-far told s leads =
      subst (λ (out : Option Put). IsSafeWhereSeen out (seen_so_far (behind told []))) (none-told told s leads)
      (seen_are_safe class (behind told []) leads.is leads.typed)

  -- and so is what goes on from it
  pub goes-safely : {X : Type 0} (IsReadAs : Option Put → X → List Seen → Type 0) (e : Exchange X) (s next : State) (entries told : List TranscriptEntry)
      (more : List (Exchange X)) → LeadsTo class told s → Exchanges IsReadAs e.read s next entries told
      → e.written ≡ lines_in entries → AreSafe IsReadAs next.out (seen_so_far (behind (told ++ entries) [])) more
      → AreSafe IsReadAs s.out (seen_so_far (behind told [])) (e ∷ more)
  goes-safely IsReadAs e s next entries told more leads one written rest = (
    safe-so-far told s leads,
    one.read,
    next.out,
    one.is_read,
    subst (λ (l : List (List ℕ)). EndWith l next.out) (sym written) one.ends,
    subst (λ (seen : List Seen). AreSafe IsReadAs next.out seen more) one.seen rest,
  )

  -- ---- lines of one stream
  event-line : (read : Result Event EventFault) (s next : State) (line : Line) (entries told : List TranscriptEntry) → s.out ≡ None
      → event_of_line line.bytes ≡ read → event_step s line read ≡ Goes next entries → LeadsTo class told s → Exchanges IsRead line.bytes s next entries told
  event-line (Err fault) s next line entries told none reads e leads = absurd (cc)
  event-line (Ok event) s next line entries told none reads e leads = within (limits s event) e
    where
      within : (b : Bool) → cond b (Stops (Limit whats.Services (most_services + 1))) (goes_by (taking s event)) ≡ Goes next entries
          → Exchanges IsRead line.bytes s next entries told
      within true e' = absurd (cc)
      within false e' = by-driven IsRead line.bytes s told leads (taking s event) next entries e'
          (event-exchanged IsRead line.bytes s told leads event none (event, reads, refl))

  pub reply-line : {X : Type 0} (IsReadAs : Option Put → X → List Seen → Type 0) (x : X) (put : Put) (s next : State) (line : Line)
      (entries told : List TranscriptEntry) → s.out ≡ Some put
      → ((reply : PutReply) → reply_of put line.bytes ≡ Some reply → IsReadAs (Some put) x (Answered reply ∷ Wrote put ∷ []))
      → (read : Option PutReply) → reply_of put line.bytes ≡ read → reply_step s line read ≡ Goes next entries → LeadsTo class told s
      → Exchanges IsReadAs x s next entries told
  reply-line IsReadAs x put s next line entries told out reads None is e leads = absurd (cc)
  reply-line IsReadAs x put s next line entries told out reads (Some reply) is e leads =
      by-driven IsReadAs x s told leads (hearing s reply) next entries e (reply-exchanged IsReadAs x s told leads put reply out (reads reply is))

  line-exchanged : (found : Option Put) (s next : State) (line : Line) (entries told : List TranscriptEntry) → s.out ≡ found
      → step_where found s line ≡ Goes next entries → LeadsTo class told s → Exchanges IsRead line.bytes s next entries told
  line-exchanged None s next line entries told out e leads = event-line (event_of_line line.bytes) s next line entries told out refl e leads
  line-exchanged (Some put) s next line entries told out e leads =
      reply-line IsRead line.bytes put s next line entries told out (λ reply is. (reply, is, refl)) (reply_of put line.bytes) refl e leads

  -- exchanges of these, which are safe after what was told
  pub record Talk {X : Type 0} (IsReadAs : Option Put → X → List Seen → Type 0) (read : List X) (text : List ℕ) (out : Option Put) (seen : List Seen)
      : Type 0 where
    pub exchanges : List (Exchange X)
    pub are : map (λ (e : Exchange X). e.read) exchanges ≡ read
    pub spells : text_written exchanges ≡ text
    pub safe : AreSafe IsReadAs out seen exchanges

  pub lines-talk : (lines : List Line) (s t : State) (entries told : List TranscriptEntry) → AreTaken controller_rules lines s t entries → LeadsTo class told s
      → Talk IsRead (bytes_of lines) (output_of entries) s.out (seen_so_far (behind told []))
  lines-talk [] s t entries told (same, none) leads = record {
    exchanges = [];
    are = refl;
    spells = ap output_of (sym none);
    safe = safe-so-far told s leads;
  }
  lines-talk (line ∷ lines) s t entries told (next, first, rest, steps, more, is) leads =
      let led = where_goes class s.out s line refl next first told steps leads in
      let one = line-exchanged s.out s next line first told refl steps leads in
      let later = lines-talk lines next t rest (told ++ first) more led in
      let e : Exchange (List ℕ) = record { read = line.bytes; written = lines_in first } in
      record {
        exchanges = e ∷ later.exchanges;
        are = ap (λ (l : List (List ℕ)). line.bytes ∷ l) later.are;
        spells = ap (λ (text : List ℕ). text ++ text_written later.exchanges) (lines-spelled first)
            ∙ ap (λ (text : List ℕ). output_of first ++ text) later.spells
            ∙ sym (flat_map-append entry_text first rest) ∙ ap output_of (sym is);
        safe = goes-safely IsRead e s next first told later.exchanges leads one refl later.safe;
      }

  -- ---- the run of some lines takes the first of them
  record TakesFirst (lines : List Line) (s : State) (run : Run TranscriptEntry) : Type 0 where
    done : List Line
    rest : List Line
    state : State
    lines_are : lines ≡ done ++ rest
    taken : AreTaken controller_rules done s state run.entries

  takes-first : (lines : List Line) (ending : Ending) (s : State) → TakesFirst lines s (run_from controller_rules lines ending s)
  takes-first [] ending s = record { done = []; rest = []; state = s; lines_are = refl; taken = (refl, refl) }
  takes-first (line ∷ lines) ending s = by-step (λ next. takes-first lines ending next) (controller_rules.step s line) refl
    where
      by-step : ((next : State) → TakesFirst lines next (run_from controller_rules lines ending next)) → (step : Transition State TranscriptEntry) → controller_rules.step s line ≡ step
          → TakesFirst (line ∷ lines) s (runs_on step (λ next. run_from controller_rules lines ending next))
      by-step then (Goes next entries) e =
          let more = then next in
          record {
            done = line ∷ more.done;
            rest = more.rest;
            state = more.state;
            lines_are = ap (λ (l : List Line). line ∷ l) more.lines_are;
            taken = (next, entries, (run_from controller_rules lines ending next).entries, e, more.taken, refl);
          }
      by-step then (Stops status) e = record { done = []; rest = line ∷ lines; state = s; lines_are = refl; taken = (refl, refl) }

  first-of : (left : Option (List ℕ)) (lines done rest : List Line) → AreOfInput left lines → lines ≡ done ++ rest → AreFirstOf left (bytes_of done)
  first-of None lines done rest of is = tt
  first-of (Some bytes) lines done rest of is = (bytes_of rest, ap bytes_of (sym of ∙ is) ∙ map-append (λ (line : Line). line.bytes) done rest)

  pub writes_safely : (left before after : Option (List ℕ)) → WritesOnly controller_rules (fresh class) left before after → WritesSafely left before after
  writes_safely left before after only =
      let first = takes-first only.lines Whole (fresh class) in
      let entries = (run_from controller_rules only.lines Whole (fresh class)).entries in
      let talk = lines-talk first.done (fresh class) first.state entries [] first.taken (begins_fresh class) in
      record {
        exchanges = talk.exchanges;
        read = subst (AreFirstOf left) (sym talk.are) (first-of left only.lines first.done first.rest only.of_input first.lines_are);
        wrote = subst (GrowsUpTo before after) (sym talk.spells) only.wrote;
        safe = talk.safe;
      }
