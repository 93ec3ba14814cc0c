-- What is read of two lanes and of the replies, and written: it is safe wherever it is seen.
use Rattle.std.proofs.Common.{◌≡◌, ℕ, ◌+◌, true, false, cond, Bool, List, [], ◌∷◌, ◌++◌, map, Option, Some, None, is_some, Ok}
use Rattle.std.proofs.Common.{refl, sym, ap, subst, ◌∙◌, append_assoc}
use Rattle.std.proofs.lemmas.List.{append-nil, map-append}
use Rattle.std.proofs.lemmas.List.Concat.{flat_map-append}
use Rattle.std.specs.List.{AllByRecursion, flat_map}
use Rattle.core_rules.specs.Core.{State, fresh}
use Rattle.core_rules.specs.Take.{limits}
use Rattle.core_drive.specs.Drive.{TranscriptEntry, taking, expiring, behind}
use Rattle.core_drive.specs.Sound.{LeadsTo}
use Rattle.core_drive.proofs.Goes.{begins_fresh}
use Rattle.kube_lines.specs.OutputLines.{took_text}
use Rattle.kube_lines.specs.ReplyLines.{reply_of}
use Rattle.kube_model.specs.declared.event.Event.{Event}
use Rattle.kube_model.specs.declared.event.Event.TheVariants.{Changed, Deleted, ListEnd, Expired, Members, Frame, Ignored}
use Rattle.kube_model.specs.declared.put.Put.{Put}
use Rattle.kube_model.specs.declared.reply.PutReply.{PutReply}
use Rattle.kube_model.specs.declared.status.Status.{Status}
use Rattle.kube_model.specs.declared.status.Status.TheVariants.{Limit}
use Rattle.kube_model.specs.declared.status.What.TheVariants as whats
use Rattle.object_cache.specs.Limits.{most_services}
use Rattle.lane_drive.proofs.ReadItems.{items_are_read}
use Rattle.lane_drive.specs.Clauses.{OnlyWrites, unread}
use Rattle.lane_drive.specs.Drive.{Told, AreHeard, AreTaken, IsTaken, entries_of, told_text}
use Rattle.lane_drive.specs.LaneRules.{item_text}
use Rattle.lane_drive.specs.Laws.{IsRead as IsReadItem}
use Rattle.lane_drive.specs.Stops.{AreBeginnings}
use Rattle.lane_mail.specs.declared.item.Item.{Item}
use Rattle.lane_mail.specs.declared.lane.Lane.{Lane}
use Rattle.line_exchanges.specs.Exchanges.{Exchange, text_written, EndWith, AreSafe, AreFirstOf}
use Rattle.line_exchanges.proofs.Lines.{other-took}
use Rattle.line_run.specs.Machine.{Transition, Goes, Stops}
use Rattle.line_run.specs.Text.{line_of, GrowsUpTo}
use Rattle.mlb_base.proofs.Bools.{none_from}
use Rattle.mlb_edge.specs.declared.lines.Line.{Line}
use Rattle.mlb_edge.specs.InputLines.{Input, Follows, to_come}
use Rattle.world_rules.specs.Outside.{Seen, Wrote, Answered, seen_event}
use Rattle.controller_run.specs.LaneExchanges.{Arrival, Came, Replied, seen_came, IsLaneRead, item_in, line_in, LanesWriteSafely}
use Rattle.controller_run.specs.Lanes.{belongs_to, lane_arrival, lane_group, lane_rules, name_of}
use Rattle.controller_run.specs.Output.{entry_text, output_of}
use Rattle.controller_run.specs.Stream.{goes_by, arrival, step_where}
use Rattle.controller_run.proofs.Exchanging.{Exchanges, Talk, by-driven, event-exchanged, expiry-exchanged, reply-line, goes-safely, lines-spelled, lines_in, others-then, safe-so-far, seen_so_far, bytes_of}
use Rattle.controller_run.proofs.Rightful.{where_goes}
use Rattle.controller_run.proofs.RightLanes.{item_goes}
use Rattle.controller_run.proofs.SoFar.{joined}

abbrev LaneExchange : Type 0
LaneExchange = Exchange Arrival

abbrev items_in : List LaneExchange → List Item
items_in exchanges = flat_map (λ (e : LaneExchange). item_in e.read) exchanges

abbrev answers_in : List LaneExchange → List (List ℕ)
answers_in exchanges = flat_map (λ (e : LaneExchange). line_in e.read) exchanges

module _ (class : Option (List ℕ)) where
  -- exchanges of these events and replies, which are safe after what was told, and then these
  record LaneTalk (items : List Item) (replies : List (List ℕ)) (text : List ℕ) (out : Option Put) (seen : List Seen) : Type 0 where
    exchanges : List LaneExchange
    items_are : items_in exchanges ≡ items
    lines_are : answers_in exchanges ≡ replies
    spells : text_written exchanges ≡ text
    safe : AreSafe IsLaneRead out seen exchanges

  -- an event that came by a lane
  arrived : (item : Item) (event : Event) (s next : State) (entries told : List TranscriptEntry) → s.out ≡ None → seen_came item.lane item.event ≡ seen_event event
      → arrival s event ≡ Goes next entries → LeadsTo class told s → Exchanges class IsLaneRead (Came item) s next entries told
  arrived item event s next entries told none seen e leads = within (limits s event) e
    where
      within : (b : Bool) → cond b (Stops (Limit whats.Services (most_services + 1))) (goes_by (taking s event)) ≡ Goes next entries
          → Exchanges class IsLaneRead (Came item) s next entries told
      within true e' = absurd (cc)
      within false e' = by-driven class IsLaneRead (Came item) s told leads (taking s event) next entries e'
          (event-exchanged class IsLaneRead (Came item) s told leads event none (sym seen))

  came : (event : Event) (item : Item) (s next : State) (entries told : List TranscriptEntry) → item.event ≡ event → s.out ≡ None
      → lane_arrival s item.lane event ≡ Goes next entries → LeadsTo class told s → Exchanges class IsLaneRead (Came item) s next entries told
  came Expired item s next entries told is none e leads =
      by-driven class IsLaneRead (Came item) s told leads (expiring s (lane_group item.lane)) next entries e
      (expiry-exchanged class IsLaneRead (Came item) s told leads (lane_group item.lane) none (sym (ap (seen_came item.lane) is)))
  came (Changed version object) item s next entries told is none e leads =
      arrived item (Changed version object) s next entries told none (ap (seen_came item.lane) is) e leads
  came (Deleted kind key) item s next entries told is none e leads =
      arrived item (Deleted kind key) s next entries told none (ap (seen_came item.lane) is) e leads
  came (ListEnd group) item s next entries told is none e leads = arrived item (ListEnd group) s next entries told none (ap (seen_came item.lane) is) e leads
  came (Members names) item s next entries told is none e leads = arrived item (Members names) s next entries told none (ap (seen_came item.lane) is) e leads
  came (Frame interface bytes) item s next entries told is none e leads =
      arrived item (Frame interface bytes) s next entries told none (ap (seen_came item.lane) is) e leads
  came Ignored item s next entries told is none e leads = arrived item Ignored s next entries told none (ap (seen_came item.lane) is) e leads

  -- a reply
  answered_by : (found : Option Put) (s next : State) (line : Line) (entries told : List TranscriptEntry) → s.out ≡ found → is_some found ≡ true
      → step_where found s line ≡ Goes next entries → LeadsTo class told s → Exchanges class IsLaneRead (Replied line.bytes) s next entries told
  answered_by None s next line entries told out waits e leads = absurd (cc)
  answered_by (Some put) s next line entries told out waits e leads =
      reply-line class IsLaneRead (Replied line.bytes) put s next line entries told out (λ reply is. (reply, is, refl)) (reply_of put line.bytes) refl e leads

  -- what is said after the replies
  abbrev Then : List Item → List (List ℕ) → List ℕ → List TranscriptEntry → State → Type 0
  Then items replies text told s = LaneTalk items replies text s.out (seen_so_far (behind told []))

  heard-talk : (lines : List Line) (s t : State) (entries told : List TranscriptEntry) (items : List Item) (replies : List (List ℕ)) (text : List ℕ)
      → AreHeard lane_rules lines s t entries → LeadsTo class told s → (LeadsTo class (told ++ entries) t → Then items replies text (told ++ entries) t)
      → Then items (bytes_of lines ++ replies) (output_of entries ++ text) told s
  heard-talk [] s t entries told items replies text (same, none) leads more =
      let led : LeadsTo class (told ++ entries) t = rw (same, none, append-nil told) leads in
      let rest : Then items replies text told t =
      subst (λ (es : List TranscriptEntry). Then items replies text es t) (append-nil told)
      (subst (λ (es : List TranscriptEntry). Then items replies text (told ++ es) t) none (more led)) in
      subst (λ (es : List TranscriptEntry). Then items replies (output_of es ++ text) told s) (sym none)
      (subst (Then items replies text told) same rest)
  heard-talk (line ∷ lines) s t entries told items replies text (next, first, rest, waits, hears, heard, is) leads more =
      let led = where_goes class s.out s line refl next first told hears leads in
      let one = answered_by s.out s next line first told refl waits hears leads in
      let behind_all : LeadsTo class ((told ++ first) ++ rest) t → Then items replies text ((told ++ first) ++ rest) t = λ leads'.
      (subst (λ (es : List TranscriptEntry). Then items replies text es t) (sym (append_assoc told first rest))
      (subst (λ (es : List TranscriptEntry). Then items replies text (told ++ es) t) is
      (more (subst (λ (es : List TranscriptEntry). LeadsTo class (told ++ es) t) (sym is) (joined class told first rest t leads'))))) in
      let later = heard-talk lines next t rest (told ++ first) items replies text heard led behind_all in
      let e : LaneExchange = record { read = Replied line.bytes; written = lines_in first } in
      record {
        exchanges = e ∷ later.exchanges;
        items_are = later.items_are;
        lines_are = ap (λ (l : List (List ℕ)). line.bytes ∷ l) later.lines_are;
        spells = ap (λ (x : List ℕ). x ++ text_written later.exchanges) (lines-spelled first)
            ∙ ap (λ (x : List ℕ). output_of first ++ x) later.spells
            ∙ sym (append_assoc (output_of first) (output_of rest) text)
            ∙ ap (λ (x : List ℕ). x ++ text) (sym (flat_map-append entry_text first rest) ∙ ap output_of (sym is));
        safe = goes-safely class IsLaneRead e s next first told later.exchanges leads one refl later.safe;
      }

  -- with the line that tells that an item was taken before what is told of it
  with-took : (item : Item) (s next : State) (entries told : List TranscriptEntry) → Exchanges class IsLaneRead (Came item) s next entries told
      → EndWith (took_text (name_of item.lane) item.number ∷ lines_in entries) next.out
  with-took item s next entries told one =
      others-then (took_text (name_of item.lane) item.number ∷ []) (lines_in entries) next.out (other-took (name_of item.lane) item.number, tt) one.ends

  items-talk : (items : List Item) (replies : List Line) (s t : State) (told : List (Told TranscriptEntry)) (earlier : List TranscriptEntry)
      → AllByRecursion (IsReadItem belongs_to) items → AreTaken lane_rules items replies s t told → LeadsTo class earlier s
      → Then items (bytes_of replies) (told_text lane_rules told) earlier s
  items-talk [] replies s t told earlier read (none, same, nothing) leads = record {
    exchanges = [];
    items_are = refl;
    lines_are = ap bytes_of (sym none);
    spells = ap (told_text lane_rules) (sym nothing);
    safe = safe-so-far class earlier s leads;
  }
  items-talk (item ∷ items) replies s t told earlier read (own, behind_own, next, entries, more, split, taken, rest, is) leads =
      let none = none_from s.out taken.quiet in
      let led = item_goes class item.event s item.lane read.0.bytes none read.0.read taken.next taken.first earlier taken.steps leads in
      let one = came item.event item s taken.next taken.first earlier refl none taken.steps leads in
      let all : LeadsTo class ((earlier ++ taken.first) ++ taken.rest) next
      → Then items (bytes_of behind_own) (told_text lane_rules more) ((earlier ++ taken.first) ++ taken.rest) next =
      items-talk items behind_own next t more ((earlier ++ taken.first) ++ taken.rest) read.1 rest in
      let later = heard-talk own taken.next next taken.rest (earlier ++ taken.first) items (bytes_of behind_own) (told_text lane_rules more) taken.heard led all in
      let took = line_of (took_text (name_of item.lane) item.number) in
      let e : LaneExchange = record { read = Came item; written = took_text (name_of item.lane) item.number ∷ lines_in taken.first } in
      record {
        exchanges = e ∷ later.exchanges;
        items_are = ap (λ (l : List Item). item ∷ l) later.items_are;
        lines_are = later.lines_are ∙ sym (map-append (λ (line : Line). line.bytes) own behind_own) ∙ ap bytes_of (sym split);
        spells = ap (λ (x : List ℕ). (took ++ x) ++ text_written later.exchanges) (lines-spelled taken.first)
            ∙ ap (λ (x : List ℕ). (took ++ output_of taken.first) ++ x) later.spells
            ∙ sym (append_assoc (took ++ output_of taken.first) (output_of taken.rest) (told_text lane_rules more))
            ∙ ap (λ (x : List ℕ). x ++ told_text lane_rules more)
            (append_assoc took (output_of taken.first) (output_of taken.rest)
            ∙ ap (λ (x : List ℕ). took ++ x) (sym (flat_map-append entry_text taken.first taken.rest) ∙ ap output_of (sym taken.entries_are)))
            ∙ ap (told_text lane_rules) (sym is);
        safe = (
          safe-so-far class earlier s leads,
          one.read,
          taken.next.out,
          one.is_read,
          with-took item s taken.next taken.first earlier one,
          subst (λ (seen : List Seen). AreSafe IsLaneRead taken.next.out seen later.exchanges) one.seen later.safe,
        );
      }

  first-lines : (left : Option (List ℕ)) (replies : List Line) (next : Option Input) → Follows (to_come unread left) replies next
      → AreFirstOf left (bytes_of replies)
  first-lines None replies next comes = tt
  first-lines (Some bytes) replies None comes = absurd comes
  first-lines (Some bytes) replies (Some input) comes =
      (bytes_of input.lines, ap bytes_of comes.0 ∙ map-append (λ (line : Line). line.bytes) replies input.lines)

  pub lanes_write_safely : (first second replies before after : Option (List ℕ)) → OnlyWrites belongs_to lane_rules (fresh class) first second replies before after
      → LanesWriteSafely first second replies before after
  lanes_write_safely first second replies before after only =
      let talk = items-talk only.items only.replies (fresh class) only.state only.told [] (items_are_read belongs_to first second only.items only.begin) only.taken
      (begins_fresh class) in
      record {
        exchanges = talk.exchanges;
        items = subst (AreBeginnings belongs_to first second) (sym talk.items_are) only.begin;
        lines = subst (AreFirstOf replies) (sym talk.lines_are) (first-lines replies only.replies only.next only.comes);
        wrote = subst (GrowsUpTo before after) (sym talk.spells) only.wrote;
        safe = talk.safe;
      }
