-- What was told follows what the node announces.
use Rattle.std.proofs.Common.{◌≡◌, ◌≢◌, ℕ, Bool, true, false, cond, not, ◌&&◌, ◌||◌, List, [], ◌∷◌, ◌++◌, map, filter}
use Rattle.std.proofs.Common.{Option, Some, None, Result, Ok, Err, refl, sym, ap, ◌∙◌, subst, ◌⊎◌, inl, inr, append_assoc}
use Rattle.std.specs.Prelude.{fold}
use Rattle.std.proofs.lemmas.Bool.{false_from_ne_true}
use Rattle.std.proofs.lemmas.List.{append-nil}
use Rattle.std.proofs.lemmas.List.Sums.{fold-append}
use Rattle.mlb_base.proofs.Among.{contains-none}
use Rattle.mlb_base.proofs.Bools.{by_bool}
use Rattle.ip_ranges.specs.Values.{AddressValue, same_address, has_address}
use Rattle.pool_config.specs.declared.compiled.CompiledPeer.{CompiledPeer}
use Rattle.ip_ranges.proofs.AddressLaws.{same_address-is, same_address-itself}
use Rattle.kube_events.specs.Event.{event_of_line}
use Rattle.kube_model.specs.declared.event.Event.{Event}
use Rattle.kube_model.specs.declared.event.EventFault.{EventFault}
use Rattle.kube_model.specs.declared.object.Kind.{Kind}
use Rattle.object_cache.specs.declared.change.TakeNote.{TakeNote}
use Rattle.std.specs.List.{flat_map}
use Rattle.speaker_view.specs.ViewValue.{ViewValue}
use Rattle.speaker_view.specs.View.{view_after, note_by, limit_by, fresh}
use Rattle.l2_elect.specs.Election.{announces_of}
use Rattle.l2_elect.proofs.Least.{announces-announcer, announcer-announces}
use Rattle.mlb_edge.specs.declared.lines.Line.{Line}
use Rattle.line_run.specs.Machine.{Goes}
use Rattle.line_run.specs.Run.{AreTaken}
use Rattle.announced_set.specs.Announced.{announced_by}
use Rattle.announced_set.specs.Changes.{difference}
use Rattle.speaker_words.specs.Reading.{said_in}
use Rattle.speaker_words.specs.Words.{Said}
use Rattle.bgp_routes.specs.Peers.{peers_of}
use Rattle.announced_set.proofs.Listed.{has-announced}
use Rattle.speaker_machine.specs.declared.transcript.TranscriptEntry.{TranscriptEntry}
use Rattle.speaker_machine.specs.declared.transcript.TranscriptEntry.TheVariants.{Noted, Withdrawn, Announced, Sent, Updated}
use Rattle.speaker_machine.specs.declared.local_node.Interface.{Interface}
use Rattle.speaker_machine.specs.declared.local_node.NextHops.{NextHops}
use Rattle.speaker_machine.specs.declared.local_node.LocalNode.{LocalNode}
use Rattle.speaker_machine.specs.Transcript.{withdrawn, withdrawals, announcements, entries_for}
use Rattle.speaker_machine.specs.Sends.{unsolicited_by, listening, announcement, answer_on, answer_by, sent_on, interface_of}
use Rattle.speaker_machine.specs.Stream.{SpeakerState, Received, first_state, state_after, frame_in, changes_of}
use Rattle.speaker_machine.specs.Stream.{entries_at, entries_of, limit_step, event_step, line_step, speaker_rules}
use Rattle.speaker_machine.specs.Updates.{messages_to, updated, updates_to, updates_by, are_hops, update_entries}
use Rattle.speaker_machine.proofs.Steps.{frame_leaves}
use Rattle.speaker_laws.specs.Clauses.{nothing_said, begun_with}
use Rattle.speaker_laws.specs.Told.{AllLeave, IsToldOf, TellsWhatIsAnnounced, LinesTellWhatIsAnnounced}

-- ---- tests

or_false : (b : Bool) → b ≡ (b || false)
or_false true = refl
or_false false = refl

and_false : (b : Bool) → (b && false) ≡ false
and_false true = refl
and_false false = refl

and_true' : (b : Bool) → b ≡ (b && true)
and_true' true = refl
and_true' false = refl

-- ---- lists of addresses

module _ (a : AddressValue) where
  -- a filter has the address where it is there and passes
  module _ (p : AddressValue → Bool) where
    kept_here : (b : Bool) (x : AddressValue) (zs : List AddressValue) (rest : Bool) → p x ≡ b → x ≡ a → has_address zs a ≡ (rest && p a)
        → has_address (cond b (x ∷ zs) zs) a ≡ p a
    kept_here true x zs rest px is more =
        ap (λ (c : Bool). c || has_address zs a) (ap (λ (y : AddressValue). same_address a y) is ∙ same_address-itself a) ∙ sym px ∙ ap p is
    kept_here false x zs rest px is more = let none : p a ≡ false = ap p (sym is) ∙ px in more ∙ ap (λ (c : Bool). rest && c) none ∙ and_false rest ∙ sym none

    kept_other : (b : Bool) (x : AddressValue) (zs : List AddressValue) → same_address a x ≡ false → has_address (cond b (x ∷ zs) zs) a ≡ has_address zs a
    kept_other true x zs other = ap (λ (c : Bool). c || has_address zs a) other
    kept_other false x zs other = refl

    has-filter : (xs : List AddressValue) → has_address (filter p xs) a ≡ (has_address xs a && p a)
    has-filter [] = refl
    has-filter (x ∷ xs) = by_bool _ (same_address a x)
        (λ t. kept_here (p x) x (filter p xs) (has_address xs a) refl (sym (same_address-is a x t)) (has-filter xs)
        ∙ ap (λ (c : Bool). (c || has_address xs a) && p a) (sym t))
        (λ f. kept_other (p x) x (filter p xs) f ∙ has-filter xs ∙ ap (λ (c : Bool). (c || has_address xs a) && p a) (sym f))

  -- ---- what was told of the address

  abbrev says : Bool → TranscriptEntry → Bool
  says before (Noted note) = before
  says before (Withdrawn b) = cond (same_address a b) false before
  says before (Announced b) = cond (same_address a b) true before
  says before (Sent interface frame) = before
  says before (Updated peer message) = before

  stands : Bool → List TranscriptEntry → Bool
  stands before told = fold says before told

  withdrawn_bools : (b c d : Bool) → ((cond c false b) && not d) ≡ (b && not (c || d))
  withdrawn_bools true true d = refl
  withdrawn_bools true false d = refl
  withdrawn_bools false true d = refl
  withdrawn_bools false false d = refl

  stands-withdrawn : (xs : List AddressValue) (b : Bool) → fold says b (map withdrawn xs) ≡ (b && not (has_address xs a))
  stands-withdrawn [] b = and_true' b
  stands-withdrawn (x ∷ xs) b = stands-withdrawn xs (cond (same_address a x) false b) ∙ withdrawn_bools b (same_address a x) (has_address xs a)

  announced_bools : (b c d : Bool) → ((cond c true b) || d) ≡ (b || (c || d))
  announced_bools true true d = refl
  announced_bools true false d = refl
  announced_bools false true d = refl
  announced_bools false false d = refl

  -- a frame tells nothing of it
  stands-sent : (x : AddressValue) (interfaces : List Interface) (b : Bool) → fold says b (map (unsolicited_by x) interfaces) ≡ b
  stands-sent x [] b = refl
  stands-sent x (i ∷ interfaces) b = stands-sent x interfaces b

  stands-announced : (v : ViewValue) (local : LocalNode) (xs : List AddressValue) (b : Bool)
      → fold says b (flat_map (announcement v local) xs) ≡ (b || has_address xs a)
  stands-announced v local [] b = or_false b
  stands-announced v local (x ∷ xs) b =
      fold-append says b (announcement v local x) (flat_map (announcement v local) xs)
      ∙ ap (λ (c : Bool). fold says c (flat_map (announcement v local) xs)) (stands-sent x (listening v local x) (cond (same_address a x) true b))
      ∙ stands-announced v local xs (cond (same_address a x) true b)
      ∙ announced_bools b (same_address a x) (has_address xs a)

  pub has-difference : (xs ys : List AddressValue) → has_address (difference xs ys) a ≡ (has_address xs a && not (has_address ys a))
  has-difference xs ys = has-filter (λ b. not (has_address ys b)) xs

  turned : (b c : Bool) → ((b && not (b && not c)) || (c && not b)) ≡ c
  turned true true = refl
  turned true false = refl
  turned false true = refl
  turned false false = refl

  -- from what was announced before to what is announced now
  stands-entries : (v : ViewValue) (local : LocalNode) (note : TakeNote) (before after : List AddressValue)
      → fold says (has_address before a) (entries_for v local note before after) ≡ has_address after a
  stands-entries v local note before after =
      fold-append says (has_address before a) (Noted note ∷ withdrawals before after) (announcements v local before after)
      ∙ stands-announced v local (difference after before) (fold says (has_address before a) (withdrawals before after))
      ∙ ap (λ (b : Bool). b || has_address (difference after before) a) (stands-withdrawn (difference before after) (has_address before a))
      ∙ ap (λ (b : Bool). (has_address before a && not b) || has_address (difference after before) a) (has-difference before after)
      ∙ ap (λ (b : Bool). (has_address before a && not (has_address before a && not (has_address after a))) || b) (has-difference after before)
      ∙ turned (has_address before a) (has_address after a)

  -- nor does what is told to peers
  stands-messages : (peer : CompiledPeer) (messages : List (List ℕ)) (b : Bool) → fold says b (map (updated peer) messages) ≡ b
  stands-messages peer [] b = refl
  stands-messages peer (message ∷ messages) b = stands-messages peer messages b

  stands-peers : (v v' : ViewValue) (node : List ℕ) (hop : NextHops) (peers : List CompiledPeer) (b : Bool)
      → fold says b (flat_map (updates_to v v' node hop) peers) ≡ b
  stands-peers v v' node hop [] b = refl
  stands-peers v v' node hop (peer ∷ peers) b =
      fold-append says b (updates_to v v' node hop peer) (flat_map (updates_to v v' node hop) peers)
      ∙ ap (λ (c : Bool). fold says c (flat_map (updates_to v v' node hop) peers)) (stands-messages peer (messages_to v v' node hop peer) b)
      ∙ stands-peers v v' node hop peers b

  stands-hop : (are : Bool) (entries : List TranscriptEntry) (b : Bool) → fold says b entries ≡ b → fold says b (cond are entries []) ≡ b
  stands-hop true entries b stands = stands
  stands-hop false entries b stands = refl

  stands-updates : (v v' : ViewValue) (node : List ℕ) (hop : Option NextHops) (b : Bool) → fold says b (updates_by v v' node hop) ≡ b
  stands-updates v v' node None b = refl
  stands-updates v v' node (Some hop) b =
      stands-hop (are_hops hop) (flat_map (updates_to v v' node hop) (peers_of v')) b (stands-peers v v' node hop (peers_of v') b)

  stands-answer : (v : ViewValue) (node : List ℕ) (i : Option Interface) (frame : List ℕ) (b : Bool) → fold says b (answer_by v node i frame) ≡ b
  stands-answer v node None frame b = refl
  stands-answer v node (Some i) frame b = go (answer_on v node i frame) where
    go : (answer : Option (List ℕ)) → fold says b (sent_on i answer) ≡ b
    go None = refl
    go (Some answer) = refl

  -- what stands told is what is announced
  Keeps : SpeakerState → List TranscriptEntry → Type 0
  Keeps s told = fold says false told ≡ announces_of s.view s.local.node a

-- ---- runs

-- a line that is taken is read as an event, which is applied
pub record Applies (read : Result Event EventFault) (s t : SpeakerState) (entries : List TranscriptEntry) : Type 0 where
  pub event : Event
  pub reads : read ≡ Ok event
  pub leads : t ≡ state_after s event
  pub tells : entries ≡ entries_of s event

-- an event with which no more is held than may be is applied
pub limit_goes : (o : Option (Kind × ℕ)) (s t : SpeakerState) (event : Event) (entries : List TranscriptEntry) → limit_step s event o ≡ Goes t entries
    → (t ≡ state_after s event) × (entries ≡ entries_of s event)
limit_goes None s t event entries e = (cc, cc)
limit_goes (Some p) s t event entries e = absurd (cc)

pub event_applies : (read : Result Event EventFault) (s t : SpeakerState) (line : Line) (entries : List TranscriptEntry)
    → event_step s line read ≡ Goes t entries
    → Applies read s t entries
event_applies (Err fault) s t line entries e = absurd (cc)
event_applies (Ok event) s t line entries e =
    let both = limit_goes (limit_by s.view event) s t event entries e in
    record { event = event; reads = refl; leads = both.0; tells = both.1 }

module _ (a : AddressValue) where
  -- what is told of an event follows it
  told_by_event : (o : Option Received) (s : SpeakerState) (event : Event) → frame_in event ≡ o
      → fold (says a) (announces_of s.view s.local.node a) (entries_at o s event) ≡ announces_of (view_after event s.view) s.local.node a
  told_by_event (Some received) s event is =
      stands-answer a s.view s.local.node (interface_of s.local received.interface) received.frame (announces_of s.view s.local.node a)
      ∙ ap (λ (u : ViewValue). announces_of u s.local.node a) (sym (frame_leaves event received s.view is))
  told_by_event None s event is =
      ap (λ (b : Bool). fold (says a) b (changes_of s event)) (sym (has-announced s.view s.local.node a))
      ∙ fold-append (says a) (has_address (announced_by s.view s.local.node) a)
      (entries_for (view_after event s.view) s.local (note_by s.view event) (announced_by s.view s.local.node)
      (announced_by (view_after event s.view) s.local.node))
      (update_entries s.view (view_after event s.view) s.local)
      ∙ ap (λ (b : Bool). fold (says a) b (update_entries s.view (view_after event s.view) s.local))
      (stands-entries a (view_after event s.view) s.local (note_by s.view event) (announced_by s.view s.local.node)
      (announced_by (view_after event s.view) s.local.node))
      ∙ stands-updates a s.view (view_after event s.view) s.local.node s.local.next_hops (has_address (announced_by (view_after event s.view) s.local.node) a)
      ∙ has-announced (view_after event s.view) s.local.node a

  kept : (s t : SpeakerState) (line : Line) (told entries : List TranscriptEntry) → fold (says a) false told ≡ announces_of s.view s.local.node a
      → line_step s line ≡ Goes t entries
      → fold (says a) false (told ++ entries) ≡ announces_of t.view t.local.node a
  kept s t line told entries keeps goes =
      let by = event_applies (event_of_line line.bytes) s t line entries goes in
      let event = by.event in
      fold-append (says a) false told entries
      ∙ ap (λ (b : Bool). fold (says a) b entries) keeps
      ∙ ap (λ (es : List TranscriptEntry). fold (says a) (announces_of s.view s.local.node a) es) by.tells
      ∙ told_by_event (frame_in event) s event refl
      ∙ ap (λ (u : SpeakerState). announces_of u.view u.local.node a) (sym by.leads)

  taken_keeps : (lines : List Line) (s t : SpeakerState) (told entries : List TranscriptEntry) → fold (says a) false told ≡ announces_of s.view s.local.node a
      → AreTaken speaker_rules lines s t entries
      → fold (says a) false (told ++ entries) ≡ announces_of t.view t.local.node a
  taken_keeps [] s t told entries keeps taken =
      ap (λ (es : List TranscriptEntry). fold (says a) false (told ++ es)) taken.1
      ∙ ap (λ (es : List TranscriptEntry). fold (says a) false es) (append-nil told) ∙ keeps
      ∙ ap (λ (u : SpeakerState). announces_of u.view u.local.node a) (sym taken.0)
  taken_keeps (line ∷ lines) s t told entries keeps (next, first, rest, goes, others, is) =
      ap (λ (es : List TranscriptEntry). fold (says a) false (told ++ es)) is
      ∙ ap (λ (es : List TranscriptEntry). fold (says a) false es) (sym (append_assoc told first rest))
      ∙ taken_keeps lines next t (told ++ first) rest (kept s next line told first keeps goes) others

  -- nothing is announced at first
  nothing_yet : (node : List ℕ) (class : Option (List ℕ)) → false ≡ announces_of (fresh class) node a
  nothing_yet node class =
      sym (false_from_ne_true (announces_of (fresh class) node a) (λ h. contains-none node (announces-announcer (fresh class) a node h).eligible.member))

  -- ---- the relation

  lasts_on : (later : List TranscriptEntry) → AllLeave a later → fold (says a) true later ≡ true
  lasts_on [] all = refl
  lasts_on (Noted note ∷ later) all = lasts_on later all.1
  lasts_on (Withdrawn b ∷ later) all = by_bool _ (same_address a b)
      (λ t. absurd (all.0 (sym (same_address-is a b t))))
      (λ f. ap (λ (c : Bool). fold (says a) (cond c false true) later) f ∙ lasts_on later all.1)
  lasts_on (Announced b ∷ later) all = by_bool _ (same_address a b)
      (λ t. ap (λ (c : Bool). fold (says a) (cond c true true) later) t ∙ lasts_on later all.1)
      (λ f. ap (λ (c : Bool). fold (says a) (cond c true true) later) f ∙ lasts_on later all.1)
  lasts_on (Sent interface frame ∷ later) all = lasts_on later all.1
  lasts_on (Updated peer message ∷ later) all = lasts_on later all.1

  told-stands : (told : List TranscriptEntry) → IsToldOf told a → fold (says a) false told ≡ true
  told-stands told is =
      ap (λ (es : List TranscriptEntry). fold (says a) false es) is.split
      ∙ fold-append (says a) false is.earlier (Announced a ∷ is.later)
      ∙ ap (λ (c : Bool). fold (says a) (cond c true (fold (says a) false is.earlier)) is.later) (same_address-itself a)
      ∙ lasts_on is.later is.lasts

  pub told_later : (e : TranscriptEntry) (told : List TranscriptEntry) → IsToldOf told a → IsToldOf (e ∷ told) a
  told_later e told is = record { earlier = e ∷ is.earlier; later = is.later; split = ap (λ es. e ∷ es) is.split; lasts = is.lasts }

  pub told_here : (b : AddressValue) (told : List TranscriptEntry) → b ≡ a → AllLeave a told → IsToldOf (Announced b ∷ told) a
  told_here b told is all = record { earlier = []; later = told; split = ap (λ (x : AddressValue). Announced x ∷ told) is; lasts = all }

  withdrawn_case : (c : Bool) (x : AddressValue) (b : Bool) → same_address a x ≡ c → cond c false b ≡ true → (b ≡ true) × (x ≢ a)
  withdrawn_case true x b s p = absurd (cc)
  withdrawn_case false x b s p =
      (p, λ e. let u : same_address a x ≡ true = subst (λ (y : AddressValue). same_address a y ≡ true) (sym e) (same_address-itself a) in absurd (cc))

  withdrawn_cases : (x : AddressValue) (b : Bool) (told : List TranscriptEntry) → ((cond (same_address a x) false b ≡ true) × AllLeave a told) ⊎ IsToldOf told a
      → ((b ≡ true) × AllLeave a (Withdrawn x ∷ told)) ⊎ IsToldOf (Withdrawn x ∷ told) a
  withdrawn_cases x b told (inl p) = let q = withdrawn_case (same_address a x) x b refl p.0 in inl (q.0, (q.1, p.1))
  withdrawn_cases x b told (inr is) = inr (told_later (Withdrawn x) told is)

  announced_case : (c : Bool) (x : AddressValue) (b : Bool) (told : List TranscriptEntry) → same_address a x ≡ c → cond c true b ≡ true → AllLeave a told
      → ((b ≡ true) × AllLeave a (Announced x ∷ told)) ⊎ IsToldOf (Announced x ∷ told) a
  announced_case true x b told s p all = inr (told_here x told (sym (same_address-is a x s)) all)
  announced_case false x b told s p all = inl (p, (tt, all))

  announced_cases : (x : AddressValue) (b : Bool) (told : List TranscriptEntry) → ((cond (same_address a x) true b ≡ true) × AllLeave a told) ⊎ IsToldOf told a
      → ((b ≡ true) × AllLeave a (Announced x ∷ told)) ⊎ IsToldOf (Announced x ∷ told) a
  announced_cases x b told (inl p) = announced_case (same_address a x) x b told refl p.0 p.1
  announced_cases x b told (inr is) = inr (told_later (Announced x) told is)

  sent_cases : (interface frame : List ℕ) (b : Bool) (told : List TranscriptEntry) → ((b ≡ true) × AllLeave a told) ⊎ IsToldOf told a
      → ((b ≡ true) × AllLeave a (Sent interface frame ∷ told)) ⊎ IsToldOf (Sent interface frame ∷ told) a
  sent_cases interface frame b told (inl p) = inl (p.0, (tt, p.1))
  sent_cases interface frame b told (inr is) = inr (told_later (Sent interface frame) told is)

  updated_cases : (peer message : List ℕ) (b : Bool) (told : List TranscriptEntry) → ((b ≡ true) × AllLeave a told) ⊎ IsToldOf told a
      → ((b ≡ true) × AllLeave a (Updated peer message ∷ told)) ⊎ IsToldOf (Updated peer message ∷ told) a
  updated_cases peer message b told (inl p) = inl (p.0, (tt, p.1))
  updated_cases peer message b told (inr is) = inr (told_later (Updated peer message) told is)

  noted_cases : (note : TakeNote) (b : Bool) (told : List TranscriptEntry) → ((b ≡ true) × AllLeave a told) ⊎ IsToldOf told a
      → ((b ≡ true) × AllLeave a (Noted note ∷ told)) ⊎ IsToldOf (Noted note ∷ told) a
  noted_cases note b told (inl p) = inl (p.0, (tt, p.1))
  noted_cases note b told (inr is) = inr (told_later (Noted note) told is)

  stands_cases : (told : List TranscriptEntry) (b : Bool) → fold (says a) b told ≡ true → ((b ≡ true) × AllLeave a told) ⊎ IsToldOf told a
  stands_cases [] b h = inl (h, tt)
  stands_cases (Noted note ∷ told) b h = noted_cases note b told (stands_cases told b h)
  stands_cases (Sent interface frame ∷ told) b h = sent_cases interface frame b told (stands_cases told b h)
  stands_cases (Updated peer message ∷ told) b h = updated_cases peer message b told (stands_cases told b h)
  stands_cases (Withdrawn x ∷ told) b h = withdrawn_cases x b told (stands_cases told (cond (same_address a x) false b) h)
  stands_cases (Announced x ∷ told) b h = announced_cases x b told (stands_cases told (cond (same_address a x) true b) h)

  told_of : (told : List TranscriptEntry) → ((false ≡ true) × AllLeave a told) ⊎ IsToldOf told a → IsToldOf told a
  told_of told (inl p) = let wrong : false ≡ true = p.0 in absurd (cc)
  told_of told (inr is) = is

  stands-told : (told : List TranscriptEntry) → fold (says a) false told ≡ true → IsToldOf told a
  stands-told told h = told_of told (stands_cases told false h)

-- the local node stays
pub station_kept : (lines : List Line) (s t : SpeakerState) (entries : List TranscriptEntry) → AreTaken speaker_rules lines s t entries → t.local ≡ s.local
station_kept [] s t entries taken = ap (λ (u : SpeakerState). u.local) taken.0
station_kept (line ∷ lines) s t entries (next, first, rest, goes, others, is) =
    station_kept lines next t rest others ∙ ap (λ (u : SpeakerState). u.local) (event_applies (event_of_line line.bytes) s next line first goes).leads

pub lines_tell_what_is_announced : LinesTellWhatIsAnnounced
lines_tell_what_is_announced said lines s told taken a =
    let by_test : fold (says a) false told ≡ announces_of s.view said.node a =
    taken_keeps a lines (first_state said) s [] told (nothing_yet a said.node said.class) taken
    ∙ ap (λ (n : LocalNode). announces_of s.view n.node a) (station_kept lines (first_state said) s told taken) in (
      λ is. announces-announcer s.view a said.node (sym by_test ∙ told-stands a told is),
      λ announcer. stands-told a told (by_test ∙ announcer-announces s.view a said.node announcer),
    )

told_with : (said : Option Said) → TellsWhatIsAnnounced (begun_with said)
told_with None = lines_tell_what_is_announced nothing_said
told_with (Some said) = lines_tell_what_is_announced said

-- whatever the words say
pub told_by : (words : List (List ℕ)) → TellsWhatIsAnnounced (begun_with (said_in words))
told_by words = told_with (said_in words)
