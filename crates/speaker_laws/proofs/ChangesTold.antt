-- Of each event is told just what it changes.
use Rattle.std.proofs.Common.{◌≡◌, ◌↔◌, ℕ, Bool, true, false, cond, not, ◌&&◌, List, [], ◌∷◌, ◌++◌, map}
use Rattle.std.proofs.Common.{Option, Some, None, refl, sym, ap, ◌∙◌, subst, append_assoc}
use Rattle.std.proofs.lemmas.Bool.{and_parts, and_from, false_from_ne_true, true≢false}
use Rattle.std.proofs.lemmas.List.{append-nil}
use Rattle.std.proofs.lemmas.List.Kept.{IsStrictlySortedBy-filter}
use Rattle.std.specs.List.{flat_map}
use Rattle.std.specs.List.Sorted.{IsStrictlySortedBy}
use Rattle.mlb_base.specs.Items.{IsIn}
use Rattle.mlb_base.proofs.Lists.{contains-in, in-contains}
use Rattle.ip_ranges.specs.Values.{AddressValue, has_address}
use Rattle.ip_ranges.proofs.AddressLaws.{has_address-is, has_address-from}
use Rattle.kube_events.specs.Event.{event_of_line}
use Rattle.kube_model.specs.declared.event.Event.{Event}
use Rattle.pool_config.specs.declared.compiled.CompiledPeer.{CompiledPeer}
use Rattle.object_cache.specs.declared.change.TakeNote.{TakeNote}
use Rattle.speaker_view.specs.ViewValue.{ViewValue}
use Rattle.speaker_view.specs.View.{view_after, note_by}
use Rattle.l2_elect.specs.Election.{IsAnnouncer, announces_of}
use Rattle.l2_elect.proofs.Least.{announces-announcer, announcer-announces}
use Rattle.announced_set.specs.Announced.{address_cmp, announced_by}
use Rattle.announced_set.specs.Changes.{difference}
use Rattle.announced_set.proofs.Listed.{all_are_announced, has-announced, nothing_ascends}
use Rattle.mlb_edge.specs.declared.lines.Line.{Line}
use Rattle.line_run.specs.Machine.{Goes}
use Rattle.bgp_routes.specs.Peers.{peers_of}
use Rattle.speaker_machine.specs.declared.transcript.TranscriptEntry.{TranscriptEntry}
use Rattle.speaker_machine.specs.declared.transcript.TranscriptEntry.TheVariants.{Noted, Withdrawn, Announced, Sent, Updated}
use Rattle.speaker_machine.specs.declared.local_node.Interface.{Interface}
use Rattle.speaker_machine.specs.declared.local_node.NextHops.{NextHops}
use Rattle.speaker_machine.specs.declared.local_node.LocalNode.{LocalNode}
use Rattle.speaker_machine.specs.Transcript.{withdrawn, withdrawals, announcements, entries_for}
use Rattle.speaker_machine.specs.Sends.{unsolicited_by, unsolicited, listening, announcement, sent_on, answer_on, answer_by, interface_of}
use Rattle.speaker_machine.specs.Stream.{SpeakerState, Received, frame_in, entries_at, entries_of, line_step}
use Rattle.speaker_machine.specs.Updates.{messages_to, updated, updates_to, updates_by, are_hops, update_entries}
use Rattle.speaker_machine.proofs.Steps.{frame_leaves}
use Rattle.speaker_laws.specs.Told.{withdrawn_in, announced_in, AnnouncesAlone, TellsChange, TellsWhatChanges}
use Rattle.speaker_laws.proofs.Telling.{event_applies, has-difference, station_kept}

-- ---- the addresses of the lines
pub announced-append : (xs ys : List TranscriptEntry) → announced_in (xs ++ ys) ≡ announced_in xs ++ announced_in ys
announced-append [] ys = refl
announced-append (Announced a ∷ xs) ys = ap (λ (zs : List AddressValue). a ∷ zs) (announced-append xs ys)
announced-append (Noted note ∷ xs) ys = announced-append xs ys
announced-append (Withdrawn a ∷ xs) ys = announced-append xs ys
announced-append (Sent interface frame ∷ xs) ys = announced-append xs ys
announced-append (Updated peer message ∷ xs) ys = announced-append xs ys

withdrawn-append : (xs ys : List TranscriptEntry) → withdrawn_in (xs ++ ys) ≡ withdrawn_in xs ++ withdrawn_in ys
withdrawn-append [] ys = refl
withdrawn-append (Withdrawn a ∷ xs) ys = ap (λ (zs : List AddressValue). a ∷ zs) (withdrawn-append xs ys)
withdrawn-append (Noted note ∷ xs) ys = withdrawn-append xs ys
withdrawn-append (Announced a ∷ xs) ys = withdrawn-append xs ys
withdrawn-append (Sent interface frame ∷ xs) ys = withdrawn-append xs ys
withdrawn-append (Updated peer message ∷ xs) ys = withdrawn-append xs ys

announced-withdrawals : (zs : List AddressValue) → announced_in (map withdrawn zs) ≡ []
announced-withdrawals [] = refl
announced-withdrawals (a ∷ zs) = announced-withdrawals zs

withdrawn-withdrawals : (zs : List AddressValue) → withdrawn_in (map withdrawn zs) ≡ zs
withdrawn-withdrawals [] = refl
withdrawn-withdrawals (a ∷ zs) = ap (λ (bs : List AddressValue). a ∷ bs) (withdrawn-withdrawals zs)

announced-unsolicited : (a : AddressValue) (interfaces : List Interface) → announced_in (map (unsolicited_by a) interfaces) ≡ []
announced-unsolicited a [] = refl
announced-unsolicited a (i ∷ interfaces) = announced-unsolicited a interfaces

withdrawn-unsolicited : (a : AddressValue) (interfaces : List Interface) → withdrawn_in (map (unsolicited_by a) interfaces) ≡ []
withdrawn-unsolicited a [] = refl
withdrawn-unsolicited a (i ∷ interfaces) = withdrawn-unsolicited a interfaces

announced-announcements : (v : ViewValue) (local : LocalNode) (zs : List AddressValue) → announced_in (flat_map (announcement v local) zs) ≡ zs
announced-announcements v local [] = refl
announced-announcements v local (a ∷ zs) =
    ap (λ (bs : List AddressValue). a ∷ bs) (
    announced-append (unsolicited v local a) (flat_map (announcement v local) zs)
    ∙ ap (λ (bs : List AddressValue). bs ++ announced_in (flat_map (announcement v local) zs)) (announced-unsolicited a (listening v local a))
    ∙ announced-announcements v local zs)

withdrawn-announcements : (v : ViewValue) (local : LocalNode) (zs : List AddressValue) → withdrawn_in (flat_map (announcement v local) zs) ≡ []
withdrawn-announcements v local [] = refl
withdrawn-announcements v local (a ∷ zs) =
    withdrawn-append (unsolicited v local a) (flat_map (announcement v local) zs)
    ∙ ap (λ (bs : List AddressValue). bs ++ withdrawn_in (flat_map (announcement v local) zs)) (withdrawn-unsolicited a (listening v local a))
    ∙ withdrawn-announcements v local zs

-- what is told to peers has none
pub record TellsNone (entries : List TranscriptEntry) : Type 0 where
  pub announced : announced_in entries ≡ []
  pub withdrawn : withdrawn_in entries ≡ []

none-append : (xs ys : List TranscriptEntry) → TellsNone xs → TellsNone ys → TellsNone (xs ++ ys)
none-append xs ys x y = record {
  announced = announced-append xs ys ∙ ap (λ (zs : List AddressValue). zs ++ announced_in ys) x.announced ∙ y.announced;
  withdrawn = withdrawn-append xs ys ∙ ap (λ (zs : List AddressValue). zs ++ withdrawn_in ys) x.withdrawn ∙ y.withdrawn;
}

none-messages : (peer : CompiledPeer) (messages : List (List ℕ)) → TellsNone (map (updated peer) messages)
none-messages peer [] = record { announced = refl; withdrawn = refl }
none-messages peer (message ∷ messages) = let rest = none-messages peer messages in record { announced = rest.announced; withdrawn = rest.withdrawn }

none-peers : (v v' : ViewValue) (node : List ℕ) (hop : NextHops) (peers : List CompiledPeer) → TellsNone (flat_map (updates_to v v' node hop) peers)
none-peers v v' node hop [] = record { announced = refl; withdrawn = refl }
none-peers v v' node hop (peer ∷ peers) =
    none-append (updates_to v v' node hop peer) (flat_map (updates_to v v' node hop) peers) (none-messages peer (messages_to v v' node hop peer))
    (none-peers v v' node hop peers)

none-hop : (are : Bool) (entries : List TranscriptEntry) → TellsNone entries → TellsNone (cond are entries [])
none-hop true entries none = none
none-hop false entries none = record { announced = refl; withdrawn = refl }

pub none-updates : (v v' : ViewValue) (node : List ℕ) (hop : Option NextHops) → TellsNone (updates_by v v' node hop)
none-updates v v' node None = record { announced = refl; withdrawn = refl }
none-updates v v' node (Some hop) = none-hop (are_hops hop) (flat_map (updates_to v v' node hop) (peers_of v')) (none-peers v v' node hop (peers_of v'))

none-answer : (v : ViewValue) (node : List ℕ) (found : Option Interface) (frame : List ℕ) → TellsNone (answer_by v node found frame)
none-answer v node None frame = record { announced = refl; withdrawn = refl }
none-answer v node (Some i) frame = go (answer_on v node i frame) where
  go : (answer : Option (List ℕ)) → TellsNone (sent_on i answer)
  go None = record { announced = refl; withdrawn = refl }
  go (Some answer) = record { announced = refl; withdrawn = refl }

-- what is told of a change, with what is told to peers after it
module _ (v : ViewValue) (local : LocalNode) (note : TakeNote) (before after : List AddressValue) (updates : List TranscriptEntry)
    (none : TellsNone updates) where
  abbrev gone : List TranscriptEntry
  gone = Noted note ∷ withdrawals before after

  abbrev come : List TranscriptEntry
  come = announcements v local before after ++ updates

  come-announces : announced_in come ≡ difference after before
  come-announces =
      announced-append (announcements v local before after) updates
      ∙ ap (λ (zs : List AddressValue). announced_in (announcements v local before after) ++ zs) none.announced
      ∙ append-nil (announced_in (announcements v local before after))
      ∙ announced-announcements v local (difference after before)

  come-withdraws : withdrawn_in come ≡ []
  come-withdraws =
      withdrawn-append (announcements v local before after) updates
      ∙ ap (λ (zs : List AddressValue). withdrawn_in (announcements v local before after) ++ zs) none.withdrawn
      ∙ append-nil (withdrawn_in (announcements v local before after))
      ∙ withdrawn-announcements v local (difference after before)

  change-splits : entries_for v local note before after ++ updates ≡ gone ++ come
  change-splits = append_assoc gone (announcements v local before after) updates

  pub change-announces : announced_in (entries_for v local note before after ++ updates) ≡ difference after before
  change-announces =
      ap announced_in change-splits
      ∙ announced-append gone come
      ∙ ap (λ (zs : List AddressValue). zs ++ announced_in come) (announced-withdrawals (difference before after))
      ∙ come-announces

  change-withdraws : withdrawn_in (entries_for v local note before after ++ updates) ≡ difference before after
  change-withdraws =
      ap withdrawn_in change-splits
      ∙ withdrawn-append gone come
      ∙ ap (λ (zs : List AddressValue). withdrawn_in gone ++ zs) come-withdraws
      ∙ append-nil (withdrawn_in gone)
      ∙ withdrawn-withdrawals (difference before after)

-- ---- what a difference has
module _ (node : List ℕ) (v w : ViewValue) where
  abbrev alone : List AddressValue
  alone = difference (announced_by v node) (announced_by w node)

  -- the test at an address
  tested : (a : AddressValue) → has_address alone a ≡ (announces_of v node a && not (announces_of w node a))
  tested a =
      has-difference a (announced_by v node) (announced_by w node)
      ∙ ap (λ (b : Bool). b && not (has_address (announced_by w node) a)) (has-announced v node a)
      ∙ ap (λ (b : Bool). announces_of v node a && not b) (has-announced w node a)

  refuses : (a : AddressValue) (b : Bool) → announces_of w node a ≡ b → not b ≡ true → ¬ (IsAnnouncer w a node)
  refuses a true is passes announcer = absurd (cc)
  refuses a false is passes announcer = true≢false (sym (announcer-announces w a node announcer) ∙ is)

  pub alone-means : (a : AddressValue) → IsIn alone a ↔ AnnouncesAlone node v w a
  alone-means a = (
    λ there.
        let both = and_parts (announces_of v node a) (not (announces_of w node a)) (sym (tested a) ∙ has_address-from alone a (in-contains alone a there)) in
        (announces-announcer v a node both.0, refuses a (announces_of w node a) refl both.1),
    λ is.
        let none : announces_of w node a ≡ false = false_from_ne_true (announces_of w node a) (λ h. is.1 (announces-announcer w a node h)) in
        contains-in alone a (has_address-is alone a
        (tested a ∙ and_from (announces_of v node a) (not (announces_of w node a)) (announcer-announces v a node is.0) (ap not none))),
  )

  pub alone-ascends : IsStrictlySortedBy address_cmp alone
  alone-ascends = IsStrictlySortedBy-filter address_cmp (λ a. not (has_address (announced_by w node) a)) (announced_by v node) (all_are_announced v node).ascend

-- ---- events
-- nothing is told where the view stays
still : (node : List ℕ) (v : ViewValue) (entries : List TranscriptEntry) → TellsNone entries → TellsChange node v v entries
still node v entries none = record {
  withdrawn = λ a.
      (λ there. let none_there : IsIn [] a = subst (λ (zs : List AddressValue). IsIn zs a) none.withdrawn there in absurd none_there, λ is. absurd (is.1 is.0));
  announced = λ a.
      (λ there. let none_there : IsIn [] a = subst (λ (zs : List AddressValue). IsIn zs a) none.announced there in absurd none_there, λ is. absurd (is.1 is.0));
  withdrawn_ascend = subst (IsStrictlySortedBy address_cmp) (sym none.withdrawn) nothing_ascends;
  announced_ascend = subst (IsStrictlySortedBy address_cmp) (sym none.announced) nothing_ascends;
  first = [];
  later = entries;
  split = refl;
  first_withdraws = refl;
  later_announces = none.withdrawn;
}

event-told : (o : Option Received) (s : SpeakerState) (event : Event) → frame_in event ≡ o
    → TellsChange s.local.node s.view (view_after event s.view) (entries_at o s event)
event-told (Some received) s event is =
    let stays = frame_leaves event received s.view is in
    subst (λ (w : ViewValue). TellsChange s.local.node s.view w (entries_at (Some received) s event)) (sym stays)
    (still s.local.node s.view (entries_at (Some received) s event) (none-answer s.view s.local.node (interface_of s.local received.interface) received.frame))
event-told None s event is =
    let node = s.local.node in
    let v = s.view in
    let w = view_after event s.view in
    let note = note_by s.view event in
    let none = none-updates v w node s.local.next_hops in
    let before = announced_by v node in
    let after = announced_by w node in
    let updates = update_entries v w s.local in
    let gone = change-withdraws w s.local note before after updates none in
    let come = change-announces w s.local note before after updates none in
    record {
      withdrawn = λ a. subst (λ (zs : List AddressValue). IsIn zs a ↔ AnnouncesAlone node v w a) (sym gone) (alone-means node v w a);
      announced = λ a. subst (λ (zs : List AddressValue). IsIn zs a ↔ AnnouncesAlone node w v a) (sym come) (alone-means node w v a);
      withdrawn_ascend = subst (IsStrictlySortedBy address_cmp) (sym gone) (alone-ascends node v w);
      announced_ascend = subst (IsStrictlySortedBy address_cmp) (sym come) (alone-ascends node w v);
      first = Noted note ∷ withdrawals before after;
      later = announcements w s.local before after ++ updates;
      split = change-splits w s.local note before after updates none;
      first_withdraws = announced-withdrawals (difference before after);
      later_announces = come-withdraws w s.local note before after updates none;
    }

pub line-told : (s : SpeakerState) (line : Line) (t : SpeakerState) (entries : List TranscriptEntry) → line_step s line ≡ Goes t entries
    → TellsChange s.local.node s.view t.view entries
line-told s line t entries goes =
    let by = event_applies (event_of_line line.bytes) s t line entries goes in
    subst (λ (es : List TranscriptEntry). TellsChange s.local.node s.view t.view es) (sym by.tells)
    (subst (λ (u : SpeakerState). TellsChange s.local.node s.view u.view (entries_of s by.event)) (sym by.leads)
    (event-told (frame_in by.event) s by.event refl))

pub lines_tell_what_changes : (start : SpeakerState) → TellsWhatChanges start
lines_tell_what_changes start lines s told taken line t entries goes =
    subst (λ (local : LocalNode). TellsChange local.node s.view t.view entries) (station_kept lines start s told taken) (line-told s line t entries goes)
