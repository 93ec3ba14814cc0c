-- What a peer was told since it came adds up to its routes.
use Rattle.std.proofs.Common.{◌≡◌, ◌<◌, ◌^◌, ℕ, Bool, true, false, cond, ◌&&◌, ◌==◌, List, [], ◌∷◌, ◌++◌, map}
use Rattle.std.proofs.Common.{Option, Some, None, Ok, refl, sym, ap, ◌∙◌, subst, inl, inr, append_assoc, arith}
use Rattle.std.proofs.lemmas.Bool.{and_from, eq-eqb, eqb-true, true≢false}
use Rattle.std.proofs.lemmas.List.{append-nil}
use Rattle.std.proofs.lemmas.Grind.{flat_map-append}
use Rattle.std.proofs.lemmas.Slice.Eq.{bytes_eq-Decides}
use Rattle.std.specs.List.{AllByRecursion, AllZip, find, flat_map}
use Rattle.std.specs.List.Sorted.{IsStrictlySortedBy}
use Rattle.std.specs.Option.{option_map, option_to_list}
use Rattle.std.specs.Str.{bytes_eq}
use Rattle.ip_ranges.specs.declared.family.Family.{Family}
use Rattle.ip_ranges.specs.declared.family.Family.TheVariants.{V4, V6}
use Rattle.ip_ranges.specs.Values.{AddressValue, PrefixValue, width_of, same_family}
use Rattle.kube_events.specs.Event.{event_of_line}
use Rattle.kube_model.specs.declared.event.Event.{Event}
use Rattle.line_event_laws.proofs.Shown.{lines_show_numbers, text-fits}
use Rattle.mlb_base.specs.Items.{IsIn}
use Rattle.mlb_base.proofs.Lists.{all-append}
use Rattle.mlb_edge.specs.declared.lines.Line.{Line}
use Rattle.object_cache.specs.declared.change.TakeNote.{TakeNote}
use Rattle.line_run.specs.Machine.{Goes}
use Rattle.line_run.specs.Run.{AreTaken}
use Rattle.line_run.proofs.Runs.{AreTaken-push}
use Rattle.pool_config.specs.ConfigValue.{ConfigValue}
use Rattle.pool_config.specs.declared.compiled.CompiledPeer.{CompiledPeer}
use Rattle.speaker_view.specs.ViewValue.{ViewValue}
use Rattle.speaker_view.specs.View.{fresh, view_after, note_by}
use Rattle.speaker_words.specs.Reading.{said_in}
use Rattle.command_options.specs.Values.{values_of}
use Rattle.speaker_words.specs.Words.{Said, Say, IsNextHop, next_hop_option, next_hop_v6_option}
use Rattle.speaker_words.proofs.NamedWords.{read-say}
use Rattle.bgp_updates.specs.declared.route.Terms.{Terms}
use Rattle.bgp_updates.specs.declared.route.Peering.{Peering}
use Rattle.bgp_updates.specs.Between.{peering_of, messages_between, number_of_hop}
use Rattle.bgp_updates.specs.Received.{terms_at}
use Rattle.bgp_reading.specs.Joined.{received_bytes}
use Rattle.bgp_reading.specs.Laws.{CanBeTold, joined, last_table, messages_over}
use Rattle.bgp_reading.specs.Update.{IsMessageOf}
use Rattle.bgp_reading.proofs.ReceivedAgain.{of-sender, tables-received}
use Rattle.bgp_routes.specs.Routes.{routes_of}
use Rattle.bgp_routes.specs.Few.{HasFewInForce}
use Rattle.bgp_routes.proofs.Few.{each-of}
use Rattle.shown_view_laws.proofs.InForce.{fresh-few, after-few}
use Rattle.shown_view_laws.specs.Numbered.{IsNumbered, IsNumberedConfig, HasCompiledAsn}
use Rattle.shown_view_laws.proofs.Kept.{fresh-numbered, after-numbered}
use Rattle.shown_view_laws.proofs.Tellable.{routes_can_be_told}
use Rattle.announced_set.specs.Announced.{announced_by}
use Rattle.announced_set.specs.Changes.{difference}
use Rattle.bgp_routes.specs.Peers.{peers_in, peers_of}
use Rattle.speaker_machine.specs.declared.transcript.TranscriptEntry.{TranscriptEntry}
use Rattle.speaker_machine.specs.declared.local_node.Interface.{Interface}
use Rattle.speaker_machine.specs.declared.local_node.NextHops.{NextHops}
use Rattle.speaker_machine.specs.declared.local_node.LocalNode.{LocalNode}
use Rattle.speaker_machine.specs.Transcript.{withdrawn, withdrawals, announcements, entries_for}
use Rattle.speaker_machine.specs.Updates.{IsSamePeer, IsThere}
use Rattle.speaker_machine.specs.Updates.{table_by, table_of, messages_to, updated, updates_to, updates_by, update_entries, are_hops, both_with, is_v6}
use Rattle.speaker_machine.specs.Sends.{unsolicited_by, unsolicited, listening, announcement, answer_on, sent_on, answer_by, interface_of}
use Rattle.speaker_machine.specs.LocalNode.{hops_of}
use Rattle.speaker_machine.specs.Stream.{SpeakerState, Received, first_state, frame_in, changes_of, entries_at, line_step, speaker_rules}
use Rattle.speaker_machine.proofs.NamedPeers.{NamesAscend, apart-later, decided, found, has-peer, names-tail}
use Rattle.speaker_machine.proofs.NamedPeers.{not-found, other-name, peer-has}
use Rattle.speaker_machine.proofs.Steps.{frame_leaves}
use Rattle.speaker_laws.specs.Clauses.{nothing_said, begun_with}
use Rattle.speaker_laws.specs.Heard.{message_to, messages_told, StaysOver, HasComeSince, GiveTable, AreToldBy, HearsItsRoutes, PeersHearTheirRoutes}
use Rattle.speaker_laws.proofs.Telling.{event_applies, station_kept}

-- ---- what entries tell a peer

module _ (name : List ℕ) where
  told-append : (xs ys : List TranscriptEntry) → messages_told name (xs ++ ys) ≡ messages_told name xs ++ messages_told name ys
  told-append xs ys = flat_map-append (message_to name) xs ys

  told-withdrawn : (addresses : List AddressValue) → messages_told name (map withdrawn addresses) ≡ []
  told-withdrawn [] = refl
  told-withdrawn (a ∷ addresses) = told-withdrawn addresses

  told-unsolicited : (a : AddressValue) (interfaces : List Interface) → messages_told name (map (unsolicited_by a) interfaces) ≡ []
  told-unsolicited a [] = refl
  told-unsolicited a (i ∷ interfaces) = told-unsolicited a interfaces

  told-announced : (v : ViewValue) (local : LocalNode) (addresses : List AddressValue) → messages_told name (flat_map (announcement v local) addresses) ≡ []
  told-announced v local [] = refl
  told-announced v local (a ∷ addresses) =
      told-append (unsolicited v local a) (flat_map (announcement v local) addresses)
      ∙ ap (λ ms. ms ++ messages_told name (flat_map (announcement v local) addresses)) (told-unsolicited a (listening v local a))
      ∙ told-announced v local addresses

  told-changes : (v : ViewValue) (local : LocalNode) (note : TakeNote) (before after : List AddressValue)
      → messages_told name (entries_for v local note before after) ≡ []
  told-changes v local note before after =
      told-append (withdrawals before after) (announcements v local before after)
      ∙ ap (λ ms. ms ++ messages_told name (announcements v local before after)) (told-withdrawn (difference before after))
      ∙ told-announced v local (difference after before)

  told-answer : (v : ViewValue) (node : List ℕ) (i : Option Interface) (frame : List ℕ) → messages_told name (answer_by v node i frame) ≡ []
  told-answer v node None frame = refl
  told-answer v node (Some i) frame = by_answer (answer_on v node i frame) where
    by_answer : (answer : Option (List ℕ)) → messages_told name (sent_on i answer) ≡ []
    by_answer None = refl
    by_answer (Some answer) = refl

  -- the messages to a peer of the name, and to one of another name
  told-own : (peer : CompiledPeer) (messages : List (List ℕ)) → bytes_eq peer.name name ≡ true → messages_told name (map (updated peer) messages) ≡ messages
  told-own peer [] own = refl
  told-own peer (message ∷ messages) own = rw own (ap (λ ms. message ∷ ms) (told-own peer messages own))

  told-other : (peer : CompiledPeer) (messages : List (List ℕ)) → bytes_eq peer.name name ≡ false → messages_told name (map (updated peer) messages) ≡ []
  told-other peer [] other = refl
  told-other peer (message ∷ messages) other = rw other (told-other peer messages other)

-- ---- views that lines lead to

pub record IsGoodView (v : ViewValue) : Type 0 where
  pub numbered : IsNumbered v
  pub few : HasFewInForce v

names-in : (config : Option ConfigValue) → ((c : ConfigValue) → config ≡ Some c → IsNumberedConfig c) → NamesAscend (peers_in config)
unfolding IsStrictlySortedBy
names-in None are = tt
names-in (Some c) are = (are c refl).names

asns-in : (config : Option ConfigValue) → ((c : ConfigValue) → config ≡ Some c → IsNumberedConfig c) → AllByRecursion HasCompiledAsn (peers_in config)
asns-in None are = tt
asns-in (Some c) are = (are c refl).peers

names-of : (v : ViewValue) → IsGoodView v → NamesAscend (peers_of v)
names-of v good = names-in v.held.config good.numbered.config

good-after : (event : Event) (line : List ℕ) (v : ViewValue) → event_of_line line ≡ Ok event → IsGoodView v → IsGoodView (view_after event v)
good-after event line v reads good = record {
  numbered = after-numbered event v (lines_show_numbers line event reads) good.numbered;
  few = after-few event v good.few;
}

pub line-good : (s t : SpeakerState) (line : Line) (entries : List TranscriptEntry) → line_step s line ≡ Goes t entries → IsGoodView s.view → IsGoodView t.view
line-good s t line entries goes good =
    let by = event_applies (event_of_line line.bytes) s t line entries goes in
    subst (λ (u : SpeakerState). IsGoodView u.view) (sym by.leads) (good-after by.event line.bytes s.view by.reads good)

lines-good : (lines : List Line) (s t : SpeakerState) (entries : List TranscriptEntry) → AreTaken speaker_rules lines s t entries → IsGoodView s.view
    → IsGoodView t.view
lines-good [] s t entries taken good = subst (λ (u : SpeakerState). IsGoodView u.view) (sym taken.0) good
lines-good (line ∷ lines) s t entries (next, first, rest, goes, others, is) good = lines-good lines next t rest others (line-good s next line first goes good)

fresh-good : (class : Option (List ℕ)) → IsGoodView (fresh class)
fresh-good class = record { numbered = fresh-numbered class; few = fresh-few class }

pub begun-good : (o : Option Said) → IsGoodView (begun_with o).view
begun-good None = fresh-good None
begun-good (Some said) = fresh-good said.class

-- ---- what a peer is told

module _ (peer : CompiledPeer) (node : List ℕ) (hop : NextHops) (are : are_hops hop ≡ true) (small : hop.v4.number < 2 ^ 32)
    (small_v6 : number_of_hop hop.v6 < 2 ^ 128) where
  abbrev Table : Type 0
  Table = List (PrefixValue × Terms)

  abbrev told : List TranscriptEntry → List (List ℕ)
  told entries = messages_told peer.name entries

  abbrev peering : Peering
  peering = peering_of peer hop.v4 hop.v6

  abbrev both : Bool
  both = both_with hop

  -- the table of a peer that is there, and of one that isn't
  there-table : (v : ViewValue) (other : CompiledPeer) → IsGoodView v → IsIn (peers_of v) other → IsSamePeer peer other
      → table_of v node both peer ≡ routes_of v node other both
  there-table v other good there same = ap (table_by v node both) (found peer other (peers_of v) (names-of v good) there same)

  absent-table : (v : ViewValue) → ¬ (IsThere peer v) → table_of v node both peer ≡ []
  absent-table v absent = ap (table_by v node both) (not-found peer (peers_of v) absent)

  -- the same for each peer of its name and AS numbers
  abbrev table_for : ViewValue → List ℕ → ℕ → ℕ → Table
  table_for v name my_asn peer_asn =
      table_by v node both (find (λ (q : CompiledPeer). bytes_eq q.name name && (q.my_asn == my_asn) && (q.peer_asn == peer_asn)) (peers_of v))

  same-table : (v : ViewValue) (other : CompiledPeer) → IsSamePeer peer other → table_of v node both other ≡ table_of v node both peer
  same-table v other same =
      ap (λ (n : List ℕ). table_for v n other.my_asn other.peer_asn) same.name
      ∙ ap (λ (m : ℕ). table_for v peer.name m other.peer_asn) same.my_asn
      ∙ ap (λ (m : ℕ). table_for v peer.name peer.my_asn m) same.peer_asn

  same-peering : (other : CompiledPeer) → IsSamePeer peer other → peering_of other hop.v4 hop.v6 ≡ peering
  same-peering other same =
      ap (λ (m : ℕ). let p : Peering =
      record { own = cond (m == other.peer_asn) None (Some m); next_hop = hop.v4.number; next_hop_v6 = number_of_hop hop.v6 } in p) same.my_asn
      ∙ ap (λ (m : ℕ). let p : Peering =
      record { own = cond (peer.my_asn == m) None (Some peer.my_asn); next_hop = hop.v4.number; next_hop_v6 = number_of_hop hop.v6 } in p) same.peer_asn

  module _ (v v' : ViewValue) where
    -- to peers of other names nothing is told
    others-told : (peers : List CompiledPeer) → ((q : CompiledPeer) → IsIn peers q → q.name ≡ peer.name → ⊥)
        → told (flat_map (updates_to v v' node hop) peers) ≡ []
    others-told [] apart = refl
    others-told (q ∷ peers) apart =
        told-append peer.name (updates_to v v' node hop q) (flat_map (updates_to v v' node hop) peers)
        ∙ ap (λ ms. ms ++ told (flat_map (updates_to v v' node hop) peers))
        (told-other peer.name q (messages_to v v' node hop q) (other-name q.name peer.name (apart q (inl refl))))
        ∙ others-told peers (λ p there. apart p (inr there))

    peers-told : (other : CompiledPeer) (peers : List CompiledPeer) → NamesAscend peers → IsIn peers other → IsSamePeer peer other
        → told (flat_map (updates_to v v' node hop) peers) ≡ messages_to v v' node hop other
    peers-told other [] sorted none same = absurd none
    peers-told other (p ∷ peers) sorted (inl here) same =
        let named : p.name ≡ peer.name = ap (λ (q : CompiledPeer). q.name) here ∙ same.name in
        told-append peer.name (updates_to v v' node hop p) (flat_map (updates_to v v' node hop) peers)
        ∙ ap (λ ms. ms ++ told (flat_map (updates_to v v' node hop) peers))
        (told-own peer.name p (messages_to v v' node hop p) ((bytes_eq-Decides p.name peer.name).1 named))
        ∙ ap (λ ms. messages_to v v' node hop p ++ ms) (others-told peers (λ q there is. apart-later p q peers sorted there (named ∙ sym is)))
        ∙ append-nil (messages_to v v' node hop p)
        ∙ ap (messages_to v v' node hop) here
    peers-told other (p ∷ peers) sorted (inr later) same =
        told-append peer.name (updates_to v v' node hop p) (flat_map (updates_to v v' node hop) peers)
        ∙ ap (λ ms. ms ++ told (flat_map (updates_to v v' node hop) peers))
        (told-other peer.name p (messages_to v v' node hop p)
        (other-name p.name peer.name (λ named. apart-later p other peers sorted later (named ∙ sym same.name))))
        ∙ peers-told other peers (names-tail p peers sorted) later same

    hop-told : (b : Bool) (entries : List TranscriptEntry) → b ≡ true → cond b entries [] ≡ entries
    hop-told true entries is = refl
    hop-told false entries is = absurd (true≢false (sym is))

    -- the messages that are told of an event, to a peer that is there after it
    updates-told : (other : CompiledPeer) → IsGoodView v' → IsIn (peers_of v') other → IsSamePeer peer other
        → told (updates_by v v' node (Some hop)) ≡ messages_between peering (table_of v node both peer) (routes_of v' node other both)
    updates-told other good there same =
        ap told (hop-told (are_hops hop) (flat_map (updates_to v v' node hop) (peers_of v')) are)
        ∙ peers-told other (peers_of v') (names-of v' good) there same
        ∙ ap (λ (p : Peering). messages_between p (table_of v node both other) (routes_of v' node other both)) (same-peering other same)
        ∙ ap (λ (t : Table). messages_between peering t (routes_of v' node other both)) (same-table v other same)

  -- ---- one table after the other

  over-append : (old : Table) (xs ys : List Table)
      → messages_over peering old (xs ++ ys) ≡ messages_over peering old xs ++ messages_over peering (last_table old xs) ys
  over-append old [] ys = refl
  over-append old (x ∷ xs) ys =
      ap (λ ms. messages_between peering old x ++ ms) (over-append x xs ys)
      ∙ sym (append_assoc (messages_between peering old x) (messages_over peering x xs) (messages_over peering (last_table x xs) ys))

  last-append : (old : Table) (xs ys : List Table) → last_table old (xs ++ ys) ≡ last_table (last_table old xs) ys
  last-append old [] ys = refl
  last-append old (x ∷ xs) ys = last-append x xs ys

  -- what was told leads from the table before to the one after, over tables that can be told
  record Leads (v v' : ViewValue) (messages : List (List ℕ)) : Type 0 where
    tables : List Table
    tellable : AllByRecursion (CanBeTold peering) tables
    messages_are : messages ≡ messages_over peering (table_of v node both peer) tables
    last : last_table (table_of v node both peer) tables ≡ table_of v' node both peer

  leads-nowhere : (v : ViewValue) (messages : List (List ℕ)) → messages ≡ [] → Leads v v messages
  leads-nowhere v messages none = record { tables = []; tellable = tt; messages_are = none; last = refl }

  leads-on : (u v w : ViewValue) (first rest : List (List ℕ)) → Leads u v first → Leads v w rest → Leads u w (first ++ rest)
  leads-on u v w first rest a b =
      let old = table_of u node both peer in
      record {
        tables = a.tables ++ b.tables;
        tellable = all-append (CanBeTold peering) a.tables b.tables a.tellable b.tellable;
        messages_are =
            ap (λ ms. ms ++ rest) a.messages_are
            ∙ ap (λ ms. messages_over peering old a.tables ++ ms) (b.messages_are ∙ ap (λ (t : Table). messages_over peering t b.tables) (sym a.last))
            ∙ sym (over-append old a.tables b.tables);
        last = last-append old a.tables b.tables ∙ ap (λ (t : Table). last_table t b.tables) a.last ∙ b.last;
      }

  can-be-told : (v : ViewValue) (other : CompiledPeer) → IsGoodView v → IsIn (peers_of v) other → IsSamePeer peer other
      → CanBeTold peering (routes_of v node other both)
  can-be-told v other good there same =
      subst (λ (p : Peering). CanBeTold p (routes_of v node other both)) (same-peering other same)
      (routes_can_be_told v node other both hop.v4 hop.v6 good.numbered good.few
      (each-of HasCompiledAsn (peers_of v) other (asns-in v.held.config good.numbered.config) there) small small_v6)

  -- ---- an event

  module _ (s : SpeakerState) (at : s.local.node ≡ node) (hops : s.local.next_hops ≡ Some hop) where
    changes-told : (event : Event) → told (changes_of s event) ≡ told (updates_by s.view (view_after event s.view) node (Some hop))
    changes-told event =
        let v' = view_after event s.view in
        let others = entries_for v' s.local (note_by s.view event) (announced_by s.view s.local.node) (announced_by v' s.local.node) in
        told-append peer.name others (update_entries s.view v' s.local)
        ∙ ap (λ ms. ms ++ told (update_entries s.view v' s.local))
        (told-changes peer.name v' s.local (note_by s.view event) (announced_by s.view s.local.node) (announced_by v' s.local.node))
        ∙ ap (λ (n : List ℕ). told (updates_by s.view v' n s.local.next_hops)) at
        ∙ ap (λ (h : Option NextHops). told (updates_by s.view v' node h)) hops

    event-leads : (event : Event) (o : Option Received) → frame_in event ≡ o → IsGoodView (view_after event s.view) → IsThere peer (view_after event s.view)
        → Leads s.view (view_after event s.view) (told (entries_at o s event))
    event-leads event (Some received) is good there =
        subst (λ (u : ViewValue). Leads s.view u (told (entries_at (Some received) s event))) (sym (frame_leaves event received s.view is))
        (leads-nowhere s.view (told (entries_at (Some received) s event))
        (told-answer peer.name s.view s.local.node (interface_of s.local received.interface) received.frame))
    event-leads event None is good there =
        let v' = view_after event s.view in
        let (other, among, same) = has-peer peer (peers_of v') there in
        record {
          tables = routes_of v' node other both ∷ [];
          tellable = (can-be-told v' other good among same, tt);
          messages_are = changes-told event ∙ updates-told s.view v' other good among same
              ∙ sym (append-nil (messages_between peering (table_of s.view node both peer) (routes_of v' node other both)));
          last = sym (there-table v' other good among same);
        }

    line-leads : (t : SpeakerState) (line : Line) (entries : List TranscriptEntry) → line_step s line ≡ Goes t entries → IsGoodView t.view → IsThere peer t.view
        → Leads s.view t.view (told entries)
    line-leads t line entries goes good there =
        let by = event_applies (event_of_line line.bytes) s t line entries goes in
        let view_is : t.view ≡ view_after by.event s.view = ap (λ (u : SpeakerState). u.view) by.leads in
        subst (λ (u : ViewValue). Leads s.view u (told entries)) (sym view_is)
        (subst (λ (es : List TranscriptEntry). Leads s.view (view_after by.event s.view) (told es)) (sym by.tells)
        (event-leads by.event (frame_in by.event) refl (subst IsGoodView view_is good) (subst (IsThere peer) view_is there)))

  -- ---- lines

  lines-lead : (lines : List Line) (s t : SpeakerState) (entries : List TranscriptEntry) → s.local.node ≡ node → s.local.next_hops ≡ Some hop
      → IsGoodView s.view
      → StaysOver peer lines s t entries → Leads s.view t.view (told entries)
  lines-lead [] s t entries at hops good stays =
      subst (λ (u : SpeakerState). Leads s.view u.view (told entries)) (sym stays.0) (leads-nowhere s.view (told entries) (ap told stays.1))
  lines-lead (line ∷ lines) s t entries at hops good (next, first, rest, goes, there, later, is) =
      let next_good = line-good s next line first goes good in
      let kept : next.local ≡ s.local = ap (λ (u : SpeakerState). u.local) (event_applies (event_of_line line.bytes) s next line first goes).leads in
      subst (λ (ms : List (List ℕ)). Leads s.view t.view ms) (sym (ap told is ∙ told-append peer.name first rest))
      (leads-on s.view next.view t.view (told first) (told rest)
      (line-leads s at hops next line first goes next_good there)
      (lines-lead lines next t rest (ap (λ (x : LocalNode). x.node) kept ∙ at) (ap (λ (x : LocalNode). x.next_hops) kept ∙ hops) next_good later))

  -- from where the peer isn't there
  leads-from : (v v' : ViewValue) (messages : List (List ℕ)) → ¬ (IsThere peer v) → (leads : Leads v v' messages)
      → messages ≡ messages_over peering [] leads.tables
  leads-from v v' messages absent leads = leads.messages_are ∙ ap (λ (t : Table). messages_over peering t leads.tables) (absent-table v absent)

  leads-table : (v v' : ViewValue) (messages : List (List ℕ)) → ¬ (IsThere peer v) → IsGoodView v' → IsIn (peers_of v') peer → Leads v v' messages
      → GiveTable messages (routes_of v' node peer both)
  leads-table v v' messages absent good there leads p =
      let same : IsSamePeer peer peer = record { name = refl; my_asn = refl; peer_asn = refl } in
      let last : last_table [] leads.tables ≡ routes_of v' node peer both =
      ap (λ (t : Table). last_table t leads.tables) (sym (absent-table v absent)) ∙ leads.last ∙ there-table v' peer good there same in
      ap (λ (ms : List (List ℕ)). option_map (λ table. table p) (received_bytes (λ q. None) (joined ms))) (leads-from v v' messages absent leads)
      ∙ tables-received peering [] leads.tables (tt, tt) leads.tellable p
      ∙ ap (λ (t : Table). Some (terms_at t p)) last

  inside : (b : Bool) → (peer.my_asn == peer.peer_asn) ≡ b → peer.my_asn ≡ peer.peer_asn → cond b None (Some peer.my_asn) ≡ None
  inside true e same = refl
  inside false e same = absurd (true≢false (sym (ap (λ (n : ℕ). n == peer.peer_asn) same ∙ eq-eqb peer.peer_asn peer.peer_asn refl) ∙ e))

  outside : (b : Bool) → (peer.my_asn == peer.peer_asn) ≡ b → (peer.my_asn ≡ peer.peer_asn → ⊥) → cond b None (Some peer.my_asn) ≡ Some peer.my_asn
  outside true e other = absurd (other (eqb-true peer.my_asn peer.peer_asn e))
  outside false e other = refl

  leads-told : (v v' : ViewValue) (messages : List (List ℕ)) → ¬ (IsThere peer v) → Leads v v' messages → AreToldBy peer hop messages
  leads-told v v' messages absent leads = (
    peering,
    record {
      next_hop = refl;
      next_hop_v6 = λ h is. ap number_of_hop is;
      inside = inside (peer.my_asn == peer.peer_asn) refl;
      outside = outside (peer.my_asn == peer.peer_asn) refl;
    },
    subst (AllByRecursion (IsMessageOf peering)) (sym (leads-from v v' messages absent leads)) (of-sender peering [] leads.tables (tt, tt) leads.tellable),
  )

-- ---- each peer has come

module _ (start : SpeakerState) (peer : CompiledPeer) where
  abbrev HasCome : List Line → SpeakerState → Type 0
  HasCome lines s = IsThere peer s.view → (told : List TranscriptEntry) × HasComeSince start lines peer s told

  stays-push : (lines : List Line) (s t u : SpeakerState) (line : Line) (told more : List TranscriptEntry) → StaysOver peer lines s t told
      → line_step t line ≡ Goes u more → IsThere peer u.view
      → StaysOver peer (lines ++ line ∷ []) s u (told ++ more)
  stays-push [] s t u line told more stays goes there = (
    u,
    more,
    [],
    subst (λ (x : SpeakerState). line_step x line ≡ Goes u more) stays.0 goes,
    there,
    (refl, refl),
    ap (λ (es : List TranscriptEntry). es ++ more) stays.1 ∙ sym (append-nil more),
  )
  stays-push (l ∷ lines) s t u line told more (next, first, rest, steps, here, later, is) goes there = (
    next,
    first,
    rest ++ more,
    steps,
    here,
    stays-push lines next t u line rest more later goes there,
    ap (λ (es : List TranscriptEntry). es ++ more) is ∙ append_assoc first rest more,
  )

  come-next : (done : List Line) (s next : SpeakerState) (line : Line) (before first : List TranscriptEntry) → AreTaken speaker_rules done start s before
      → line_step s line ≡ Goes next first → HasCome done s → HasCome (done ++ line ∷ []) next
  come-next done s next line before first reached goes come there = elim (decided peer s.view) [
    | inl already ↦
        let (told, since) = come already in (
          told ++ first,
          record {
            earlier = since.earlier;
            later = since.later ++ line ∷ [];
            split = ap (λ (ls : List Line). ls ++ line ∷ []) since.split ∙ append_assoc since.earlier since.later (line ∷ []);
            s = since.s;
            before = since.before;
            reached = since.reached;
            absent = since.absent;
            stays = stays-push since.later since.s s next line told first since.stays goes there;
          },
        )
    | inr absent ↦ (
      first,
      record {
        earlier = done;
        later = line ∷ [];
        split = refl;
        s = s;
        before = before;
        reached = reached;
        absent = absent;
        stays = (next, first, [], goes, there, (refl, refl), sym (append-nil first));
      },
    )
  ]

  come-by : (lines done : List Line) (s t : SpeakerState) (before entries : List TranscriptEntry) → AreTaken speaker_rules done start s before → HasCome done s
      → AreTaken speaker_rules lines s t entries → HasCome (done ++ lines) t
  come-by [] done s t before entries reached come taken =
      subst (λ (ls : List Line). HasCome ls t) (sym (append-nil done)) (subst (HasCome done) (sym taken.0) come)
  come-by (line ∷ lines) done s t before entries reached come (next, first, rest, goes, others, is) =
      subst (λ (ls : List Line). HasCome ls t) (append_assoc done (line ∷ []) lines)
      (come-by lines (done ++ line ∷ []) next t (before ++ first) rest
      (AreTaken-push speaker_rules done start s next line before first reached goes)
      (come-next done s next line before first reached goes come) others)

-- ---- runs

-- hops are of their families, and fit them
record FitHops (hop : NextHops) : Type 0 where
  pub are : are_hops hop ≡ true
  pub small : hop.v4.number < 2 ^ 32
  pub small_v6 : number_of_hop hop.v6 < 2 ^ 128

module _ (said : Said) where
  abbrev start : SpeakerState
  start = first_state said

  nobody-yet : (peer : CompiledPeer) → IsThere peer start.view → ⊥
  nobody-yet peer none = none

  hears-with : ((hop : NextHops) → hops_of said ≡ Some hop → FitHops hop) → HearsItsRoutes start
  hears-with hops lines t all taken hop is peer there =
      let by = hops hop is in
      let same : IsSamePeer peer peer = record { name = refl; my_asn = refl; peer_asn = refl } in
      let good = lines-good lines start t all taken (fresh-good said.class) in (
        come-by start peer lines [] start t [] all (refl, refl) (λ yet. absurd (nobody-yet peer yet)) taken (peer-has peer peer (peers_of t.view) there same),
        λ told since.
            let kept = station_kept since.earlier start since.s since.before since.reached in
            let at : since.s.local.node ≡ said.node = ap (λ (x : LocalNode). x.node) kept in
            let next : since.s.local.next_hops ≡ Some hop = ap (λ (x : LocalNode). x.next_hops) kept ∙ is in
            let begun = lines-good since.earlier start since.s since.before since.reached (fresh-good said.class) in
            let leads = lines-lead peer said.node hop by.are by.small by.small_v6 since.later since.s t told at next begun since.stays in (
              leads-table peer said.node hop by.are by.small by.small_v6 since.s.view t.view (messages_told peer.name told) since.absent good there leads,
              leads-told peer said.node hop by.are by.small by.small_v6 since.s.view t.view (messages_told peer.name told) since.absent leads,
            ),
      )

-- a hop of the family that fits it
hop-of : (family : Family) (values : List (List ℕ)) (next_hop : Option AddressValue) (hop : AddressValue)
    → AllZip (IsNextHop family) values (option_to_list next_hop) → next_hop ≡ Some hop
    → (hop.family ≡ family) × (hop.number < 2 ^ width_of family)
hop-of family values None hop zip is = absurd (cc)
hop-of family [] (Some h) hop zip is = absurd zip
hop-of family (text ∷ values) (Some h) hop zip is =
    let same : h ≡ hop = cc in
    let next : IsNextHop family text hop = subst (IsNextHop family text) same zip.0 in
    (next.is, subst (λ (f : Family). hop.number < 2 ^ width_of f) next.is (text-fits text hop next.written))

-- one of IPv6, if it is there
v6-of : (values : List (List ℕ)) (next_hop : Option AddressValue) → AllZip (IsNextHop V6) values (option_to_list next_hop)
    → (is_v6 next_hop ≡ true) × (number_of_hop next_hop < 2 ^ 128)
v6-of values None zip = (refl, omega arith)
v6-of values (Some hop) zip =
    let by = hop-of V6 values (Some hop) hop zip refl in
    (ap (λ f. same_family f V6) by.0, by.1)

said-hops : (words : List (List ℕ)) (said : Said) → Say words said → (hop : NextHops) → hops_of said ≡ Some hop → FitHops hop
said-hops words said say hop is = by-hop said.next_hop refl is where
  by-hop : (o : Option AddressValue) → said.next_hop ≡ o
      → option_map (λ (h : AddressValue). let hops : NextHops = record { v4 = h; v6 = said.next_hop_v6 } in hops) o ≡ Some hop → FitHops hop
  by-hop None at e = absurd (let none : None ≡ Some hop = e in cc)
  by-hop (Some h) at e =
      let own : NextHops = record { v4 = h; v6 = said.next_hop_v6 } in
      let same : own ≡ hop = (let some : Some own ≡ Some hop = e in cc) in
      let four = hop-of V4 (values_of next_hop_option say.options) said.next_hop h say.next_hop at in
      let six = v6-of (values_of next_hop_v6_option say.options) said.next_hop_v6 say.next_hop_v6 in
      subst FitHops same (record {
        are = and_from (same_family h.family V4) (is_v6 said.next_hop_v6) (ap (λ f. same_family f V4) four.0) six.0;
        small = four.1;
        small_v6 = six.1;
      })

pub peers_hear_their_routes : PeersHearTheirRoutes
peers_hear_their_routes words said say = hears-with said (said-hops words said say)

hears-by : (words : List (List ℕ)) (o : Option Said) → said_in words ≡ o → HearsItsRoutes (begun_with o)
hears-by words None is = hears-with nothing_said (λ hop e. absurd (let none : None ≡ Some hop = e in cc))
hears-by words (Some said) is = peers_hear_their_routes words said (read-say words said is)

-- whatever the words say
pub heard_by : (words : List (List ℕ)) → HearsItsRoutes (begun_with (said_in words))
heard_by words = hears-by words (said_in words) refl
