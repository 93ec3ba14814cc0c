-- Each frame that is sent is unsolicited or an answer, for an address for which the node listens.
use Rattle.std.proofs.Common.{◌≡◌, ℕ, Bool, true, false, cond, List, [], ◌∷◌, ◌++◌, map, filter, Option, Some, None, Ok, refl, sym, ap, ◌∙◌, subst, inl, inr}
use Rattle.std.specs.List.{AllByRecursion, Contains, flat_map, find}
use Rattle.std.specs.Option.{option_or}
use Rattle.std.specs.Str.{bytes_eq}
use Rattle.std.proofs.lemmas.Slice.Eq.{bytes_eq-Decides}
use Rattle.std.specs.Prelude.{slice_range}
use Rattle.std.proofs.lemmas.Bool.{true≢false}
use Rattle.mlb_base.specs.Items.{IsIn}
use Rattle.mlb_base.proofs.Among.{contains-first, contains-later, contains-cons, contains-none}
use Rattle.mlb_base.proofs.Lists.{all-append}
use Rattle.pool_config.proofs.ItemLaws.{has_left, has_right}
use Rattle.ip_ranges.specs.Values.{AddressValue}
use Rattle.pool_config.specs.declared.compiled.CompiledPeer.{CompiledPeer}
use Rattle.kube_events.specs.Event.{event_of_line}
use Rattle.kube_model.specs.declared.event.Event.{Event}
use Rattle.speaker_view.specs.ViewValue.{ViewValue}
use Rattle.speaker_view.specs.View.{view_after, note_by}
use Rattle.l2_elect.specs.Listening.{listens_of, Listens}
use Rattle.mlb_base.proofs.Lists.{filter-keeps}
use Rattle.l2_elect.proofs.ListenLaws.{listens-means}
use Rattle.neigh_frames.specs.Advertisement.{reply_to}
use Rattle.neigh_frames.specs.Arp.{arp_answer_of, arp_reply, IsArpAnswer}
use Rattle.neigh_frames.specs.Ndp.{ndp_answer_of, IsNdpAnswer}
use Rattle.neigh_frames.specs.Options.{sender_in}
use Rattle.neigh_frames.proofs.ArpMeaning.{arp-means}
use Rattle.neigh_frames.proofs.NdpMeaning.{ndp-means}
use Rattle.mlb_edge.specs.declared.lines.Line.{Line}
use Rattle.line_run.specs.Machine.{Goes}
use Rattle.speaker_words.specs.Reading.{said_in}
use Rattle.announced_set.specs.Announced.{announced_by}
use Rattle.announced_set.specs.Changes.{difference}
use Rattle.bgp_routes.specs.Peers.{peers_of}
use Rattle.speaker_machine.specs.declared.transcript.TranscriptEntry.{TranscriptEntry}
use Rattle.speaker_machine.specs.declared.transcript.TranscriptEntry.TheVariants.{Sent}
use Rattle.speaker_machine.specs.declared.local_node.Interface.{Interface}
use Rattle.speaker_machine.specs.declared.local_node.NextHops.{NextHops}
use Rattle.speaker_machine.specs.declared.local_node.LocalNode.{LocalNode}
use Rattle.speaker_machine.specs.Transcript.{withdrawn, withdrawals, announcements, entries_for}
use Rattle.speaker_machine.specs.Sends.{unsolicited_of, unsolicited_by, unsolicited, listening, announcement, sent_on, answer_by, interface_of}
use Rattle.speaker_machine.specs.Stream.{SpeakerState, Received, frame_in, entries_at, line_step}
use Rattle.speaker_machine.specs.Updates.{messages_to, updated, updates_to, updates_by, are_hops, update_entries}
use Rattle.speaker_machine.proofs.Steps.{frame_leaves}
use Rattle.speaker_laws.specs.Clauses.{begun_with}
use Rattle.speaker_laws.specs.Meant.{IsAnswer, IsOfThese, SendsAnswer, SendsOf, SendsWhatIsMeant, AllSendWhatIsMeant}
use Rattle.speaker_laws.specs.Told.{announced_in}
use Rattle.speaker_laws.proofs.ChangesTold.{none-updates, change-announces}
use Rattle.speaker_laws.proofs.Telling.{event_applies}

-- what stands in a list stands in what is made of each
mapped : {X Y : Type 0} (f : X → Y) (xs : List X) (x : X) → Contains xs x → IsIn (map f xs) (f x)
mapped f [] x there = absurd (contains-none x there)
mapped f (y ∷ xs) x there = elim (contains-cons y xs x there) [ inl here ↦ inl (ap f here) | inr later ↦ inr (mapped f xs x later) ]

abbrev the_none : Option (List ℕ)
the_none = None

none-some : (x : List ℕ) → the_none ≡ Some x → ⊥
none-some x e = absurd (cc)

module _ (v : ViewValue) (local : LocalNode) where
  -- ---- unsolicited
  module _ (all : List TranscriptEntry) where
    abbrev Meant : List TranscriptEntry → Type 0
    Meant entries = AllByRecursion (IsOfThese v local all) entries

    unsolicited-meant : (a : AddressValue) → IsIn (announced_in all) a → (interfaces : List Interface)
        → ((i : Interface) → Contains interfaces i → Contains local.interfaces i)
        → Meant (map (unsolicited_by a) (filter (λ i. listens_of v local.node i.name a) interfaces))
    unsolicited-meant a told [] within = tt
    unsolicited-meant a told (i ∷ interfaces) within =
        go (listens_of v local.node i.name a) refl (unsolicited-meant a told interfaces (λ j there. within j (contains-later i interfaces j there)))
      where
        go : (b : Bool) → listens_of v local.node i.name a ≡ b → Meant (map (unsolicited_by a) (filter (λ i. listens_of v local.node i.name a) interfaces))
            → Meant (map (unsolicited_by a)
            (cond b (i ∷ filter (λ i. listens_of v local.node i.name a) interfaces) (filter (λ i. listens_of v local.node i.name a) interfaces)))
        go true is rest =
            let listens = (listens-means v local.node i.name a (listens_of v local.node i.name a) refl).0 is in
            ((a, told, record { interface = i; of_words = within i (contains-first i interfaces); named = refl; listens = listens; says = refl }), rest)
        go false is rest = rest

    announced-meant : (addresses : List AddressValue) → ((a : AddressValue) → IsIn addresses a → IsIn (announced_in all) a)
        → Meant (flat_map (announcement v local) addresses)
    announced-meant [] told = tt
    announced-meant (a ∷ addresses) told = (
      tt,
      all-append (IsOfThese v local all) (unsolicited v local a) (flat_map (announcement v local) addresses)
          (unsolicited-meant a (told a (inl refl)) local.interfaces (λ i there. there)) (announced-meant addresses (λ b there. told b (inr there))),
    )

    withdrawn-meant : (addresses : List AddressValue) → Meant (map withdrawn addresses)
    withdrawn-meant [] = tt
    withdrawn-meant (a ∷ addresses) = (tt, withdrawn-meant addresses)

    -- what is told to peers
    messages-meant : (peer : CompiledPeer) (messages : List (List ℕ)) → Meant (map (updated peer) messages)
    messages-meant peer [] = tt
    messages-meant peer (message ∷ messages) = (tt, messages-meant peer messages)

    peers-meant : (u u' : ViewValue) (node : List ℕ) (hop : NextHops) (peers : List CompiledPeer) → Meant (flat_map (updates_to u u' node hop) peers)
    peers-meant u u' node hop [] = tt
    peers-meant u u' node hop (peer ∷ peers) =
        all-append (IsOfThese v local all) (updates_to u u' node hop peer) (flat_map (updates_to u u' node hop) peers)
        (messages-meant peer (messages_to u u' node hop peer)) (peers-meant u u' node hop peers)

    hop-meant : (are : Bool) (entries : List TranscriptEntry) → Meant entries → Meant (cond are entries [])
    hop-meant true entries meant = meant
    hop-meant false entries meant = tt

    updates-meant : (u u' : ViewValue) (node : List ℕ) (hop : Option NextHops) → Meant (updates_by u u' node hop)
    updates-meant u u' node None = tt
    updates-meant u u' node (Some hop) = hop-meant (are_hops hop) (flat_map (updates_to u u' node hop) (peers_of u')) (peers-meant u u' node hop (peers_of u'))

  -- the frame of each interface on which the node listens is sent with the announce line
  announced-sends : (a : AddressValue) (i : Interface) → Contains local.interfaces i → Listens v local.node i.name a → (addresses : List AddressValue)
      → IsIn addresses a
      → IsIn (flat_map (announcement v local) addresses) (unsolicited_by a i)
  announced-sends a i there listens [] none = absurd none
  announced-sends a i there listens (b ∷ addresses) (inl here) =
      let listed = filter-keeps (λ (j : Interface). listens_of v local.node j.name a) local.interfaces i there
      ((listens-means v local.node i.name a (listens_of v local.node i.name a) refl).1 listens) in
      let own : IsIn (unsolicited v local b) (unsolicited_by a i) = subst (λ (c : AddressValue). IsIn (unsolicited v local c) (unsolicited_by a i)) (sym here)
      (mapped (unsolicited_by a) (listening v local a) i listed) in
      has_left (λ e. e ≡ unsolicited_by a i) (announcement v local b) (flat_map (announcement v local) addresses) (inr own)
  announced-sends a i there listens (b ∷ addresses) (inr later) =
      has_right (λ e. e ≡ unsolicited_by a i) (announcement v local b) (flat_map (announcement v local) addresses)
      (announced-sends a i there listens addresses later)

  -- ---- answers
  -- the interface that is found is one of them, and has the name
  pub find-is : (name : List ℕ) (interfaces : List Interface) (i : Interface) → find (λ j. bytes_eq j.name name) interfaces ≡ Some i
      → Contains interfaces i × (i.name ≡ name)
  find-is name [] i e = absurd (cc)
  find-is name (j ∷ interfaces) i e = go (bytes_eq j.name name) refl e (find-is name interfaces i) where
    go : (b : Bool) → bytes_eq j.name name ≡ b → cond b (Some j) (find (λ j. bytes_eq j.name name) interfaces) ≡ Some i
        → (find (λ j. bytes_eq j.name name) interfaces ≡ Some i → Contains interfaces i × (i.name ≡ name)) → Contains (j ∷ interfaces) i × (i.name ≡ name)
    go true named f rest =
        let same : j ≡ i = cc in (
          subst (Contains (j ∷ interfaces)) same (contains-first j interfaces),
          ap (λ (k : Interface). k.name) (sym same) ∙ (bytes_eq-Decides j.name name).0 named,
        )
    go false other f rest = let (there, named) = rest f in (contains-later j interfaces i there, named)

  -- where none is found, none has it
  pub find-none : (name : List ℕ) (interfaces : List Interface) → find (λ j. bytes_eq j.name name) interfaces ≡ None → (i : Interface) → Contains interfaces i
      → i.name ≡ name → ⊥
  find-none name [] e i there named = contains-none i there
  find-none name (j ∷ interfaces) e i there named = go (bytes_eq j.name name) refl e (λ f later. find-none name interfaces f i later named) where
    go : (b : Bool) → bytes_eq j.name name ≡ b → cond b (Some j) (find (λ j. bytes_eq j.name name) interfaces) ≡ None
        → (find (λ j. bytes_eq j.name name) interfaces ≡ None → Contains interfaces i → ⊥) → ⊥
    go true is f rest = absurd (cc)
    go false other f rest =
        elim (contains-cons j interfaces i there) [
          | inl here ↦ true≢false (sym ((bytes_eq-Decides j.name name).1 (ap (λ (k : Interface). k.name) here ∙ named)) ∙ other)
          | inr later ↦ rest f later
        ]

  module _ (received : Received) (i : Interface) (there : Contains local.interfaces i) (named : i.name ≡ received.interface) where
    abbrev frame : List ℕ
    frame = received.frame

    -- a frame that has no answer of ARP with one hardware address has none with another
    no-arp : None ≡ arp_answer_of (listens_of v local.node i.name) i.mac frame → (j : Interface) → j.name ≡ i.name → (answer : List ℕ)
        → ¬ (IsArpAnswer v local.node j.name j.mac frame answer)
    no-arp none j same answer is =
        let own = arp_reply i.mac (slice_range frame 38 42) (slice_range frame 22 28) (slice_range frame 28 32) in
        let answers : IsArpAnswer v local.node j.name i.mac frame own = record { long = is.long; request = is.request; listens = is.listens; reply = refl } in
        none-some own
        ((arp-means v local.node i.name i.mac frame own None none).1 (subst (λ (n : List ℕ). IsArpAnswer v local.node n i.mac frame own) same answers))

    no-ndp : None ≡ ndp_answer_of (listens_of v local.node i.name) i.mac frame → (j : Interface) → j.name ≡ i.name → (answer : List ℕ)
        → ¬ (IsNdpAnswer v local.node j.name j.mac frame answer)
    no-ndp none j same answer is =
        let own = reply_to i.mac frame (sender_in is.options) in
        let answers : IsNdpAnswer v local.node j.name i.mac frame own = record { options = is.options; solicited = is.solicited; reply = refl } in
        none-some own
        ((ndp-means v local.node i.name frame i.mac own None none).1 (subst (λ (n : List ℕ). IsNdpAnswer v local.node n i.mac frame own) same answers))

    meant-answer : (arp ndp : Option (List ℕ)) → arp ≡ arp_answer_of (listens_of v local.node i.name) i.mac frame
        → ndp ≡ ndp_answer_of (listens_of v local.node i.name) i.mac frame
        → SendsAnswer v local received (sent_on i (option_or arp ndp))
    meant-answer (Some answer) ndp a n =
        inl (
          answer,
          record {
            interface = i;
            of_words = there;
            named = named;
            says = inl ((arp-means v local.node i.name i.mac frame answer (Some answer) a).0 refl);
          },
          ap (λ (name : List ℕ). Sent name answer ∷ []) named,
        )
    meant-answer None (Some answer) a n =
        inl (
          answer,
          record {
            interface = i;
            of_words = there;
            named = named;
            says = inr ((ndp-means v local.node i.name frame i.mac answer (Some answer) n).0 refl);
          },
          ap (λ (name : List ℕ). Sent name answer ∷ []) named,
        )
    meant-answer None None a n = inr (none, refl) where
      none : (answer : List ℕ) → ¬ (IsAnswer v local received answer)
      none answer is =
          elim is.says [
            | inl arp ↦ no-arp a is.interface (is.named ∙ sym named) answer arp
            | inr ndp ↦ no-ndp n is.interface (is.named ∙ sym named) answer ndp
          ]

  answers-meant : (received : Received) (found : Option Interface) → interface_of local received.interface ≡ found
      → SendsAnswer v local received (answer_by v local.node found received.frame)
  answers-meant received None is =
      inr (λ answer answers. find-none received.interface local.interfaces is answers.interface answers.of_words answers.named, refl)
  answers-meant received (Some i) is =
      let (there, named) = find-is received.interface local.interfaces i is in
      meant-answer received i there named (arp_answer_of (listens_of v local.node i.name) i.mac received.frame)
      (ndp_answer_of (listens_of v local.node i.name) i.mac received.frame) refl refl

-- what is told of an event says what is meant by the view after it
told-meant : (o : Option Received) (s : SpeakerState) (event : Event) → frame_in event ≡ o → SendsOf (view_after event s.view) s.local o (entries_at o s event)
told-meant (Some received) s event is =
    subst (λ (u : ViewValue). SendsAnswer u s.local received (answer_by s.view s.local.node (interface_of s.local received.interface) received.frame))
    (sym (frame_leaves event received s.view is))
    (answers-meant s.view s.local received (interface_of s.local received.interface) refl)
told-meant None s event is =
    let node = s.local.node in
    let w = view_after event s.view in
    let note = note_by s.view event in
    let before = announced_by s.view node in
    let after = announced_by w node in
    let updates = update_entries s.view w s.local in
    let all = entries_for w s.local note before after ++ updates in
    let come : announced_in all ≡ difference after before =
    change-announces w s.local note before after updates (none-updates s.view w node s.local.next_hops) in
    record {
      only =
          all-append (IsOfThese w s.local all) (entries_for w s.local note before after) updates (
            tt,
            all-append (IsOfThese w s.local all) (withdrawals before after) (announcements w s.local before after)
                (withdrawn-meant w s.local all (difference before after))
                (announced-meant w s.local all (difference after before) (λ a there. subst (λ (zs : List AddressValue). IsIn zs a) (sym come) there)),
          )
          (updates-meant w s.local all s.view w node s.local.next_hops);
      each = λ a there name frame is.
          let listed : IsIn (difference after before) a = subst (λ (zs : List AddressValue). IsIn zs a) come there in
          let sent = announced-sends w s.local a is.interface is.of_words is.listens (difference after before) listed in
          let same : unsolicited_by a is.interface ≡ Sent name frame =
          ap (λ (n : List ℕ). Sent n (unsolicited_of a.family is.interface.mac a.number)) is.named ∙ ap (λ (f : List ℕ). Sent name f) (sym is.says) in
          has_left (λ e. e ≡ Sent name frame) (entries_for w s.local note before after) updates
          (inr (has_right (λ e. e ≡ Sent name frame) (withdrawals before after) (announcements w s.local before after)
          (subst (λ (e : TranscriptEntry). IsIn (announcements w s.local before after) e) same sent)));
    }

line-meant : (s : SpeakerState) (line : Line) (t : SpeakerState) (entries : List TranscriptEntry) → line_step s line ≡ Goes t entries
    → (event : Event) → event_of_line line.bytes ≡ Ok event → SendsOf t.view t.local (frame_in event) entries
line-meant s line t entries goes event reads =
    let by = event_applies (event_of_line line.bytes) s t line entries goes in
    let read : Ok by.event ≡ Ok event = sym by.reads ∙ reads in
    let same : by.event ≡ event = cc in
    subst (λ (e : Event). SendsOf t.view t.local (frame_in e) entries) same
    (subst (λ (es : List TranscriptEntry). SendsOf t.view t.local (frame_in by.event) es) (sym by.tells)
    (subst (λ (u : SpeakerState). SendsOf u.view u.local (frame_in by.event) (entries_at (frame_in by.event) s by.event)) (sym by.leads)
    (told-meant (frame_in by.event) s by.event refl)))

pub all_send_what_is_meant : AllSendWhatIsMeant
all_send_what_is_meant said lines s told taken line t entries goes event reads = line-meant s line t entries goes event reads

-- whatever the words say
pub meant_by : (words : List (List ℕ)) → SendsWhatIsMeant (begun_with (said_in words))
meant_by words lines s told taken line t entries goes event reads = line-meant s line t entries goes event reads
