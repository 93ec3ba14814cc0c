-- A frame that is answered asks for an address that stands announced.
use Rattle.std.proofs.Common.{◌≡◌, ℕ, List, Option, Some, Ok, refl, sym, ap, ◌∙◌, subst, inl, inr}
use Rattle.mlb_base.specs.Items.{IsIn}
use Rattle.ip_ranges.specs.Values.{AddressValue}
use Rattle.kube_events.specs.Event.{event_of_line}
use Rattle.kube_model.specs.declared.event.Event.{Event}
use Rattle.speaker_view.specs.ViewValue.{ViewValue}
use Rattle.l2_elect.specs.Election.{IsAnnouncer}
use Rattle.neigh_frames.specs.Arp.{address_at}
use Rattle.neigh_frames.specs.Ndp.{ipv6_address}
use Rattle.neigh_frames.specs.Solicitation.{target_of}
use Rattle.speaker_machine.specs.declared.transcript.TranscriptEntry.{TranscriptEntry}
use Rattle.speaker_machine.specs.declared.transcript.TranscriptEntry.TheVariants.{Sent}
use Rattle.speaker_machine.specs.declared.local_node.LocalNode.{LocalNode}
use Rattle.speaker_machine.specs.Stream.{SpeakerState, Received, first_state, frame_in}
use Rattle.speaker_machine.proofs.Steps.{frame_leaves}
use Rattle.speaker_laws.specs.Answered.{AllAnswerWhatStands, AnswersWhatStands, AsksFor}
use Rattle.speaker_laws.specs.Meant.{IsAnswer, SendsAnswer, SendsOf, SendsWhatIsMeant}
use Rattle.speaker_laws.specs.Told.{TellsWhatIsAnnounced}
use Rattle.speaker_laws.proofs.Meant.{all_send_what_is_meant}
use Rattle.speaker_laws.proofs.Telling.{event_applies, lines_tell_what_is_announced, station_kept}

-- it asks for an address that the node announces by this view
abbrev AsksForOwn : ViewValue → LocalNode → Received → Type 0
AsksForOwn v local received = (a : AddressValue) × AsksFor received.frame a × IsAnnouncer v a local.node

module _ (v : ViewValue) (local : LocalNode) (received : Received) where
  answered-own : (frame : List ℕ) → IsAnswer v local received frame → AsksForOwn v local received
  answered-own frame is =
      elim is.says [
        | inl arp ↦ (address_at received.frame 38, inl refl, arp.listens.announcer)
        | inr ndp ↦ (ipv6_address (target_of received.frame), inr refl, ndp.solicited.listens.announcer)
      ]

  sent-own : (entries : List TranscriptEntry) (e : TranscriptEntry) → SendsAnswer v local received entries → IsIn entries e → AsksForOwn v local received
  sent-own entries e (inl (frame, answer, are)) there = answered-own frame answer
  sent-own entries e (inr (none, are)) there = absurd (subst (λ (es : List TranscriptEntry). IsIn es e) are there)

pub answers_by : (start : SpeakerState) → TellsWhatIsAnnounced start → SendsWhatIsMeant start → AnswersWhatStands start
answers_by start tells sends lines s told taken line t entries goes event reads received is name frame there =
    let meant : SendsAnswer t.view t.local received entries =
    subst (λ (o : Option Received). SendsOf t.view t.local o entries) is (sends lines s told taken line t entries goes event reads) in
    let (a, asks, announcer) = sent-own t.view t.local received entries (Sent name frame) meant there in
    let by = event_applies (event_of_line line.bytes) s t line entries goes in
    let read : Ok by.event ≡ Ok event = sym by.reads ∙ reads in
    let same : by.event ≡ event = cc in
    let view : t.view ≡ s.view = ap (λ (u : SpeakerState). u.view) by.leads ∙ frame_leaves by.event received s.view (ap frame_in same ∙ is) in
    let local : t.local ≡ s.local = ap (λ (u : SpeakerState). u.local) by.leads in
    let node : t.local.node ≡ start.local.node = ap (λ (n : LocalNode). n.node) (local ∙ station_kept lines start s told taken) in
    let here : IsAnnouncer t.view a start.local.node = subst (λ (n : List ℕ). IsAnnouncer t.view a n) node announcer in
    let now : IsAnnouncer s.view a start.local.node = subst (λ (v : ViewValue). IsAnnouncer v a start.local.node) view here in
    (a, asks, (tells lines s told taken a).1 now)

pub answers_stand : AllAnswerWhatStands
answers_stand said = answers_by (first_state said) (lines_tell_what_is_announced said) (all_send_what_is_meant said)
