-- What a responder's answer is, by the interface of the words by which the frame came.
use Rattle.std.proofs.Common.{◌≡◌, ℕ, List, [], Contains, Option, Some, None, inl, inr, refl, sym, subst, ◌∙◌, slice_range}
use Rattle.neigh_frames.specs.Arp.{IsArpAnswer, arp_reply}
use Rattle.neigh_frames.specs.Advertisement.{reply_to}
use Rattle.neigh_frames.specs.Ndp.{IsNdpAnswer}
use Rattle.neigh_frames.specs.Options.{sender_in}
use Rattle.speaker_view.specs.ViewValue.{ViewValue}
use Rattle.view_board.specs.Answers.{IsAnswer as IsViewAnswer, NoArp, NoNdp}
use Rattle.view_board.specs.declared.answer.Answer.{Answer}
use Rattle.view_board.specs.declared.answer.Answer.TheVariants.{Arp, Ndp, Silent}
use Rattle.speaker_machine.specs.declared.local_node.Interface.{Interface}
use Rattle.speaker_machine.specs.declared.local_node.LocalNode.{LocalNode}
use Rattle.speaker_machine.specs.Sends.{interface_of}
use Rattle.speaker_machine.specs.Stream.{Received}
use Rattle.speaker_laws.specs.Meant.{IsAnswer}
use Rattle.speaker_laws.proofs.Meant.{find-is, find-none}
use Rattle.speaker_run.specs.Responding.{IsAnsweredBy}
use Rattle.speaker_run.specs.ResponderSeen.{octets_of}

module _ (v : ViewValue) (local : LocalNode) (received : Received) where
  -- where neither protocol has an answer with one hardware address there is none with another
  no-answer : (i : Interface) → i.name ≡ received.interface → NoArp v local.node i.name i.mac received.frame
      → NoNdp v local.node i.name i.mac received.frame → (frame : List ℕ) → ¬ (IsAnswer v local received frame)
  no-answer i named no_arp no_ndp frame answers =
      let j = answers.interface in
      let same : j.name ≡ i.name = answers.named ∙ sym named in
      elim answers.says [
        | inl arp ↦ from-arp j same arp
        | inr ndp ↦ from-ndp j same ndp
      ]
    where
      from-arp : (j : Interface) → j.name ≡ i.name → IsArpAnswer v local.node j.name j.mac received.frame frame → ⊥
      from-arp j same is =
          let own = arp_reply i.mac (slice_range received.frame 38 42) (slice_range received.frame 22 28) (slice_range received.frame 28 32) in
          let answer : IsArpAnswer v local.node j.name i.mac received.frame own =
          record { long = is.long; request = is.request; listens = is.listens; reply = refl } in
          no_arp own (subst (λ (n : List ℕ). IsArpAnswer v local.node n i.mac received.frame own) same answer)

      from-ndp : (j : Interface) → j.name ≡ i.name → IsNdpAnswer v local.node j.name j.mac received.frame frame → ⊥
      from-ndp j same is =
          let own = reply_to i.mac received.frame (sender_in is.options) in
          let answer : IsNdpAnswer v local.node j.name i.mac received.frame own =
          record { options = is.options; solicited = is.solicited; reply = refl } in
          no_ndp own (subst (λ (n : List ℕ). IsNdpAnswer v local.node n i.mac received.frame own) same answer)

  -- the answer of an interface of the words is that of the speaker
  by-interface : (i : Interface) → Contains local.interfaces i → i.name ≡ received.interface → (answer : Answer)
      → IsViewAnswer v local.node i.name i.mac received.frame answer → IsAnsweredBy v local received (octets_of answer)
  by-interface i there named (Arp bytes) is = inl (record { interface = i; of_words = there; named = named; says = inl is })
  by-interface i there named (Ndp bytes) is = inl (record { interface = i; of_words = there; named = named; says = inr is.1 })
  by-interface i there named Silent is = inr (no-answer i named is.0 is.1, refl)

  -- by the interface of the frame, if it is one of the words
  pub by-found : (i : Interface) → interface_of local received.interface ≡ Some i → (answer : Answer)
      → IsViewAnswer v local.node i.name i.mac received.frame answer → IsAnsweredBy v local received (octets_of answer)
  by-found i is answer answers =
      let (there, named) = find-is v local received.interface local.interfaces i is in
      by-interface i there named answer answers

  pub by-none : interface_of local received.interface ≡ None → IsAnsweredBy v local received []
  by-none is = inr (λ answer answers. find-none v local received.interface local.interfaces is answers.interface answers.of_words answers.named, refl)
