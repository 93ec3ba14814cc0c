use Rattle.std.proofs.Common.{◌∙◌, sym, subst}
use Rattle.std.proofs.lemmas.Option.{none-some}
use Rattle.speaker_view.specs.ViewValue.{ViewValue}
use Rattle.neigh_frames.specs.Arp.{IsArpAnswer}
use Rattle.neigh_frames.specs.Ndp.{IsNdpAnswer}
use Rattle.view_board.specs.Answers.{NoArp, NoNdp}
use Rattle.view_board.proofs.answer.AskedQuestionElectedView.ask.Goals as goal

pub returns-in-Some : goal.returns-in-Some
returns-in-Some g c =
    let asked = c.args.self.now in
    let is = (c.arp_answer_known.ensures.meaning c.in-Some.bytes).0 c.in-Some.is in
    subst (λ (v : ViewValue). IsArpAnswer v asked.node.now asked.interface.now asked.mac.now asked.frame.now c.in-Some.bytes) c.value.view_is is

pub returns-in-Some-ndp_answer_known : goal.returns-in-Some-ndp_answer_known
returns-in-Some-ndp_answer_known g c =
    let asked = c.args.self.now in
    let none : NoArp c.value.inside.view asked.node.now asked.interface.now asked.mac.now asked.frame.now =
    λ bytes it. none-some bytes (sym c.in_default.is ∙ (c.arp_answer_known.ensures.meaning bytes).1 it) in
    let is = (c.ndp_answer_known.ensures.meaning c.in-Some-ndp_answer_known.bytes).0 c.in-Some-ndp_answer_known.is in (
      subst (λ (v : ViewValue). NoArp v asked.node.now asked.interface.now asked.mac.now asked.frame.now) c.value.view_is none,
      subst (λ (v : ViewValue). IsNdpAnswer v asked.node.now asked.interface.now asked.mac.now asked.frame.now c.in-Some-ndp_answer_known.bytes)
          c.value.view_is is,
    )

pub returns-in-None : goal.returns-in-None
returns-in-None g c =
    let asked = c.args.self.now in
    let none : NoArp c.value.inside.view asked.node.now asked.interface.now asked.mac.now asked.frame.now =
    λ bytes it. none-some bytes (sym c.in_default.is ∙ (c.arp_answer_known.ensures.meaning bytes).1 it) in
    let none' : NoNdp c.value.inside.view asked.node.now asked.interface.now asked.mac.now asked.frame.now =
    λ bytes it. none-some bytes (sym c.in-None.is ∙ (c.ndp_answer_known.ensures.meaning bytes).1 it) in (
      subst (λ (v : ViewValue). NoArp v asked.node.now asked.interface.now asked.mac.now asked.frame.now) c.value.view_is none,
      subst (λ (v : ViewValue). NoNdp v asked.node.now asked.interface.now asked.mac.now asked.frame.now) c.value.view_is none',
    )
