use Rattle.std.proofs.Common.{◌≡◌, ℕ, List, [], Option, Some, None, IfSome, sym}
use Rattle.shown_board.specs.declared.follower.Reply.{Reply}
use Rattle.speaker_view.specs.View.{fresh}
use Rattle.speaker_view.specs.ViewValue.{ViewValue}
use Rattle.view_board.specs.Answers.{IsAnswer as IsViewAnswer}
use Rattle.view_board.specs.declared.answer.Answer.{Answer}
use Rattle.view_board.specs.declared.answer.Answer.TheVariants.{Silent}
use Rattle.speaker_machine.specs.declared.local_node.Interface.{Interface}
use Rattle.speaker_machine.specs.declared.local_node.LocalNode.{LocalNode}
use Rattle.speaker_machine.specs.Sends.{interface_of}
use Rattle.speaker_machine.specs.Stream.{Received}
use Rattle.speaker_run.specs.Responding.{IsAnsweredBy, view_after_all}
use Rattle.speaker_run.specs.ResponderSeen.{octets_of}
use Rattle.speaker_run.proofs.AnsweredBy.{by-found, by-none}
use Rattle.speaker_run.proofs.responder.reply_by.Goals as goal

module _ (v : ViewValue) (local : LocalNode) (received : Received) where
  silent_all : interface_of local received.interface ≡ None → (seen : ℕ) (result : Option (Reply Answer))
      → IfSome result (λ reply. (reply.seen ≡ seen) × (reply.answer ≡ Silent)) → IfSome result (λ reply. IsAnsweredBy v local received (octets_of reply.answer))
  silent_all none seen None is = tt
  silent_all none seen (Some reply) is = rw is.1 (by-none v local received none)

  answered_all : (i : Interface) → interface_of local received.interface ≡ Some i → (result : Option (Reply Answer))
      → IfSome result (λ reply. IsViewAnswer v local.node i.name i.mac received.frame reply.answer)
      → IfSome result (λ reply. IsAnsweredBy v local received (octets_of reply.answer))
  answered_all i found None is = tt
  answered_all i found (Some reply) is = by-found v local received i found reply.answer is

pub returns-in_default-clause-answer : goal.returns-in_default-clause-answer
returns-in_default-clause-answer g c =
    silent_all (view_after_all (fresh g.J.Classed.class) c.silence.new.responder.seen) c.args.local.now
    (record { interface = c.args.interface.now; frame = c.args.frame.now }) (sym (rw c.in_default.is at c.interface.ensures)) _ c.silence.result
    c.silence.ensures.seen

pub returns-clause-answer : goal.returns-clause-answer
returns-clause-answer g c =
    answered_all (view_after_all (fresh g.J.Classed.class) c.respond.new.self.seen) c.args.local.now
    (record { interface = c.args.interface.now; frame = c.args.frame.now }) c.in-Some.interface.now (sym (rw c.in-Some.is at c.interface.ensures))
    c.respond.result (rw (c.as_str-node.ensures, c.as_str-name.ensures) at c.respond.ensures.answer)
