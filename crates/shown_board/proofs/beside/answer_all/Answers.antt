use Rattle.std.proofs.Common.{take, refl, subst}
use Rattle.shown_board.specs.Replies.{AreReplies}
use Rattle.shown_board.proofs.Replying.{replies_more, taken_all, taken_more}
use Rattle.shown_board.proofs.beside.answer_all.Goals as goal

pub loop-question-init : goal.loop-question-init
loop-question-init g c = rw c.new-replies.ensures.items refl

pub loop-question-preserved : goal.loop-question-preserved
loop-question-preserved g c =
    let questions = c.args.questions.now in
    let i = c.loop-question.question-index in
    let more = replies_more g.T.Follower.after g.T.Follower.start g.Q.Question.answers c.args.responder.now.seen (take i questions)
    c.loop-question.replies.items c.loop-question.responder.seen c.respond.new.self.seen c.question-item.result c.in_ok-respond.field-0
    c.loop-question.invariant c.in_ok-respond.ensures.later.0 c.in_ok-respond.ensures.seen c.in_ok-respond.ensures.answer in
    rw (c.push_reserved.ensures.items, c.reserve.ensures.items, taken_more questions i c.question-item.result c.loop-question-test.true c.question-item.is) more

pub returns : goal.returns
returns g c =
    let P = AreReplies g.T.Follower.after g.T.Follower.start g.Q.Question.answers c.args.responder.now.seen in
    subst (λ questions. P questions c.loop-question.replies.items c.loop-question.responder.seen)
    (taken_all c.args.questions.now c.loop-question.question-index c.loop-question-test.false) c.loop-question.invariant
