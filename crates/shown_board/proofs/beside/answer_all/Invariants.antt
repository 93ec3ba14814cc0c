use Rattle.std.proofs.Common.{take}
use Rattle.shown_board.specs.Replies.{AreReplies}
use Rattle.shown_board.proofs.beside.answer_all.Given as goal

-- each question so far has its reply
abbrev pub invariant-loop-question : goal.invariant-loop-question
invariant-loop-question g l =
    AreReplies g.T.Follower.after g.T.Follower.start g.Q.Question.answers l.fn.responder.seen (take l.question-index l.questions)
    l.replies.items l.responder.seen
