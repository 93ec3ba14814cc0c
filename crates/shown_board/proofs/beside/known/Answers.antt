use Rattle.std.proofs.Common.{◌≡◌, [], subst}
use Rattle.shown_board.specs.Replies.{AreReplies, AreAnswered}
use Rattle.shown_board.proofs.Replying.{some_gives, replies_of_list}
use Rattle.shown_board.proofs.beside.known.Goals as goal

pub returns : goal.returns
returns g c = λ questions events answered whole.
    let after = g.T.Follower.after in
    let start = g.T.Follower.start in
    let answers = g.Q.Question.answers in
    subst (λ l. AreAnswered after start answers l 0 questions c.in_ok-seen.replies.items) (some_gives _ _ (λ l. l ≡ events) c.in_ok-written.was whole)
    (replies_of_list after start answers c.in_ok-written.field-0 [] questions c.in_ok-seen.replies.items c.in_ok-seen.seen
    (some_gives _ _ (λ r. AreReplies after start answers [] questions r.1.items r.0) c.in_ok-seen.was answered) c.if-not-begins.ensures)
