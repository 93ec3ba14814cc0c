use Rattle.shown_board.proofs.responder.Responder.respond.Goals as goal

pub returns-in-Ok-clause-none : goal.returns-in-Ok-clause-none
returns-in-Ok-clause-none g c = rw (c.self-in-Ok.view_is, ← c.self.view_is) c.reply-reply.ensures.none

pub returns-in-Ok-clause-told : goal.returns-in-Ok-clause-told
returns-in-Ok-clause-told g c = rw (← c.self.view_is) (rw (← c.self-in-Ok.view_is) at c.reply-reply.ensures.told)

pub returns-in-Ok-clause-later : goal.returns-in-Ok-clause-later
returns-in-Ok-clause-later g c = rw (← c.self.view_is) (rw (← c.self-in-Ok.view_is) at c.reply-reply.ensures.later)

pub returns-in-Ok-clause-seen : goal.returns-in-Ok-clause-seen
returns-in-Ok-clause-seen g c = rw (← c.self-in-Ok.view_is) at c.reply-reply.ensures.seen

pub returns-in-Ok-clause-answer : goal.returns-in-Ok-clause-answer
returns-in-Ok-clause-answer g c = rw (← c.self-in-Ok.view_is) at c.reply-reply.ensures.answer
