use Rattle.view_board.proofs.responder.Responder.respond.Goals as goal

pub returns-clause-later : goal.returns-clause-later
returns-clause-later g c = rw (← c.self.view_is) c.respond.ensures.later
