use Rattle.view_board.proofs.writer.BoardWriter.publish.Goals as goal

pub returns : goal.returns
returns g c = rw (← c.self.view_is) c.in_ok-publish.ensures
