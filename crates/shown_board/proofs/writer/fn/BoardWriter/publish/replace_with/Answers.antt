use Rattle.shown_board.proofs.Pending.{publishes-by}
use Rattle.shown_board.proofs.writer.fn.BoardWriter.publish.replace_with.Goals as goal

pub returns : goal.returns
returns g c = publishes-by g.P.Post.list g.P.Absorb.state g.P.Absorb.applied g.met.P.Post.takes_in _ _ _ _ c.publish_as.result.1 c.publish_as.ensures.values
