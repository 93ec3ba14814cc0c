use Rattle.view_board.proofs.Keeping.{right_if_known}
use Rattle.view_board.proofs.elected_view.ElectedView.apply.Goals as goal

pub renewed-announcers-requires : goal.renewed-announcers-requires
renewed-announcers-requires g c =
    right_if_known c.take-known.result c.self.inside.view c.apply_noting.new.self c.in-Ok.change
    (rw c.take-known.ensures.value c.self.invariant) c.in-Ok.ensures.stay
