use Rattle.shown_view_laws.proofs.Tellable.{routes_can_be_told}
use Rattle.shown_view_laws.proofs.laws.routes_can_be_told.Goals as goal

pub returns : goal.returns
returns c = routes_can_be_told
