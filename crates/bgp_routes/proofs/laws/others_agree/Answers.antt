use Rattle.bgp_routes.proofs.Agreeing.{others-agree}
use Rattle.bgp_routes.proofs.laws.others_agree.Goals as goal

pub returns : goal.returns
returns c = others-agree
