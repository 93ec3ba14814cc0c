use Rattle.bgp_routes.proofs.Keeping.{cleared-none}
use Rattle.bgp_routes.proofs.kept.KeptRoutes.renew.Goals as goal

pub returns-in-Err-clause-err : goal.returns-in-Err-clause-err
returns-in-Err-clause-err c = cleared-none c.clear.new.self c.clear.ensures.none
