use Rattle.object_cache.proofs.Passing.{other_services_stay}
use Rattle.object_cache.proofs.laws.other_services_stay.Goals as goal

pub returns : goal.returns
returns c = other_services_stay
