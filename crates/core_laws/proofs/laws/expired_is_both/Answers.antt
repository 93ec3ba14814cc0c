use Rattle.core_laws.proofs.Expired.{expired_is_both}
use Rattle.core_laws.proofs.laws.expired_is_both.Goals as goal

pub returns : goal.returns
returns c = expired_is_both
