use Rattle.pool_config.proofs.Names.{names_are_kept}
use Rattle.pool_config.proofs.laws.names_are_kept.Goals as goal

pub returns : goal.returns
returns c = names_are_kept
