use Rattle.prefix_laws.proofs.Blocks.{masked_is_one}
use Rattle.prefix_laws.proofs.laws.masked_is_the_one_prefix.Goals as goal

pub returns : goal.returns
returns c = masked_is_one
