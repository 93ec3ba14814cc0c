use Rattle.ip_ranges.proofs.BlockLemmas.{shifted_ones}
use Rattle.ip_ranges.proofs.prefix.low_ones.Goals as goal

pub returns-else-bits-eq0 : goal.returns-else-bits-eq0
returns-else-bits-eq0 c = shifted_ones c.args.bits c.requires
