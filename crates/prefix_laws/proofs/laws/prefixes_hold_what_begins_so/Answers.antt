use Rattle.prefix_laws.proofs.Blocks.{prefixes_hold}
use Rattle.prefix_laws.proofs.laws.prefixes_hold_what_begins_so.Goals as goal

pub returns : goal.returns
returns c = prefixes_hold
