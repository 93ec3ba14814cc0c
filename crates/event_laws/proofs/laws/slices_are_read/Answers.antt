use Rattle.event_laws.proofs.SliceLaws.{slices_are_read}
use Rattle.event_laws.proofs.laws.slices_are_read.Goals as goal

pub returns : goal.returns
returns c = slices_are_read
