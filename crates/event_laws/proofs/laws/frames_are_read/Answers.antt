use Rattle.event_laws.proofs.OtherLaws.{frames_are_read}
use Rattle.event_laws.proofs.laws.frames_are_read.Goals as goal

pub returns : goal.returns
returns c = frames_are_read
