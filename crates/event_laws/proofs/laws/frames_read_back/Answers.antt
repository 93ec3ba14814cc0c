use Rattle.event_laws.proofs.OtherLaws.{frames_read_back}
use Rattle.event_laws.proofs.laws.frames_read_back.Goals as goal

pub returns : goal.returns
returns c = frames_read_back
