use Rattle.speaker_laws.proofs.Telling.{lines_tell_what_is_announced}
use Rattle.speaker_laws.proofs.laws.lines_tell_what_is_announced.Goals as goal

pub returns : goal.returns
returns c = lines_tell_what_is_announced
