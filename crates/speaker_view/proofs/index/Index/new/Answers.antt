use Rattle.speaker_view.proofs.Covering.{covers-nothing}
use Rattle.speaker_view.proofs.index.Index.new.Goals as goal

pub returns : goal.returns
returns c = covers-nothing _
