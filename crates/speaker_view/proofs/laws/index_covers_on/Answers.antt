use Rattle.speaker_view.proofs.Covering.{covers_after}
use Rattle.speaker_view.proofs.laws.index_covers_on.Goals as goal

pub returns : goal.returns
returns c = covers_after
