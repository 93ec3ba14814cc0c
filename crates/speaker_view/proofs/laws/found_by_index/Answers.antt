use Rattle.speaker_view.proofs.Indexed.{found-by}
use Rattle.speaker_view.proofs.laws.found_by_index.Goals as goal

pub returns : goal.returns
returns c = found-by
