use Rattle.speaker_laws.proofs.LaneLines.{lanes_right}
use Rattle.speaker_laws.proofs.laws.lanes_are_right.Goals as goal

pub returns : goal.returns
returns c = lanes_right c.args.words.now
