use Rattle.speaker_laws.proofs.Right.{right_by}
use Rattle.speaker_laws.proofs.laws.runs_are_right.Goals as goal

pub returns : goal.returns
returns c = right_by c.args.words.now
