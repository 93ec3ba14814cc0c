use Rattle.speaker_laws.proofs.Answered.{answers_stand}
use Rattle.speaker_laws.proofs.laws.answers_are_for_what_stands.Goals as goal

pub returns : goal.returns
returns c = answers_stand
