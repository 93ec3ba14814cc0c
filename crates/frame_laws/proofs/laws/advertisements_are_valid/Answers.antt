use Rattle.frame_laws.proofs.Valid.{answers-valid, unsolicited-valid}
use Rattle.frame_laws.proofs.laws.advertisements_are_valid.Goals as goal

pub returns : goal.returns
returns c = record { answers = answers-valid; unsolicited = unsolicited-valid }
