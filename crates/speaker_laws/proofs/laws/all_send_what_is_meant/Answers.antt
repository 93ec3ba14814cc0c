use Rattle.speaker_laws.proofs.Meant.{all_send_what_is_meant}
use Rattle.speaker_laws.proofs.laws.all_send_what_is_meant.Goals as goal

pub returns : goal.returns
returns c = all_send_what_is_meant
