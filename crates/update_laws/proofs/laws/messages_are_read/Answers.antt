use Rattle.update_laws.proofs.Told.{messages-read}
use Rattle.update_laws.proofs.laws.messages_are_read.Goals as goal

pub returns : goal.returns
returns c = messages-read
