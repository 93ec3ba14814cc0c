use Rattle.event_laws.proofs.ReplyLaws.{replies_are_read}
use Rattle.event_laws.proofs.laws.replies_are_read.Goals as goal

pub returns : goal.returns
returns c = replies_are_read
