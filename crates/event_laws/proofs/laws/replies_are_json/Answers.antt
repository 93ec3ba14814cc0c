use Rattle.event_laws.proofs.ReplyLaws.{replies_are_json}
use Rattle.event_laws.proofs.laws.replies_are_json.Goals as goal

pub returns : goal.returns
returns c = replies_are_json
