use Rattle.event_laws.proofs.AskedLaws.{nothing_is_asked}
use Rattle.event_laws.proofs.laws.nothing_is_asked.Goals as goal

pub returns : goal.returns
returns c = nothing_is_asked
