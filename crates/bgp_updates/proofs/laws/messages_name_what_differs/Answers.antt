use Rattle.bgp_updates.proofs.Once.{named-differ, stand-once}
use Rattle.bgp_updates.proofs.laws.messages_name_what_differs.Goals as goal

pub returns : goal.returns
returns c = record { differ = named-differ; once = stand-once }
