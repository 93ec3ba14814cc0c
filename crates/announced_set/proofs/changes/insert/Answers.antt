use Rattle.std.proofs.Common.{true}
use Rattle.speaker_view.proofs.AddressOrder.{has-updated}
use Rattle.announced_set.proofs.changes.insert.Goals as goal

pub returns : goal.returns
returns c = has-updated c.args.addresses.now.keys c.insert.new.self.keys true c.args.address.now c.in_ok-insert.ensures.updates.0
