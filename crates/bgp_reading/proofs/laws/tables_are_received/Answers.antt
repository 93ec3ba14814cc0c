use Rattle.bgp_reading.proofs.ReceivedAgain.{of-sender, tables-received}
use Rattle.bgp_reading.proofs.laws.tables_are_received.Goals as goal

pub returns : goal.returns
returns c = record { table = tables-received; sender = of-sender }
