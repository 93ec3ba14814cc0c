use Rattle.bgp_updates.proofs.OneFamily.{plain-alone}
use Rattle.bgp_mp.proofs.Made.{made}
use Rattle.bgp_mp.proofs.laws.messages_make_tables.Goals as goal

pub returns : goal.returns
returns c = record { made = made; plain = plain-alone }
