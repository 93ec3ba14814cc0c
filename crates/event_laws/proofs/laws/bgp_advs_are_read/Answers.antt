use Rattle.event_laws.proofs.BgpLaws.{bgp_advs_are_read}
use Rattle.event_laws.proofs.laws.bgp_advs_are_read.Goals as goal

pub returns : goal.returns
returns c = bgp_advs_are_read
