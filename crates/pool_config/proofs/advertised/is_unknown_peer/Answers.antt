use Rattle.std.specs.BTreeMap.{is_at}
use Rattle.kube_labels.specs.Names.{name_cmp}
use Rattle.pool_config.proofs.ByName.{unknown}
use Rattle.pool_config.proofs.advertised.is_unknown_peer.Goals as goal

pub returns : goal.returns
returns c = unknown c.args.peers.now (is_at (name_cmp c.args.name.now)) c.get.result _ c.is_none.ensures c.get.ensures
