use Rattle.std.proofs.Common.{◌≡◌, ◌++◌, drop, map}
use Rattle.bgp_routes.specs.KeptConfig.{peer_by}
use Rattle.bgp_routes.proofs.kept_config.peers_by.Given as goal

abbrev pub invariant-loop-peer : goal.invariant-loop-peer
invariant-loop-peer l = l.held ++ map (peer_by l.labels l.bgp) (drop l.peer-index l.peers) ≡ map (peer_by l.labels l.bgp) l.peers
