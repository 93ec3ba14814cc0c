use Rattle.bgp_routes.proofs.PeerHalves.{names-held}
use Rattle.bgp_routes.proofs.kept_config.KeptConfig.by.Goals as goal

pub invariant_of-result : goal.invariant_of-result
invariant_of-result c =
    rw (c.in_ok-advertisements.ensures, c.bgp_of-bgp.ensures.advertisements, c.in_ok-peers.ensures, c.peers_of.ensures.peers)
    (c.bgp_of-bgp.ensures.few, names-held c.node_labels-labels.result.now c.bgp_of-bgp.result.now c.args.view.now c.peers_of.ensures.names)
