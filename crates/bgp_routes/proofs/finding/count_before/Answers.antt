use Rattle.std.proofs.Common.{rules}
use Rattle.std.proofs.lemmas.List.Sorted.{IsPartitionPoint-from_clause}
use Rattle.bgp_routes.specs.KeptConfig.{is_before}
use Rattle.bgp_routes.proofs.PeerHalves.{has-halves}
use Rattle.bgp_routes.proofs.finding.count_before.Goals as goal

-- the closure tells whether a peer's name is before this one's
pub returns : goal.returns
returns c =
    let peers = c.args.peers.now in
    IsPartitionPoint-from_clause (is_before c.args.peer.now) peers c.partition_point.result c.partition_point.ensures.partitioned
    (has-halves c.args.peer.now peers c.requires) (λ a r q k. search rules)
