use Rattle.std.proofs.Common.{◌≡◌, true, false, Some, None, sym, ◌∙◌, arith}
use Rattle.std.specs.List.{slice_get}
use Rattle.std.proofs.lemmas.Grind.{common_steps}
use Rattle.std.proofs.lemmas.Option.{gets}
use Rattle.bgp_routes.specs.KeptConfig.{is_kept_of}
use Rattle.bgp_routes.proofs.PeerHalves.{found-past, found-there}
use Rattle.bgp_routes.proofs.finding.peer_among.Goals as goal

pub returns-in_err-there : goal.returns-in_err-there
returns-in_err-there c =
    let past : slice_get c.args.peers.now c.count_before.result ≡ None = grind (arith, common_steps, gets) in
    rw c.from_residual.ensures (sym (found-past c.args.peer.now c.args.peers.now c.count_before.result c.requires c.count_before.ensures past))

pub returns-then-is_of : goal.returns-then-is_of
returns-then-is_of c =
    let there = c.in_ok-there.there.now in
    let is : slice_get c.args.peers.now c.count_before.result ≡ Some there = grind (arith, common_steps, gets) in
    let own : is_kept_of c.args.peer.now there ≡ true = sym c.is_of.ensures ∙ c.if-is_of.true in
    sym (found-there c.args.peer.now c.args.peers.now c.count_before.result there true c.requires c.count_before.ensures is own)

pub returns-else-is_of : goal.returns-else-is_of
returns-else-is_of c =
    let there = c.in_ok-there.there.now in
    let is : slice_get c.args.peers.now c.count_before.result ≡ Some there = grind (arith, common_steps, gets) in
    let other : is_kept_of c.args.peer.now there ≡ false = sym c.is_of.ensures ∙ c.if-is_of.false in
    sym (found-there c.args.peer.now c.args.peers.now c.count_before.result there false c.requires c.count_before.ensures is other)
