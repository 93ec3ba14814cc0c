use Rattle.std.proofs.Common.{◌≡◌, [], rules}
use Rattle.announced_set.proofs.Differences.{found-all}
use Rattle.announced_set.proofs.changes.difference.Goals as goal

pub returns : goal.returns
returns c =
    let none : c.loop-address.address-iterator ≡ [] = search rules in
    found-all c.args.addresses.now.keys c.args.others.now.keys c.loop-address.found.keys c.loop-address.address-iterator none c.loop-address.invariant
    c.ascend.ensures c.ascend-2.ensures
