use Rattle.std.proofs.Common.{arith}
use Rattle.bgp_updates.proofs.SmallGroups.{size-within}
use Rattle.bgp_reading.proofs.spelling.are_announced.Goals as goal

pub is_message-requires-clause-part : goal.is_message-requires-clause-part
is_message-requires-clause-part c =
    rw c.in_ok-part.ensures (omega (arith, c.requires.communities, c.requires.large, size-within c.args.family c.args.sender.now c.args.terms.now))
