use Rattle.std.proofs.Common.{arith}
use Rattle.bgp_updates.proofs.SmallGroups.{length-communities}
use Rattle.bgp_updates.proofs.writing.put_communities.Goals as goal

pub put_optional-requires-clause-value : goal.put_optional-requires-clause-value
put_optional-requires-clause-value c =
    rw (c.as_slice.ensures.value, c.in_ok-value.ensures) (omega (arith, length-communities c.args.numbers.now, c.requires))
