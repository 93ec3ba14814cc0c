use Rattle.std.proofs.Common.{arith}
use Rattle.bgp_updates.proofs.SmallGroups.{length-larges}
use Rattle.bgp_updates.proofs.writing.put_larges.Goals as goal

pub put_optional-requires-clause-value : goal.put_optional-requires-clause-value
put_optional-requires-clause-value c =
    rw (c.as_slice.ensures.value, c.in_ok-value.ensures) (omega (arith, length-larges c.args.numbers.now, c.requires))
