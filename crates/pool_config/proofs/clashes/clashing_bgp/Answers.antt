use Rattle.std.proofs.Common.{◌∙◌}
use Rattle.pool_config.proofs.KnownClashes.{first-is}
use Rattle.pool_config.proofs.clashes.clashing_bgp.Goals as goal

pub returns : goal.returns
returns c = c.first_clashing-found.ensures
    ∙ rw c.as_slice.ensures.value (first-is c.args.bgp.now c.in_ok-known.known.items c.args.pools.now c.in_ok-known.ensures.pools c.in_ok-known.ensures.known)
