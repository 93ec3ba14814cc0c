use Rattle.std.proofs.Common.{◌∙◌}
use Rattle.pool_config.proofs.OnePool.{holder_found, holder_only, holder_none}
use Rattle.pool_config.proofs.SpanPlaces.{found-is}
use Rattle.pool_config.proofs.config.Config.pool_of.Goals as goal

pub returns-clause-config : goal.returns-clause-config
returns-clause-config c = rw (← c.self.view_is) c.self.invariant.0

pub returns-clause-value : goal.returns-clause-value
returns-clause-value c =
    rw (← c.self.view_is)
    (found-is c.self.inside.pools c.self.inside.index c.self.invariant.0.apart c.self.invariant.1 c.args.address.now c.holder.result c.holder.ensures.found
    c.holder.ensures.none)

pub returns-clause-found : goal.returns-clause-found
returns-clause-found c = rw (returns-clause-value c) (holder_found c.args.self.now.pools c.args.address.now)

pub returns-clause-only : goal.returns-clause-only
returns-clause-only c =
    λ place pool stands has. returns-clause-value c ∙ holder_only c.args.self.now.pools (returns-clause-config c).apart c.args.address.now place pool stands has

pub returns-clause-none : goal.returns-clause-none
returns-clause-none c = rw (returns-clause-value c) (holder_none c.args.self.now.pools (returns-clause-config c).apart c.args.address.now)
