use Rattle.std.proofs.Common.{◌∙◌, rules}
use Rattle.pool_config.proofs.OnePool.{with_found, with_only}
use Rattle.pool_config.proofs.config.Config.pool_with.Goals as goal

pub returns-clause-value : goal.returns-clause-value
returns-clause-value c = search rules

pub returns-clause-found : goal.returns-clause-found
returns-clause-found c = rw (returns-clause-value c) (with_found c.args.self.now.pools c.args.address.now)

pub returns-clause-only : goal.returns-clause-only
returns-clause-only c =
    λ pool inside has. returns-clause-value c ∙ with_only c.args.self.now.pools c.holder.ensures.config.apart c.args.address.now pool inside has
