use Rattle.std.proofs.Common.{ap₂, ◌∙◌}
use Rattle.pool_config.specs.Choice.{chooses}
use Rattle.pool_config.proofs.Tests.{chosen}
use Rattle.pool_config.proofs.choice.ChoosesPools.chooses.Goals as goal

pub returns-clause-meaning : goal.returns-clause-meaning
returns-clause-meaning g c =
    let pool = c.args.pool.now in
    chosen (g.Self.ChoosesPools.pools c.args.self.now) (g.Self.ChoosesPools.pool_selectors c.args.self.now) pool.name pool.labels _
    (c.chooses_pool.ensures ∙ ap₂ (λ names selectors. chooses names selectors pool.name pool.labels) c.pools.ensures c.pool_selectors.ensures)
