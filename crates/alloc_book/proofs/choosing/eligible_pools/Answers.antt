use Rattle.alloc_book.proofs.ChooseLaws.{answer-found}
use Rattle.pool_config.specs.ConfigValue.{ConfigValue}
use Rattle.std.proofs.Common.{◌≡◌, ◌∙◌, ap}
use Rattle.alloc_book.proofs.choosing.eligible_pools.Goals as goal

pub returns-clause-eligible : goal.returns-clause-eligible
returns-clause-eligible c =
    let pools : c.as_slice.result.now ≡ c.args.config.now.pools = c.as_slice.ensures ∙ ap (λ (v : ConfigValue). v.pools) c.config.view_is in
    answer-found (λ v. v.items) _ _ c.in_ok-places.places _ _ c.pools_at.result pools c.as_slice-2.ensures c.in_ok-places.ensures.value
    c.pools_at.ensures.places

pub returns-clause-among : goal.returns-clause-among
returns-clause-among c =
    let pools : c.as_slice.result.now ≡ c.args.config.now.pools = c.as_slice.ensures ∙ ap (λ (v : ConfigValue). v.pools) c.config.view_is in
    rw pools at c.pools_at.ensures.among
