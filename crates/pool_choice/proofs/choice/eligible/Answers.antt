use Rattle.std.proofs.Common.{◌≡◌, List, map, ap, subst, ◌∙◌}
use Rattle.std.specs.List.Sorted.{IsStrictlySortedBy}
use Rattle.kube_labels.specs.Names.{name_cmp}
use Rattle.pool_config.specs.ConfigValue.{ConfigValue}
use Rattle.pool_config.specs.declared.compiled.CompiledPool.{CompiledPool}
use Rattle.pool_choice.proofs.EligibleLaws.{eligible-are, answer-got}
use Rattle.pool_choice.proofs.choice.eligible.Goals as goal

pub returns-clause-value : goal.returns-clause-value
returns-clause-value c =
    let same : c.as_slice.result.now ≡ c.args.config.now.pools = c.as_slice.ensures ∙ ap (λ (v : ConfigValue). v.pools) c.config.view_is in
    let up = subst (λ (pools : List CompiledPool). IsStrictlySortedBy name_cmp (map (λ p. p.name) pools)) (ap (λ (v : ConfigValue). v.pools) c.config.view_is)
    c.config.invariant.0.pools in
    answer-got c.args.service.now c.args.namespace.now c.args.config.now.pools c.eligible_in.result up (rw same at c.eligible_in.ensures)

pub returns-clause-meaning : goal.returns-clause-meaning
returns-clause-meaning c =
    let up = subst (λ (pools : List CompiledPool). IsStrictlySortedBy name_cmp (map (λ p. p.name) pools)) (ap (λ (v : ConfigValue). v.pools) c.config.view_is)
    c.config.invariant.0.pools in
    eligible-are c.args.service.now c.args.namespace.now c.args.config.now.pools up
