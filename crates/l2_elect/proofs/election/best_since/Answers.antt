use Rattle.std.proofs.Common.{◌≡◌, sym, ap, ◌∙◌}
use Rattle.std.specs.Option.{option_copied}
use Rattle.pool_config.specs.ConfigValue.{ConfigValue}
use Rattle.l2_elect.proofs.Since.{none-since, some-since}
use Rattle.l2_elect.proofs.election.best_since.Goals as goal

pub returns-in_default-kept-clause-node : goal.returns-in_default-kept-clause-node
returns-in_default-kept-clause-node c =
    let config = c.in-Some.config.now in
    none-since c.args.view.now c.args.names.now.keys c.args.members.now c.args.address.now (option_copied c.args.kept) c.requires.kept c.requires.members
    config c.in-Some-pool_with.pool.now (sym c.in-Some.ensures.value) (sym c.in-Some-pool_with.ensures.value) _ c.write_address-length.ensures.text _
    (c.as_slice-l2.ensures ∙ ap (λ (v : ConfigValue). v.l2) c.config-2.view_is) (ap option_copied c.in_default-kept.is) _ c.best_among.ensures.node

pub returns-then-stands-clause-node : goal.returns-then-stands-clause-node
returns-then-stands-clause-node c =
    let config = c.in-Some.config.now in
    some-since c.args.view.now c.args.names.now.keys c.args.members.now c.args.address.now (option_copied c.args.kept) c.requires.kept c.requires.members
    config c.in-Some-pool_with.pool.now (sym c.in-Some.ensures.value) (sym c.in-Some-pool_with.ensures.value) _ c.write_address-length.ensures.text _
    (c.as_slice-l2.ensures ∙ ap (λ (v : ConfigValue). v.l2) c.config-2.view_is)
    c.in-Some-kept.kept.now c.node.result.now c.candidate.result.node.now (ap option_copied c.in-Some-kept.is) c.node.ensures c.candidate.ensures.node
    c.stands.result c.if-stands.true c.stands.ensures _ c.best_among-then-stands.ensures.node
