use Rattle.std.proofs.Common.{ap, ◌∙◌}
use Rattle.l2_elect.specs.Election.{is_named}
use Rattle.l2_elect.proofs.Least.{announces-means}
use Rattle.l2_elect.proofs.election.announces.Goals as goal

pub returns-clause-meaning : goal.returns-clause-meaning
returns-clause-meaning c =
    announces-means c.args.view.now c.args.address.now c.args.node.now c.is_named.result (c.is_named.ensures ∙ ap (is_named c.args.node.now) c.first.ensures)
