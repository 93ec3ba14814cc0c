use Rattle.std.proofs.Common.{ℕ, List, Option, ap, ◌∙◌}
use Rattle.std.specs.Prelude.{◌&&◌}
use Rattle.l2_elect.specs.Election.{is_named}
use Rattle.l2_elect.specs.Listening.{is_listened}
use Rattle.l2_elect.proofs.ListenLaws.{listens-means}
use Rattle.l2_elect.proofs.listening.listens.Goals as goal

pub returns-clause-meaning : goal.returns-clause-meaning
returns-clause-meaning c =
    listens-means c.args.view.now c.args.node.now c.args.interface.now c.args.address.now c.listens_as.result
    (c.listens_as.ensures ∙ ap (λ (o : Option (List ℕ)). is_named c.args.node.now o
    && is_listened c.args.view.now c.args.node.now c.args.interface.now c.args.address.now) c.first.ensures)
