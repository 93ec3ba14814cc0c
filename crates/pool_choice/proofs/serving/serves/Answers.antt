use Rattle.std.proofs.Common.{sym, ◌∙◌}
use Rattle.pool_choice.proofs.ServingLaws.{serves-Decides}
use Rattle.pool_choice.proofs.serving.serves.Goals as goal

pub returns-clause-meaning : goal.returns-clause-meaning
returns-clause-meaning c =
    let decides = serves-Decides c.args.service.now c.args.namespace.now c.args.pool.now in
    (λ e. decides.0 (sym c.test.ensures ∙ e), λ h. c.test.ensures ∙ decides.1 h)
