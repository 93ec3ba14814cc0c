use Rattle.speaker_view.proofs.Serving.{endpoint-means}
use Rattle.speaker_view.proofs.view.View.endpoint_for.Goals as goal

pub returns-clause-meaning : goal.returns-clause-meaning
returns-clause-meaning c = endpoint-means c.args.self.now c.args.service.now c.args.node.now c.serves_from.result c.serves_from.ensures
