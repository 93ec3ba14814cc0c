use Rattle.speaker_view.proofs.Serving.{announce-means}
use Rattle.speaker_view.proofs.view.View.can_announce.Goals as goal

pub returns-clause-meaning : goal.returns-clause-meaning
returns-clause-meaning c = announce-means c.args.self.now c.args.service.now c.args.node.now c.announces_from.result c.announces_from.ensures
