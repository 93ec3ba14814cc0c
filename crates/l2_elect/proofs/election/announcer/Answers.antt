use Rattle.std.specs.Option.{option_copied}
use Rattle.l2_elect.proofs.Least.{announcer-means, nobody-means}
use Rattle.l2_elect.proofs.election.announcer.Goals as goal

pub returns-clause-meaning : goal.returns-clause-meaning
returns-clause-meaning c = announcer-means c.args.view.now c.args.address.now (option_copied c.first.result) c.first.ensures

pub returns-clause-none : goal.returns-clause-none
returns-clause-none c = nobody-means c.args.view.now c.args.address.now c.first.result c.first.ensures
