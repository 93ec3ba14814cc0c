use Rattle.l2_elect.proofs.Keeping.{made-right}
use Rattle.l2_elect.proofs.announcers.Announcers.make.Goals as goal

pub returns-in-Ok-clause-ok : goal.returns-in-Ok-clause-ok
returns-in-Ok-clause-ok c = made-right c.args.self.now c.make_each.new.self c.args.moves c.in-Ok.ensures c.ascend.ensures
