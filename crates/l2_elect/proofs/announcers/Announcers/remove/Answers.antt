use Rattle.std.proofs.Common.{None}
use Rattle.l2_elect.proofs.Keeping.{held-now}
use Rattle.l2_elect.proofs.announcers.Announcers.remove.Goals as goal

pub returns : goal.returns
returns c = rw (← c.self.view_is) (held-now c.self.inside.names.entries c.remove.new.self.entries None c.args.address.now c.remove.ensures.updates.0)
