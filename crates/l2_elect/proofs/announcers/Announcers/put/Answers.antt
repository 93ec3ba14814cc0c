use Rattle.std.proofs.Common.{Some}
use Rattle.l2_elect.proofs.Keeping.{held-now}
use Rattle.l2_elect.proofs.announcers.Announcers.put.Goals as goal

pub returns : goal.returns
returns c =
    rw (← c.self.view_is)
    (held-now c.self.inside.names.entries c.insert.new.self.entries (Some c.args.winner) c.args.address c.in_ok-insert.ensures.updates.0)
