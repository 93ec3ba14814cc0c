use Rattle.bgp_routes.proofs.Standing.{put-in_ok, put-out}
use Rattle.bgp_routes.proofs.contributors.Contributors.put.Goals as goal

pub returns-then-contributes : goal.returns-then-contributes
returns-then-contributes c =
    rw (← c.self.view_is, c.if-contributes.true)
    (put-in_ok c.self.inside.addresses c.insert.new.self c.args.aggregate c.args.address.now c.insert.result c.insert.ensures.ok)

pub returns-else-contributes : goal.returns-else-contributes
returns-else-contributes c =
    rw (← c.self.view_is, c.if-contributes.false)
    (put-out c.self.inside.addresses c.remove.new.self c.args.aggregate c.args.address.now c.remove.ensures)
