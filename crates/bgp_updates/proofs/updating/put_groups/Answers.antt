use Rattle.std.proofs.Common.{sym, subst, arith}
use Rattle.bgp_updates.specs.Between.{IsRouteGroup}
use Rattle.bgp_updates.proofs.SmallGroups.{size-announced}
use Rattle.bgp_updates.proofs.updating.put_groups.Goals as goal

pub announced_part-requires-clause-communities : goal.announced_part-requires-clause-communities
announced_part-requires-clause-communities c =
    let group : IsRouteGroup c.group-item.result = subst IsRouteGroup (sym c.group-item.is)
    (c.requires c.loop-group.group-index c.group-item.result (omega arith)) in
    omega (arith, group.few.0)

pub announced_part-requires-clause-large : goal.announced_part-requires-clause-large
announced_part-requires-clause-large c =
    let group : IsRouteGroup c.group-item.result = subst IsRouteGroup (sym c.group-item.is)
    (c.requires c.loop-group.group-index c.group-item.result (omega arith)) in
    omega (arith, group.few.1)

pub put_messages-requires-clause-room : goal.put_messages-requires-clause-room
put_messages-requires-clause-room c =
    let group : IsRouteGroup c.group-item.result = subst IsRouteGroup (sym c.group-item.is)
    (c.requires c.loop-group.group-index c.group-item.result (omega arith)) in
    rw c.in_ok-part.ensures (size-announced c.args.family c.args.peering.now c.group-item.result.terms group.few)
