use Rattle.std.proofs.Common.{◌≡◌, ◌++◌, take}
use Rattle.std.specs.List.{flat_map}
use Rattle.bgp_updates.specs.Between.{group_messages}
use Rattle.bgp_updates.proofs.updating.put_groups.Given as goal

abbrev pub invariant-loop-group : goal.invariant-loop-group
invariant-loop-group l = l.messages ≡ l.initial.messages ++ flat_map (group_messages l.family l.peering) (take l.group-index l.groups)
