use Rattle.std.proofs.Common.{◌≡◌, ◌++◌, drop, reverse}
use Rattle.ctl_world.specs.Listed.{listed}
use Rattle.ctl_world.proofs.lanes.push_all_first.Given as goal

abbrev pub invariant-loop-stored : goal.invariant-loop-stored
invariant-loop-stored l = reverse (listed l.group (drop l.stored-index l.objects)) ++ l.lane.items ≡ reverse (listed l.group l.objects) ++ l.fn.lane.items
