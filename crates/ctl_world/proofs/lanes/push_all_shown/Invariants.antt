use Rattle.std.proofs.Common.{◌≡◌, ◌++◌, drop}
use Rattle.ctl_world.specs.Listed.{listed}
use Rattle.ctl_world.proofs.lanes.push_all_shown.Given as goal

abbrev pub invariant-loop-stored : goal.invariant-loop-stored
invariant-loop-stored l = l.lane.items ++ listed l.group (drop l.stored-index l.objects) ≡ l.fn.lane.items ++ listed l.group l.objects
