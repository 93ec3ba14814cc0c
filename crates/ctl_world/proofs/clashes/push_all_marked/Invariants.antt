use Rattle.std.proofs.Common.{◌≡◌, ◌++◌, drop}
use Rattle.ctl_world.specs.Clashes.{marked_in}
use Rattle.ctl_world.proofs.clashes.push_all_marked.Given as goal

abbrev pub invariant-loop-stored : goal.invariant-loop-stored
invariant-loop-stored l = l.marked.items ++ marked_in (drop l.stored-index l.objects) ≡ l.fn.marked.items ++ marked_in l.objects
