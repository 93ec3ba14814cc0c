use Rattle.ctl_core.proofs.Reaches.{reached-fresh}
use Rattle.ctl_core.proofs.reached.Core.new.Goals as goal

pub invariant_of-result : goal.invariant_of-result
invariant_of-result c = rw c.in_ok-state.ensures (reached-fresh c.args.class)
