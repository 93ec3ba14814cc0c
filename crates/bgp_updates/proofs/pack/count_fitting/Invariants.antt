use Rattle.bgp_updates.proofs.Packing.{IsCounted}
use Rattle.bgp_updates.proofs.pack.count_fitting.Given as goal

abbrev pub invariant-loop-prefix : goal.invariant-loop-prefix
invariant-loop-prefix l = IsCounted l.room l.left l.count l.prefix-index l.prefixes
