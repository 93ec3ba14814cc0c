use Rattle.std.proofs.Common.{length}
use Rattle.bgp_updates.proofs.Packing.{IsPacked}
use Rattle.bgp_updates.proofs.pack.put_messages.Given as goal

abbrev pub invariant-loop-rest : goal.invariant-loop-rest
invariant-loop-rest l = IsPacked l.part l.initial.messages l.messages l.rest l.prefixes

abbrev pub decreases-loop-rest : goal.decreases-loop-rest
decreases-loop-rest l = length l.rest
