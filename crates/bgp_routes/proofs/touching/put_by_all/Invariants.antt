use Rattle.bgp_routes.proofs.Renewing.{IsPutUpTo}
use Rattle.bgp_routes.proofs.touching.put_by_all.Given as goal

abbrev pub invariant-loop-place : goal.invariant-loop-place
invariant-loop-place l = IsPutUpTo l.advertisements l.flags l.address l.place l.fn.contributors l.contributors
