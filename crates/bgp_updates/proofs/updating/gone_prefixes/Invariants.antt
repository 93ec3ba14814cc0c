use Rattle.std.proofs.Common.{◌≡◌, ◌++◌, drop}
use Rattle.std.specs.Map.{keys_of}
use Rattle.bgp_updates.specs.Received.{gone}
use Rattle.bgp_updates.proofs.updating.gone_prefixes.Given as goal

abbrev pub invariant-loop-route : goal.invariant-loop-route
invariant-loop-route l = l.prefixes.items ++ keys_of (gone (drop l.route-index l.old) l.new) ≡ keys_of (gone l.old l.new)
