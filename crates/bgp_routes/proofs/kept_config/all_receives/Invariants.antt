use Rattle.std.proofs.Common.{◌≡◌, ◌++◌, drop, map}
use Rattle.bgp_routes.specs.KeptConfig.{receives}
use Rattle.bgp_routes.proofs.kept_config.all_receives.Given as goal

abbrev pub invariant-loop-advertisement : goal.invariant-loop-advertisement
invariant-loop-advertisement l = l.all ++ map (receives l.labels l.peer) (drop l.advertisement-index l.bgp) ≡ map (receives l.labels l.peer) l.bgp
