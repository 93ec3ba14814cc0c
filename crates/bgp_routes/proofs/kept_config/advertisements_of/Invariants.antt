use Rattle.std.proofs.Common.{◌≡◌, ◌++◌, drop, map}
use Rattle.bgp_routes.specs.KeptConfig.{advertisement_of}
use Rattle.bgp_routes.proofs.kept_config.advertisements_of.Given as goal

abbrev pub invariant-loop-advertisement : goal.invariant-loop-advertisement
invariant-loop-advertisement l = l.advertisements ++ map advertisement_of (drop l.advertisement-index l.bgp) ≡ map advertisement_of l.bgp
