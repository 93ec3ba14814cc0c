use Rattle.std.proofs.Common.{◌≡◌, ◌++◌, drop, map}
use Rattle.bgp_routes.specs.KeptConfig.{is_chosen}
use Rattle.bgp_routes.proofs.kept_config.choice_by.Given as goal

abbrev pub invariant-loop-advertisement : goal.invariant-loop-advertisement
invariant-loop-advertisement l = l.choice ++ map (is_chosen l.labels l.pool) (drop l.advertisement-index l.bgp) ≡ map (is_chosen l.labels l.pool) l.bgp
