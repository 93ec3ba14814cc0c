use Rattle.std.proofs.Common.{◌≡◌}
use Rattle.versioned_map.specs.Objects.{shown}
use Rattle.kube_model.specs.Keys.{key_cmp}
use Rattle.object_cache.proofs.Values.{at_value}
use Rattle.object_cache.proofs.kinds.show_slice.Goals as goal

pub returns-clause-ok : goal.returns-clause-ok
returns-clause-ok c = at_value (λ k. c.show_under.new.held ≡ shown key_cmp c.args.slices.now k c.args.version c.args.slice) c.copy.result c.args.slice.key
    c.copy.ensures c.in_ok-show_under.ensures.ok
