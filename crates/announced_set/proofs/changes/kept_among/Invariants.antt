use Rattle.std.proofs.Common.{◌≡◌, drop, filter}
use Rattle.pool_config.specs.KeySets.{keys_with}
use Rattle.announced_set.specs.Announced.{address_cmp}
use Rattle.announced_set.specs.Changes.{kept_among, is_kept_announcer}
use Rattle.announced_set.proofs.changes.kept_among.Given as goal

abbrev pub invariant-loop-address : goal.invariant-loop-address
invariant-loop-address l =
    keys_with address_cmp l.found.keys (filter (is_kept_announcer l.announcers l.node) (drop l.address-index l.addresses))
    ≡ kept_among l.announcers l.node l.addresses
