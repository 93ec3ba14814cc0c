use Rattle.std.proofs.Common.{◌≡◌, drop, []}
use Rattle.pool_config.specs.KeySets.{keys_with}
use Rattle.speaker_view.specs.Addresses.{address_cmp}
use Rattle.speaker_view.proofs.change.distinct.Given as goal

abbrev pub invariant-loop-address : goal.invariant-loop-address
invariant-loop-address l =
    keys_with address_cmp l.distinct.keys (drop l.address-index l.addresses) ≡ keys_with address_cmp [] l.addresses
