use Rattle.std.proofs.Common.{◌≡◌, [], filter}
use Rattle.pool_config.specs.KeySets.{keys_with}
use Rattle.speaker_view.specs.Addresses.{address_cmp}
use Rattle.speaker_view.specs.Endpoints.{is_recorded_in}
use Rattle.speaker_view.proofs.view.View.recorded_among.Given as goal

abbrev pub invariant-loop-address : goal.invariant-loop-address
invariant-loop-address l =
    keys_with address_cmp l.found.keys (filter (is_recorded_in l.self) l.address-iterator)
    ≡ keys_with address_cmp [] (filter (is_recorded_in l.self) l.fn.addresses)
