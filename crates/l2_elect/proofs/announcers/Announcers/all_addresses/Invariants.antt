use Rattle.std.proofs.Common.{◌≡◌, ◌++◌, filter}
use Rattle.std.specs.Map.{keys_of}
use Rattle.speaker_view.specs.Endpoints.{recorded_addresses}
use Rattle.l2_elect.specs.Kept.{is_unrecorded}
use Rattle.l2_elect.proofs.announcers.Announcers.all_addresses.Given as goal

abbrev pub invariant-loop-address : goal.invariant-loop-address
invariant-loop-address l =
    l.addresses ++ filter (is_unrecorded l.view) l.address-iterator ≡ recorded_addresses l.view ++ filter (is_unrecorded l.view) (keys_of l.self)
