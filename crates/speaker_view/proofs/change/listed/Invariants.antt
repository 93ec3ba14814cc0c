use Rattle.std.proofs.Common.{◌≡◌, ◌++◌}
use Rattle.speaker_view.proofs.change.listed.Given as goal

abbrev pub invariant-loop-address : goal.invariant-loop-address
invariant-loop-address l = l.list ++ l.address-iterator ≡ l.addresses.keys
