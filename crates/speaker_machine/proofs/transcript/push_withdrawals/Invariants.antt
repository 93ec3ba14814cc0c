use Rattle.std.proofs.Common.{◌≡◌, ◌++◌, map}
use Rattle.speaker_machine.specs.Transcript.{withdrawn}
use Rattle.speaker_machine.proofs.transcript.push_withdrawals.Given as goal

abbrev pub invariant-loop-address : goal.invariant-loop-address
invariant-loop-address l = l.entries ++ map withdrawn l.address-iterator ≡ l.fn.entries ++ map withdrawn l.addresses.keys
