use Rattle.std.proofs.Common.{◌≡◌, ◌++◌}
use Rattle.std.specs.List.{flat_map}
use Rattle.speaker_machine.specs.Sends.{announcement}
use Rattle.speaker_machine.proofs.transcript.push_announcements.Given as goal

abbrev pub invariant-loop-address : goal.invariant-loop-address
invariant-loop-address l =
    l.entries ++ flat_map (announcement l.view l.local) l.address-iterator ≡ l.fn.entries ++ flat_map (announcement l.view l.local) l.addresses.keys
