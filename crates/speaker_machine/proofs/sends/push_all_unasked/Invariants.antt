use Rattle.std.proofs.Common.{◌≡◌, ◌++◌, drop, map, filter}
use Rattle.l2_elect.specs.Listening.{listens_of}
use Rattle.speaker_machine.specs.Sends.{unsolicited_by}
use Rattle.speaker_machine.proofs.sends.push_all_unasked.Given as goal

abbrev pub invariant-loop-interface : goal.invariant-loop-interface
invariant-loop-interface l =
    l.entries ++ map (unsolicited_by l.address) (filter (λ i. listens_of l.view l.local.node i.name l.address) (drop l.interface-index l.local.interfaces))
    ≡ l.fn.entries ++ map (unsolicited_by l.address) (filter (λ i. listens_of l.view l.local.node i.name l.address) l.local.interfaces)
