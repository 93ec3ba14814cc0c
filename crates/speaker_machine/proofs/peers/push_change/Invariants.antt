use Rattle.std.proofs.Common.{◌≡◌, ◌++◌, drop, map}
use Rattle.bgp_updates.specs.Between.{messages_between, peering_of}
use Rattle.speaker_machine.specs.Updates.{updated}
use Rattle.speaker_machine.proofs.peers.push_change.Given as goal

abbrev pub invariant-loop-message : goal.invariant-loop-message
invariant-loop-message l =
    l.entries ++ map (updated l.peer) (drop l.message-index l.message-items)
    ≡ l.fn.entries ++ map (updated l.peer) (messages_between (peering_of l.peer l.hops.v4 l.hops.v6) l.before l.after)
