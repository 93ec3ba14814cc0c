use Rattle.std.proofs.Common.{◌≡◌, ◌++◌, drop, map}
use Rattle.speaker_view.specs.ViewValue.{ViewValue}
use Rattle.bgp_routes.specs.Kept.{AreKeptFor}
use Rattle.speaker_machine.specs.Kept.{part_at}
use Rattle.speaker_machine.proofs.peers.parts_kept.Given as goal

abbrev pub invariant-loop-peer : goal.invariant-loop-peer
invariant-loop-peer l =
    (v : ViewValue) → AreKeptFor v l.kept
    → l.parts ++ map (part_at l.change v l.kept.node l.kept.both) (drop l.peer-index l.peers) ≡ map (part_at l.change v l.kept.node l.kept.both) l.peers
