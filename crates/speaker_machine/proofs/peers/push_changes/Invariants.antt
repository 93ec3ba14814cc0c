use Rattle.std.proofs.Common.{◌≡◌, ◌++◌, drop, map}
use Rattle.std.specs.List.{flat_map}
use Rattle.speaker_view.specs.ViewValue.{ViewValue}
use Rattle.bgp_routes.specs.Kept.{AreKeptFor}
use Rattle.speaker_machine.specs.Kept.{part_at, part_updates}
use Rattle.speaker_machine.proofs.peers.push_changes.Given as goal

abbrev pub invariant-loop-place : goal.invariant-loop-place
invariant-loop-place l =
    (was now : ViewValue) → l.before ≡ map (part_at l.change was l.kept.node l.kept.both) l.peers → AreKeptFor now l.kept
    → l.entries ++ flat_map (part_updates l.change was now l.kept.node l.hops) (drop l.place l.peers)
    ≡ l.fn.entries ++ flat_map (part_updates l.change was now l.kept.node l.hops) l.peers
