use Rattle.std.proofs.Common.{◌≡◌, ◌++◌, drop, map}
use Rattle.speaker_words.specs.Seen.{interface_seen}
use Rattle.speaker_machine.specs.LocalNode.{interface_by}
use Rattle.speaker_machine.proofs.local_node.owned_interfaces.Given as goal

abbrev pub invariant-loop-word : goal.invariant-loop-word
invariant-loop-word l = l.interfaces ++ map interface_by (map interface_seen (drop l.word-index l.words)) ≡ map interface_by (map interface_seen l.words)
