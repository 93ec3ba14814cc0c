use Rattle.std.proofs.Common.{◌≡◌, take}
use Rattle.bgp_updates.specs.Message.{prefixes_bytes}
use Rattle.bgp_updates.proofs.writing.prefix_octets.Given as goal

abbrev pub invariant-loop-prefix : goal.invariant-loop-prefix
invariant-loop-prefix l = l.bytes.items ≡ prefixes_bytes (take l.prefix-index l.prefixes)
