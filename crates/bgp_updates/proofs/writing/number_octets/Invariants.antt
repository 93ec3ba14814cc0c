use Rattle.std.proofs.Common.{◌≡◌, take}
use Rattle.bgp_updates.specs.Message.{communities_bytes}
use Rattle.bgp_updates.proofs.writing.number_octets.Given as goal

abbrev pub invariant-loop-number : goal.invariant-loop-number
invariant-loop-number l = l.bytes.items ≡ communities_bytes (take l.number-index l.numbers)
