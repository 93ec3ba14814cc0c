use Rattle.std.proofs.Common.{◌≡◌, take}
use Rattle.bgp_updates.specs.Message.{larges_bytes}
use Rattle.bgp_updates.proofs.writing.larges_octets.Given as goal

abbrev pub invariant-loop-number : goal.invariant-loop-number
invariant-loop-number l = l.bytes.items ≡ larges_bytes (take l.number-index l.numbers)
