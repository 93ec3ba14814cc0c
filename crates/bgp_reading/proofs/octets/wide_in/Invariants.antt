use Rattle.std.proofs.Common.{◌≡◌, ◌<◌, ℕ, length, slice_index}
use Rattle.bgp_reading.proofs.octets.wide_in.Given as goal

abbrev pub invariant-loop-place : goal.invariant-loop-place
invariant-loop-place l = (length l.octets ≡ 16) × ((i : ℕ) → i < l.place → slice_index l.octets i ≡ slice_index l.bytes i)
