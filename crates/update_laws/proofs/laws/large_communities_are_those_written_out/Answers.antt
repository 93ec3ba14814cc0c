use Rattle.std.proofs.Common.{refl}
use Rattle.hex.specs.Hex.{encode_with}
use Rattle.bgp_updates.specs.Message.{in_messages, part_bytes}
use Rattle.update_laws.proofs.laws.large_communities_are_those_written_out.Goals as goal

pub returns : goal.returns
unfolding encode_with in_messages part_bytes
returns c = record {
  with_large = refl;
  with_many_large = refl;
  large_changed = refl;
}
