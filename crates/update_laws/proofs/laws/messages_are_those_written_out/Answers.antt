use Rattle.std.proofs.Common.{refl}
use Rattle.hex.specs.Hex.{encode_with}
use Rattle.bgp_updates.specs.Message.{in_messages, part_bytes}
use Rattle.update_laws.proofs.laws.messages_are_those_written_out.Goals as goal

pub returns : goal.returns
unfolding encode_with in_messages part_bytes
returns c = record {
  to_another_as = refl;
  inside_the_as = refl;
  withdrawn = refl;
  with_community = refl;
  without_preference = refl;
  unchanged = refl;
  in_order = refl;
}
