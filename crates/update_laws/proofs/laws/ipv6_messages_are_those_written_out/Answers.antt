use Rattle.std.proofs.Common.{refl}
use Rattle.hex.specs.Hex.{encode_with}
use Rattle.bgp_updates.specs.Message.{in_messages, part_bytes}
use Rattle.update_laws.proofs.laws.ipv6_messages_are_those_written_out.Goals as goal

pub returns : goal.returns
unfolding encode_with in_messages part_bytes
returns c = record {
  reached = refl;
  unreached = refl;
  many_reached = refl;
  many_unreached = refl;
  all_attributes = refl;
  in_both_families = refl;
}
