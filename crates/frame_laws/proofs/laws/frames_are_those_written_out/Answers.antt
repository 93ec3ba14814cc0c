use Rattle.std.proofs.Common.{refl}
use Rattle.hex.specs.Hex.{decode_pairs, encode_with}
use Rattle.neigh_frames.specs.Advertisement.{unasked_ndp_of}
use Rattle.neigh_frames.specs.Arp.{unasked_arp_of}
use Rattle.frame_laws.proofs.laws.frames_are_those_written_out.Goals as goal

pub returns : goal.returns
unfolding decode_pairs encode_with unasked_ndp_of unasked_arp_of
returns c = record {
  answered_arp = (refl, refl);
  told_unasked = refl;
  answered_unspecified = (refl, refl, refl);
  answered_solicitation = refl;
  advertised_unasked = refl;
}
