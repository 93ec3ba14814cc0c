use Rattle.std.proofs.Common.{refl}
use Rattle.neigh_frames.proofs.advertisement.checksum.Goals as goal

pub returns : goal.returns
returns c =
    rw (c.message_sum.ensures, c.advertisement-message.ensures, c.whole-addresses.ensures, c.put-2.ensures, c.put.ensures, c.new-addresses.ensures) refl
