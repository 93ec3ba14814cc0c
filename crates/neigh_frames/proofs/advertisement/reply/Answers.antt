use Rattle.std.proofs.Common.{◌≡◌, refl, sym, subst, arith}
use Rattle.neigh_frames.specs.Advertisement.{ndp_reply}
use Rattle.neigh_frames.specs.Solicitation.{HasRightChecksum}
use Rattle.neigh_frames.proofs.RightSums.{ndp_reply-HasRightChecksum}
use Rattle.neigh_frames.proofs.advertisement.reply.Goals as goal

pub returns-clause-checksum : goal.returns-clause-checksum
returns-clause-checksum c =
    let written : c.whole.result ≡ ndp_reply c.args.mac.now c.args.hardware.now c.args.target.now c.args.destination.now c.args.flags =
    rw (
      c.whole.ensures,
      c.put-6.ensures,
      c.put-5.ensures,
      c.put-4.ensures,
      c.put-3.ensures,
      c.put-2.ensures,
      c.put.ensures,
      c.new-frame.ensures,
      c.advertisement-message.ensures,
      c.checksum-checksum.ensures,
    ) refl in
    subst HasRightChecksum (sym written)
    (ndp_reply-HasRightChecksum c.args.mac.now c.args.target.now c.args.destination.now c.args.flags c.told-mac c.requires.target c.requires.destination
    c.fits-mac (λ i. omega (arith, c.type_inv.target i)) (λ i. omega (arith, c.type_inv.destination i)) (omega (arith, c.ranges.flags.fits)) c.args.hardware.now
    c.requires.hardware)
