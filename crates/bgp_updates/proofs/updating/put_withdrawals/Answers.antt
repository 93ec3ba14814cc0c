use Rattle.bgp_updates.proofs.SmallGroups.{short-gone, size-withdrawn}
use Rattle.bgp_updates.proofs.updating.put_withdrawals.Goals as goal

pub put_messages-requires-clause-short : goal.put_messages-requires-clause-short
put_messages-requires-clause-short c =
    rw (c.as_slice.ensures.value, c.in_ok-gone.ensures) (short-gone c.args.old.now c.args.new.now c.requires.old)

pub put_messages-requires-clause-room : goal.put_messages-requires-clause-room
put_messages-requires-clause-room c = rw c.withdrawn_part.ensures (size-withdrawn c.args.family)
