use Rattle.bgp_updates.proofs.SmallGroups.{small-changed}
use Rattle.bgp_updates.proofs.updating.put_family.Goals as goal

pub put_groups-requires : goal.put_groups-requires
put_groups-requires c =
    rw (c.as_slice.ensures.value, c.in_ok-groups.ensures) (small-changed c.args.old.now c.args.new.now c.requires.new c.requires.few)
