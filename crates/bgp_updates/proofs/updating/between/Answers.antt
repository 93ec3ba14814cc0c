use Rattle.ip_ranges.specs.declared.family.Family.TheVariants.{V4, V6}
use Rattle.bgp_updates.proofs.Families.{family-few, family-table}
use Rattle.bgp_updates.proofs.updating.between.Goals as goal

pub put_family-requires : goal.put_family-requires
put_family-requires c = record {
  old = rw c.by_family.ensures.v4 (family-table V4 c.args.old.now c.requires.old);
  new = rw c.by_family-2.ensures.v4 (family-table V4 c.args.new.now c.requires.new);
  few = rw c.by_family-2.ensures.v4 (family-few V4 c.args.new.now c.requires.few);
}

pub put_family-requires-2 : goal.put_family-requires-2
put_family-requires-2 c = record {
  old = rw c.by_family.ensures.v6 (family-table V6 c.args.old.now c.requires.old);
  new = rw c.by_family-2.ensures.v6 (family-table V6 c.args.new.now c.requires.new);
  few = rw c.by_family-2.ensures.v6 (family-few V6 c.args.new.now c.requires.few);
}
