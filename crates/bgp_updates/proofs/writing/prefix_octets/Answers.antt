use Rattle.std.proofs.Common.{sym, subst}
use Rattle.bgp_updates.specs.Message.{Fits, prefix_bytes}
use Rattle.bgp_updates.proofs.Written.{one_written}
use Rattle.bgp_updates.proofs.writing.prefix_octets.Goals as goal

pub put_prefix-requires : goal.put_prefix-requires
put_prefix-requires c =
    subst Fits (sym c.prefix-item.is) (c.requires c.loop-prefix.prefix-index c.prefix-item.result c.loop-prefix-test.true)

pub loop-prefix-preserved : goal.loop-prefix-preserved
loop-prefix-preserved c =
    one_written prefix_bytes c.args.prefixes.now c.loop-prefix.prefix-index c.prefix-item.result c.loop-prefix.bytes.items c.put_prefix.new.out.items
    c.loop-prefix-test.true c.prefix-item.is c.loop-prefix.invariant c.in_ok-put_prefix.ensures
