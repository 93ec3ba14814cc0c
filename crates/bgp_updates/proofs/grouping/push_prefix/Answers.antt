use Rattle.bgp_updates.proofs.Joining.{pushed}
use Rattle.bgp_updates.proofs.grouping.push_prefix.Goals as goal

pub returns : goal.returns
returns c =
    pushed c.push.result c.args.groups.now.items c.args.place c.args.prefix c.index_mut.result.now c.push.new.self c.requires c.index_mut.ensures.value
    c.push.ensures.ok
