use Rattle.std.proofs.Common.{◌∙◌}
use Rattle.bgp_updates.proofs.Families.{first-half, second-half}
use Rattle.bgp_updates.proofs.finding.by_family.Goals as goal

pub returns-clause-v4 : goal.returns-clause-v4
returns-clause-v4 c = c.split_at.ensures.front ∙ first-half c.args.table.now c.count_v4.result c.count_v4.ensures.within c.count_v4.ensures.point

pub returns-clause-v6 : goal.returns-clause-v6
returns-clause-v6 c = c.split_at.ensures.back ∙ second-half c.args.table.now c.count_v4.result c.count_v4.ensures.within c.count_v4.ensures.point
