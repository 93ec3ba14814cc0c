use Rattle.std.proofs.Common.{◌≡◌}
use Rattle.core_rules.specs.Take.{core_expired}
use Rattle.controller_run.specs.Lanes.{lane_group}
use Rattle.controller_run.proofs.Steps.{enters_lapse}
use Rattle.controller_run.proofs.lanes.take_from.Goals as goal

pub returns-in-Expired-clause-ok : goal.returns-in-Expired-clause-ok
returns-in-Expired-clause-ok c =
    let leads : c.take_expired.new.self ≡ core_expired c.args.core.now (lane_group c.args.lane) = rw c.lane_group.ensures at c.take_expired.ensures.core in
    rw c.in-Expired.is (enters_lapse c.args.core.now c.take_expired.new.self (lane_group c.args.lane) leads)
