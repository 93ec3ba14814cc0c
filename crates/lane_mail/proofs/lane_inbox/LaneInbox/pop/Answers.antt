use Rattle.std.proofs.Common.{◌^◌, length, ap, ◌∙◌, arith}
use Rattle.lane_mail.specs.Lanes.{item_lane}
use Rattle.lane_mail.specs.Values.{LaneReceiver}
use Rattle.lane_mail.proofs.Carrying.{gets, few_before, took_of}
use Rattle.lane_mail.proofs.Taking.{got_item}
use Rattle.lane_mail.proofs.lane_inbox.LaneInbox.pop.Goals as goal

pub pop_as-requires-clause-rule : goal.pop_as-requires-clause-rule
pop_as-requires-clause-rule g c = (gets item_lane (2 ^ 61) _ _ (ap (λ v. v.takes) c.self.invariant.takes), λ _ _ _ _. tt)

pub overflow_add-self : goal.overflow_add-self
overflow_add-self g c =
    let few = few_before item_lane (2 ^ 61) _ _ _ c.in-Some.ensures.rule.0 in
    omega (arith, c.self.invariant.counts, few c.self.inside.lane, ap length c.self.invariant.only)

pub invariant_of-self-2 : goal.invariant_of-self-2
invariant_of-self-2 g c =
    got_item c.self.inside.lane c.self.inside.count c.self.inside.items c.pop_as.new.pass c.in-Some.item c.self.invariant c.in-Some.ensures.rule.0
    c.in-Some.ensures.queue.0.1 c.in-Some.ensures.queue.0.2

pub returns-clause-lane : goal.returns-clause-lane
returns-clause-lane g c =
    took_of item_lane c.self.inside.lane (2 ^ 61) _ _ c.in-Some.item c.self.invariant.takes c.in-Some.ensures.rule.0
    ∙ ap (λ (r : LaneReceiver). r.lane) c.self.view_is

pub returns-clause-few : goal.returns-clause-few
returns-clause-few g c =
    let now = got_item c.self.inside.lane c.self.inside.count c.self.inside.items c.pop_as.new.pass c.in-Some.item c.self.invariant
    c.in-Some.ensures.rule.0 c.in-Some.ensures.queue.0.1 c.in-Some.ensures.queue.0.2 in
    let few = c.in-Some.ensures.rule.0.few c.self.inside.lane in
    omega (arith, few, ap length now.only)
