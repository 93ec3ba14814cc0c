use Rattle.std.proofs.Common.{◌^◌, refl, ap, ◌∙◌}
use Rattle.lane_mail.specs.declared.lane.Lane.TheVariants.{First, Second}
use Rattle.lane_mail.specs.declared.hand.Hand.{Hand}
use Rattle.lane_mail.specs.declared.item.Item.{Item}
use Rattle.lane_mail.specs.declared.mark.Mark.{Mark}
use Rattle.lane_mail.specs.Lanes.{item_lane, mark_lane}
use Rattle.lane_mail.specs.Hands.{may_send, sender, without}
use Rattle.lane_mail.proofs.Carrying.{begins, forks, forks_beside}
use Rattle.lane_mail.specs.Values.{LaneReceiver}
use Rattle.lane_mail.proofs.Opening.{of_mail, inboxes_of_mail, new_lane, new_inbox, new_inboxes}
use Rattle.lane_mail.proofs.mail.Mail.new.Goals as goal

pub ruled-requires-clause-rule : goal.ruled-requires-clause-rule
ruled-requires-clause-rule c = begins mark_lane 1

pub with_rule-requires : goal.with_rule-requires
with_rule-requires c = begins item_lane (2 ^ 61)

pub with_rule-requires-2 : goal.with_rule-requires-2
with_rule-requires-2 c = begins item_lane (2 ^ 61)

-- the passes of the first lane, which is made first
pub another-requires-clause-queue : goal.another-requires-clause-queue
another-requires-clause-queue c = c.in_ok-first_items.ensures.0

pub another-requires-clause-rule : goal.another-requires-clause-rule
another-requires-clause-rule c = forks item_lane (2 ^ 61) First _ _ (ap (may_send First) c.in_ok-first_items.ensures.2)

pub another-requires-2-clause-queue : goal.another-requires-2-clause-queue
another-requires-2-clause-queue c = c.in-Ok.ensures.0

pub another-requires-2-clause-rule : goal.another-requires-2-clause-rule
another-requires-2-clause-rule c = forks_beside item_lane (2 ^ 61) _ _

pub another-requires-3-clause-queue : goal.another-requires-3-clause-queue
another-requires-3-clause-queue c = c.in_ok-marks.ensures.1

pub another-requires-3-clause-rule : goal.another-requires-3-clause-rule
another-requires-3-clause-rule c = forks mark_lane 1 First _ _ (ap (may_send First) c.in_ok-marks.ensures.3)

-- those of the second
pub another-requires-4-clause-queue : goal.another-requires-4-clause-queue
another-requires-4-clause-queue c = c.another-2.ensures.queue.0

pub another-requires-4-clause-rule : goal.another-requires-4-clause-rule
another-requires-4-clause-rule c =
    forks item_lane (2 ^ 61) Second _ _ (ap (may_send Second) (c.another-2.ensures.rule.0 ∙ c.in-Ok.ensures.2))

pub another-requires-5-clause-queue : goal.another-requires-5-clause-queue
another-requires-5-clause-queue c = c.another.ensures.queue.0

pub another-requires-5-clause-rule : goal.another-requires-5-clause-rule
another-requires-5-clause-rule c = forks_beside item_lane (2 ^ 61) _ _

pub another-requires-6-clause-queue : goal.another-requires-6-clause-queue
another-requires-6-clause-queue c =
    (c.another-3.ensures.queue.0.0 ∙ c.in_ok-marks.ensures.1.0, c.another-3.ensures.queue.0.2 ∙ c.in_ok-marks.ensures.1.1)

pub another-requires-6-clause-rule : goal.another-requires-6-clause-rule
another-requires-6-clause-rule c =
    forks mark_lane 1 Second _ _ (ap (may_send Second) (c.another-3.ensures.rule.0 ∙ ap (without First) c.in_ok-marks.ensures.3))

-- what is left are those that take
pub new-requires-3 : goal.new-requires-3
new-requires-3 c =
    new_inbox First _ c.another-5.new.pass c.another-5.ensures.queue.0
    (c.another-5.ensures.rule.0 ∙ (c.another.ensures.rule.0 ∙ ap (without First) c.in_ok-first_items.ensures.2))

pub new-requires-4 : goal.new-requires-4
new-requires-4 c =
    new_inbox Second _ c.another-4.new.pass c.another-4.ensures.queue.0
    (c.another-4.ensures.rule.0 ∙ ap (without Second) (c.another-2.ensures.rule.0 ∙ c.in-Ok.ensures.2))

pub invariant_of-first : goal.invariant_of-first
invariant_of-first c =
    new_lane First _ c.another.result c.another-3.result c.another.ensures.queue.2 c.another-3.ensures.queue.1.1
    (c.another.ensures.rule.1 ∙ ap (λ (h : Hand Item). sender First h.sent) c.in_ok-first_items.ensures.2)
    (c.another-3.ensures.rule.1 ∙ ap (λ (h : Hand Mark). sender First h.sent) c.in_ok-marks.ensures.3)

pub invariant_of-second : goal.invariant_of-second
invariant_of-second c =
    new_lane Second _ c.another-4.result c.another-6.result c.another-4.ensures.queue.2 c.another-6.ensures.queue.1.1
    (c.another-4.ensures.rule.1 ∙ ap (λ (h : Hand Item). sender Second h.sent) (c.another-2.ensures.rule.0 ∙ c.in-Ok.ensures.2))
    (c.another-6.ensures.rule.1 ∙ ap (λ (h : Hand Mark). sender Second h.sent) (c.another-3.ensures.rule.0 ∙ ap (without First) c.in_ok-marks.ensures.3))

pub invariant_of-inbox : goal.invariant_of-inbox
invariant_of-inbox c =
    new_inboxes _ _ c.another-6.new.pass (ap (λ (r : LaneReceiver). r.lane) c.new-3.ensures) (ap (λ (r : LaneReceiver). r.lane) c.new-4.ensures)
    (ap (λ (r : LaneReceiver). r.taken) c.new-3.ensures
    ∙ ap (λ (h : Hand Item). h.got) (c.another-5.ensures.rule.0 ∙ (c.another.ensures.rule.0 ∙ ap (without First) c.in_ok-first_items.ensures.2)))
    (ap (λ (r : LaneReceiver). r.taken) c.new-4.ensures
    ∙ ap (λ (h : Hand Item). h.got) (c.another-4.ensures.rule.0 ∙ ap (without Second) (c.another-2.ensures.rule.0 ∙ c.in-Ok.ensures.2)))
    (c.another-6.ensures.queue.0.2 ∙ (c.another-3.ensures.queue.0.2 ∙ c.in_ok-marks.ensures.1.1))
    (c.another-6.ensures.rule.0 ∙ ap (without Second) (c.another-3.ensures.rule.0 ∙ ap (without First) c.in_ok-marks.ensures.3))

pub returns-clause-mail : goal.returns-clause-mail
returns-clause-mail c =
    let table = c.another-3.ensures.queue.0.0 ∙ c.in_ok-marks.ensures.1.0 in (
      of_mail _ _ _ _ c.another.result c.another-2.result c.another.ensures.queue.2 c.another-2.ensures.queue.2 c.another-3.ensures.queue.1.0,
      of_mail _ _ _ _ c.another-5.result c.another-4.result c.another-5.ensures.queue.2 c.another-4.ensures.queue.2 c.another-6.ensures.queue.1.0,
      inboxes_of_mail _ _ _ _ _ _ c.another-5.new.pass c.another-4.new.pass (ap (λ (r : LaneReceiver). r.queue) c.new-3.ensures)
          (ap (λ (r : LaneReceiver). r.queue) c.new-4.ensures) c.another-5.ensures.queue.0 c.another-4.ensures.queue.0
          (c.another-6.ensures.queue.0.0 ∙ table),
    )

pub returns-clause-sent : goal.returns-clause-sent
returns-clause-sent c = (
  ap (λ (h : Hand Item). h.sent) (c.another.ensures.rule.1 ∙ ap (λ (h : Hand Item). sender First h.sent) c.in_ok-first_items.ensures.2),
  ap (λ (h : Hand Item). h.sent)
      (c.another-4.ensures.rule.1 ∙ ap (λ (h : Hand Item). sender Second h.sent) (c.another-2.ensures.rule.0 ∙ c.in-Ok.ensures.2)),
)

pub returns-clause-taken : goal.returns-clause-taken
returns-clause-taken c = (
  ap (λ (r : LaneReceiver). r.taken) c.new-3.ensures
      ∙ ap (λ (h : Hand Item). h.got) (c.another-5.ensures.rule.0 ∙ (c.another.ensures.rule.0 ∙ ap (without First) c.in_ok-first_items.ensures.2)),
  ap (λ (r : LaneReceiver). r.taken) c.new-4.ensures
      ∙ ap (λ (h : Hand Item). h.got) (c.another-4.ensures.rule.0 ∙ ap (without Second) (c.another-2.ensures.rule.0 ∙ c.in-Ok.ensures.2)),
)
