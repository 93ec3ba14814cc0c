use Rattle.std.proofs.Common.{◌≡◌, ◌^◌, length, Some, sym, ap, ◌∙◌}
use Rattle.crossbeam_queue.specs.Passes.{view}
use Rattle.lane_mail.specs.Lanes.{item_lane, mark_lane, items_of}
use Rattle.lane_mail.specs.Inside.{hand_of}
use Rattle.lane_mail.specs.Values.{Sender, LaneReceiver}
use Rattle.lane_mail.proofs.Carrying.{merges, learns}
use Rattle.lane_mail.proofs.Settled.{settled}
use Rattle.lane_mail.proofs.settling.settle.Goals as goal

pub absorb-requires-clause-rule : goal.absorb-requires-clause-rule
absorb-requires-clause-rule g c = merges item_lane (2 ^ 61) _ _ _ _

pub len_as-requires-clause-rule : goal.len_as-requires-clause-rule
len_as-requires-clause-rule g c =
    learns item_lane (2 ^ 61) _ _ (ap (λ v. v.takes) c.absorb.ensures.rule ∙ ap (λ v. v.takes) c.inbox.invariant.takes)

pub absorb-requires-2-clause-rule : goal.absorb-requires-2-clause-rule
absorb-requires-2-clause-rule g c = merges mark_lane 1 _ _ _ _

pub learn_as-requires-clause-rule : goal.learn_as-requires-clause-rule
learn_as-requires-clause-rule g c = learns mark_lane 1 _ _ (ap (λ v. v.takes) c.absorb-2.ensures.rule ∙ c.requires.takes)

pub returns-clause-sent : goal.returns-clause-sent
returns-clause-sent g c =
    let lane = c.args.inbox.lane in
    let items = hand_of c.inbox.inside.items in
    let done = c.done.inside in
    let got : items.got ≡ c.args.inbox.taken = ap (λ (r : LaneReceiver). r.taken) c.inbox.view_is in
    let only : items_of lane items.got ≡ items.got = rw (ap (λ (r : LaneReceiver). r.lane) c.inbox.view_is) at c.inbox.invariant.only in
    let same : items_of lane items.got ≡ (hand_of done.items).sent =
    settled lane done.lane (ap (λ (s : Sender). s.lane) c.done.view_is ∙ c.requires.lane) items (hand_of done.items) (hand_of c.absorb.new.pass)
    (view c.args.ends.now) (view done.marks) (view c.absorb-2.new.pass) c.len_as.ensures.rule.0 c.learn_as.ensures.rule.0 (Some (length c.args.inbox.taken))
    c.done.invariant.sends c.done.invariant.ended c.absorb.ensures.rule c.absorb-2.ensures.rule c.len_as.ensures.rule.2 c.learn_as.ensures.rule.1
    c.requires.ended (ap (λ l. Some (length l)) (sym (only ∙ got))) in
    sym got ∙ (sym only ∙ (same ∙ ap (λ (s : Sender). s.sent) c.done.view_is))

pub returns-clause-taken : goal.returns-clause-taken
returns-clause-taken g c =
    ap (λ v. v.got) (c.len_as.ensures.queue.2 ∙ c.absorb.ensures.rule) ∙ (ap (λ (r : LaneReceiver). r.taken) c.inbox.view_is ∙ returns-clause-sent g c)
