use Rattle.std.proofs.Common.{◌≡◌, ◌<◌, [], length, refl, sym, ap, ◌∙◌, arith}
use Rattle.crossbeam_queue.specs.Passes.{view, ruled_capacity}
use Rattle.lane_mail.specs.Lanes.{mark_lane}
use Rattle.lane_mail.specs.Hands.{sender}
use Rattle.lane_mail.proofs.Carrying.{puts, has_room}
use Rattle.lane_mail.proofs.mail.Mail.end.Goals as goal

pub push_as-requires-clause-rule : goal.push_as-requires-clause-rule
push_as-requires-clause-rule g c =
    let v = view c.pass.inside.marks in
    let lane = c.pass.inside.lane in
    let none : v ≡ sender lane [] = c.pass.invariant.unsent in
    let is : v ≡ sender lane v.sent = none ∙ sym (ap (λ w. sender lane w.sent) none) in
    let room : length v.sent < 1 = omega (arith, ap (λ w. length w.sent) none) in (
      puts mark_lane 1 (ruled_capacity c.self.inside.marks) c.pass.inside.marks.id v _ lane is refl room,
      has_room mark_lane c.pass.inside.marks.id v lane none,
    )
