use Rattle.std.proofs.Common.{ap, sym, ◌∙◌}
use Rattle.crossbeam_queue.specs.Passes.{view}
use Rattle.lane_mail.specs.declared.lane.Lane.TheVariants.{First, Second}
use Rattle.lane_mail.specs.Lanes.{is_lane, mark_lane}
use Rattle.lane_mail.specs.Values.{Receiver}
use Rattle.lane_mail.proofs.Carrying.{gets}
use Rattle.lane_mail.proofs.Marks.{none_before, marked, marked_still, got_mark, stays_none}
use Rattle.lane_mail.proofs.mail.Mail.pop_mark.Goals as goal

pub pop_as-requires-clause-rule : goal.pop_as-requires-clause-rule
pop_as-requires-clause-rule g c = (gets mark_lane 1 _ _ c.pass.invariant.takes_marks, λ _ _ _ _. tt)

pub invariant_of-pass : goal.invariant_of-pass
invariant_of-pass g c =
    let old = c.pass.invariant in
    let taken = c.in-Some.ensures.rule in
    let v = view c.pass.inside.marks in
    let w = view c.pop_as.new.pass in
    got_mark c.pass.inside.first c.pass.inside.second c.pass.inside.marks c.pop_as.new.pass c.in-Some.mark _ _ _ _ old taken c.in-Some.ensures.queue.2
    (marked First v w c.in-Some.mark c.pass.inside.first_end taken c.in-First.is old.first_marked)
    (marked_still Second v w c.in-Some.mark c.pass.inside.second_end taken (ap (is_lane Second) c.in-First.is) old.second_marked)

pub invariant_of-pass-in-Second : goal.invariant_of-pass-in-Second
invariant_of-pass-in-Second g c =
    let old = c.pass.invariant in
    let taken = c.in-Some.ensures.rule in
    let v = view c.pass.inside.marks in
    let w = view c.pop_as.new.pass in
    got_mark c.pass.inside.first c.pass.inside.second c.pass.inside.marks c.pop_as.new.pass c.in-Some.mark _ _ _ _ old taken c.in-Some.ensures.queue.2
    (marked_still First v w c.in-Some.mark c.pass.inside.first_end taken (ap (is_lane First) c.in-Second.is) old.first_marked)
    (marked Second v w c.in-Some.mark c.pass.inside.second_end taken c.in-Second.is old.second_marked)

pub returns-in-First-clause-ends : goal.returns-in-First-clause-ends
returns-in-First-clause-ends g c =
    let was = ap (λ (r : Receiver). r.first_end) (sym c.pass.view_is) in
    let none = none_before First (view c.pass.inside.marks) (view c.pop_as.new.pass) c.in-Some.mark c.pass.inside.first_end c.in-Some.ensures.rule c.in-First.is
    c.pass.invariant.first_marked in
    record {
      first = stays_none c.args.pass.now.first_end c.in-Some.mark.count (was ∙ none);
      second = λ count e. ap (λ (r : Receiver). r.second_end) c.pass.view_is ∙ e;
    }

pub returns-in-Second-clause-ends : goal.returns-in-Second-clause-ends
returns-in-Second-clause-ends g c =
    let was = ap (λ (r : Receiver). r.second_end) (sym c.pass.view_is) in
    let none = none_before Second (view c.pass.inside.marks) (view c.pop_as.new.pass) c.in-Some.mark c.pass.inside.second_end c.in-Some.ensures.rule
    c.in-Second.is c.pass.invariant.second_marked in
    record {
      first = λ count e. ap (λ (r : Receiver). r.first_end) c.pass.view_is ∙ e;
      second = stays_none c.args.pass.now.second_end c.in-Some.mark.count (was ∙ none);
    }
