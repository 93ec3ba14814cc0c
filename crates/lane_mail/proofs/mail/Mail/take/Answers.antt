use Rattle.lane_mail.proofs.Looking.{no_marks, marks_more, gives_mail, gives_item, gives_ended, gives_few, gives_turn, gives_next, gives_ends, gives_at_end}
use Rattle.lane_mail.proofs.mail.Mail.take.Goals as goal

pub loop-init : goal.loop-init
loop-init g c = no_marks c.args.pass.now

pub loop-preserved : goal.loop-preserved
loop-preserved g c =
    marks_more c.args.pass.now c.loop.pass c.look.new.pass c.await_more.new.pass c.loop.invariant c.in-None-look.ensures c.await_more.ensures.mail
    c.await_more.ensures.taken c.await_more.ensures.ends c.await_more.ensures.next

pub returns-in-Some-look-clause-mail : goal.returns-in-Some-look-clause-mail
returns-in-Some-look-clause-mail g c = gives_mail c.args.pass.now c.loop.pass c.look.new.pass c.loop.invariant c.in-Some-look.taken c.in-Some-look.ensures

pub returns-in-Some-look-clause-item : goal.returns-in-Some-look-clause-item
returns-in-Some-look-clause-item g c = gives_item c.args.pass.now c.loop.pass c.look.new.pass c.loop.invariant c.in-Some-look.taken c.in-Some-look.ensures

pub returns-in-Some-look-clause-ended : goal.returns-in-Some-look-clause-ended
returns-in-Some-look-clause-ended g c = gives_ended c.args.pass.now c.loop.pass c.look.new.pass c.loop.invariant c.in-Some-look.taken c.in-Some-look.ensures

pub returns-in-Some-look-clause-few : goal.returns-in-Some-look-clause-few
returns-in-Some-look-clause-few g c = gives_few c.args.pass.now c.loop.pass c.look.new.pass c.loop.invariant c.in-Some-look.taken c.in-Some-look.ensures

pub returns-in-Some-look-clause-turn : goal.returns-in-Some-look-clause-turn
returns-in-Some-look-clause-turn g c = gives_turn c.args.pass.now c.loop.pass c.look.new.pass c.loop.invariant c.in-Some-look.taken c.in-Some-look.ensures

pub returns-in-Some-look-clause-next : goal.returns-in-Some-look-clause-next
returns-in-Some-look-clause-next g c = gives_next c.args.pass.now c.loop.pass c.look.new.pass c.loop.invariant c.in-Some-look.taken c.in-Some-look.ensures

pub returns-in-Some-look-clause-ends : goal.returns-in-Some-look-clause-ends
returns-in-Some-look-clause-ends g c = gives_ends c.args.pass.now c.loop.pass c.look.new.pass c.loop.invariant c.in-Some-look.taken c.in-Some-look.ensures

pub returns-in-Some-look-clause-at_end : goal.returns-in-Some-look-clause-at_end
returns-in-Some-look-clause-at_end g c = gives_at_end c.args.pass.now c.loop.pass c.look.new.pass c.loop.invariant c.in-Some-look.taken c.in-Some-look.ensures
